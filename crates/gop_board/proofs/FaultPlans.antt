-- A job's fault: the commands before it, by the plan of the job's first frames.
use Rattle.std.proofs.Common.{◌≡◌, ℕ, zero, suc, ◌+◌, ◌-◌, ◌≤◌, ◌<◌, Bool, true, false, cond, not, leb, eqb, nat_le, ◌&&◌, ◌||◌, ap₂, append_assoc, drop, count_by, Some, nat_lt, Global, None, List, [], ◌∷◌, ◌++◌, map, filter, length, take, replicate, All, refl, sym, ap, ◌∙◌, subst, arith}
use Rattle.std.specs.Prelude.{⊤}
use Rattle.std.specs.declared.sync.Arc.{Arc}
use Rattle.std.proofs.lemmas.Bool.{ltb-false, ne_eqb, true≢false}
use Rattle.std.proofs.lemmas.List.{length-map, take-append-le}
use Rattle.std.proofs.lemmas.Option.{none-some}
use Rattle.coding_base.specs.Runs.{Runs, after_calls}
use Rattle.av1_frame.specs.declared.frame.Frame.{Frame}
use Rattle.av1_settings.specs.declared.encoder.EncoderConfig.{EncoderConfig}
use Rattle.av1_frame.specs.Planes.{fits}
use Rattle.av1_settings.specs.declared.status.EncoderStatus.{EncoderStatus}
use Rattle.av1_settings.specs.declared.status.EncoderStatus.TheVariants.{EnoughData, FrameSizeMismatch, LimitReached, NeedMoreData}
use Rattle.av1_settings.specs.Settings.{interval_of}
use Rattle.pyramid.specs.declared.command.Command.{Command}
use Rattle.pyramid.specs.Begins.{Begins}
use Rattle.pyramid.specs.Known.{is_coding, known}
use Rattle.pyramid.specs.Plan.{plan}
use Rattle.pyramid.proofs.PublicLaws.{known_begins_later_plans, settings_have_a_table}
use Rattle.pyramid.specs.Settings.{numbers_of}
use Rattle.quantizers.specs.Tables.{Tables}
use Rattle.session_core.specs.declared.call.Call.{Call}
use Rattle.session_core.specs.declared.call.Call.TheVariants.{Send, Flush, Receive}
use Rattle.session_core.specs.declared.transcript.Decision.{Decision}
use Rattle.session_core.specs.declared.transcript.Reply.{Reply}
use Rattle.session_core.specs.declared.transcript.Reply.TheVariants.{Sent, Flushed, Packet as GivesPacket, Status}
use Rattle.session_core.specs.declared.transcript.Turn.{Turn}
use Rattle.session_core.specs.Decisions.{key_positions, keys_of}
use Rattle.session_core.specs.Moments.{Accepted, Moment, is_complete, known_at, opening, plan_at}
use Rattle.session_core.specs.Questions.{AreAnswered}
use Rattle.session_core.specs.Sessions.{commands_of, moment_after}
use Rattle.session_core.specs.Told.{DetectorTold, Heard}
use Rattle.session_core.specs.Turns.{IsTurn, accepted_of, after_receive, after_send, after_turn, has_enough, held_back, needs_more_data, sent_reply}
use Rattle.session_log.specs.declared.entry.LogEntry.{LogEntry}
use Rattle.gop_board.specs.JobCalls.{done_before, job_calls, job_known, job_plan, job_settings, sends_from}
use Rattle.gop_board.specs.JobSessions.{IsFresh, IsSessionFault}
use Rattle.gop_board.specs.Makers.{MakerTold}
use Rattle.gop_board.proofs.Receiving.{interval-positive}
use Rattle.gop_board.proofs.SameCalls.{SameCalls, Unkeyed, job-calls-same, unkeyed-run}

-- ---- frames that are accepted

unfoldable pub sends : {T : Type 0} → List (Call T ⊤) → ℕ
sends [] = 0
sends (Send frame parameters ∷ calls) = 1 + sends calls
sends (Flush ∷ calls) = sends calls
sends (Receive ∷ calls) = sends calls

sends-append : {T : Type 0} (calls more : List (Call T ⊤)) → sends (calls ++ more) ≡ sends calls + sends more
unfolding sends
sends-append [] more = omega arith
sends-append (Send frame parameters ∷ calls) more = omega (arith, sends-append calls more)
sends-append (Flush ∷ calls) more = sends-append calls more
sends-append (Receive ∷ calls) more = sends-append calls more

sends-receives : (T : Type 0) (n : ℕ) → sends {T = T} (replicate n Receive) ≡ 0
unfolding sends
sends-receives T zero = refl
sends-receives T (suc n) = sends-receives T n

sends-sends : {T : Type 0} (enc : EncoderConfig) (number : ℕ) (frames : List (Arc (Frame T) Global)) → sends (sends_from enc number frames) ≡ length frames
unfolding sends
sends-sends enc number [] = refl
sends-sends {T} enc number (frame ∷ frames) =
    omega (
      arith,
      sends-append (replicate (done_before enc number - done_before enc (number - 1)) Receive) (Send frame None ∷ sends_from enc (number + 1) frames),
      sends-receives T (done_before enc number - done_before enc (number - 1)),
      sends-sends enc (number + 1) frames,
    )

pub sends-job : {T : Type 0} (enc : EncoderConfig) (frames : List (Arc (Frame T) Global)) → sends (job_calls enc frames) ≡ length frames
unfolding sends
sends-job {T} enc frames =
    omega (
      arith,
      sends-append (sends_from enc 0 frames) (Flush ∷ replicate (length (job_plan enc (length frames)) - done_before enc (length frames - 1)) Receive),
      sends-receives T (length (job_plan enc (length frames)) - done_before enc (length frames - 1)),
      sends-sends enc 0 frames,
    )

sends-take : {T : Type 0} (k : ℕ) (calls : List (Call T ⊤)) → sends (take k calls) ≤ sends calls
unfolding sends
sends-take zero calls = omega arith
sends-take (suc k) [] = omega arith
sends-take (suc k) (Send frame parameters ∷ calls) = omega (arith, sends-take k calls)
sends-take (suc k) (Flush ∷ calls) = sends-take k calls
sends-take (suc k) (Receive ∷ calls) = sends-take k calls

send-bound : {T : Type 0} (enc : EncoderConfig) (D : List Decision) (m : Moment T ⊤) (frame : Accepted T ⊤) (reply : Reply T ⊤) → (after_send enc D m frame reply).accepted ≤ m.accepted + 1
send-bound enc D m frame (Sent number) = omega arith
send-bound enc D m frame Flushed = omega arith
send-bound enc D m frame (GivesPacket packet) = omega arith
send-bound enc D m frame (Status status) = omega arith

pub receive-accepted : {T : Type 0} (m : Moment T ⊤) (log : List LogEntry) (reply : Reply T ⊤) → (after_receive m log reply).accepted ≡ m.accepted
receive-accepted m log (Sent number) = refl
receive-accepted m log Flushed = refl
receive-accepted m log (GivesPacket packet) = refl
receive-accepted m log (Status status) = refl

accepted-bound : {T : Type 0} (enc : EncoderConfig) (D : List Decision) (m : Moment T ⊤) (calls : List (Call T ⊤)) (turns : List (Turn T ⊤)) →
    (after_calls (after_turn enc D) m calls turns).accepted ≤ m.accepted + sends calls
unfolding sends
accepted-bound enc D m [] turns = omega arith
accepted-bound enc D m (call ∷ calls) [] = omega arith
accepted-bound enc D m (Send frame parameters ∷ calls) (turn ∷ turns) =
    omega (arith, accepted-bound enc D (after_send enc D m (accepted_of frame.value parameters) turn.reply) calls turns, send-bound enc D m (accepted_of frame.value parameters) turn.reply)
accepted-bound enc D m (Flush ∷ calls) (turn ∷ turns) = accepted-bound enc D (after_turn enc D m Flush turn) calls turns
accepted-bound enc D m (Receive ∷ calls) (turn ∷ turns) =
    omega (arith, accepted-bound enc D (after_receive m turn.log turn.reply) calls turns, receive-accepted m turn.log turn.reply)

-- ---- the plan without decided keys

no-keys : (decisions : List Decision) → Unkeyed decisions → filter (λ decision. decision.key) decisions ≡ []
no-keys [] un = refl
no-keys (one ∷ decisions) un =
    ap (λ (b : Bool). cond b (one ∷ filter (λ (d : Decision). d.key) decisions) (filter (λ (d : Decision). d.key) decisions)) un.0 ∙ no-keys decisions un.1

plan-of : (enc : EncoderConfig) (accepted : ℕ) (decisions : List Decision) → Unkeyed decisions →
    plan (numbers_of enc) (interval_of enc.max_key_frame_interval) accepted (keys_of accepted decisions) ≡ job_plan enc accepted
plan-of enc zero decisions un = refl
plan-of enc (suc accepted) decisions un =
    ap (λ (none : Bool). plan (numbers_of enc) (interval_of enc.max_key_frame_interval) (suc accepted) (cond none [] (0 ∷ key_positions decisions))) (ne_eqb (suc accepted) 0 (omega arith))
    ∙ ap (λ (keys : List Decision). plan (numbers_of enc) (interval_of enc.max_key_frame_interval) (suc accepted) (0 ∷ map (λ (d : Decision). d.position) keys)) (no-keys decisions un)

same-take : {T : Type 0} (k : ℕ) (calls others : List (Call T ⊤)) → SameCalls calls others → SameCalls (take k calls) (take k others)
same-take zero calls others same = tt
same-take (suc k) [] [] same = tt
same-take (suc k) [] (other ∷ others) same = absurd same
same-take (suc k) (call ∷ calls) [] same = absurd same
same-take (suc k) (call ∷ calls) (other ∷ others) same = (same.0, same-take k calls others same.1)

-- ---- all frames are accepted before the flush

-- sends behind a flush
unfoldable pub late : {T : Type 0} → List (Call T ⊤) → ℕ
late [] = 0
late (Send frame parameters ∷ calls) = late calls
late (Flush ∷ calls) = sends calls
late (Receive ∷ calls) = late calls

late-receives : {T : Type 0} (n : ℕ) (calls : List (Call T ⊤)) → late (replicate n Receive ++ calls) ≡ late calls
unfolding late
late-receives zero calls = refl
late-receives (suc n) calls = late-receives n calls

late-sends : {T : Type 0} (enc : EncoderConfig) (number : ℕ) (frames : List (Arc (Frame T) Global)) (rest : List (Call T ⊤)) → late (sends_from enc number frames ++ rest) ≡ late rest
unfolding late
late-sends enc number [] rest = refl
late-sends {T} enc number (frame ∷ frames) rest =
    ap late (append_assoc (replicate (done_before enc number - done_before enc (number - 1)) Receive) (Send frame None ∷ sends_from enc (number + 1) frames) rest)
    ∙ late-receives (done_before enc number - done_before enc (number - 1)) (Send frame None ∷ (sends_from enc (number + 1) frames ++ rest))
    ∙ late-sends enc (number + 1) frames rest

pub late-job : {T : Type 0} (enc : EncoderConfig) (frames : List (Arc (Frame T) Global)) → late (job_calls enc frames) ≡ 0
unfolding late
late-job {T} enc frames =
    late-sends enc 0 frames (Flush ∷ replicate (length (job_plan enc (length frames)) - done_before enc (length frames - 1)) Receive)
    ∙ sends-receives T (length (job_plan enc (length frames)) - done_before enc (length frames - 1))

late-take : {T : Type 0} (k : ℕ) (calls : List (Call T ⊤)) → late (take k calls) ≤ late calls
unfolding late
late-take zero calls = omega arith
late-take (suc k) [] = omega arith
late-take (suc k) (Send frame parameters ∷ calls) = late-take k calls
late-take (suc k) (Flush ∷ calls) = sends-take k calls
late-take (suc k) (Receive ∷ calls) = late-take k calls

pub send-flushed : {T : Type 0} (enc : EncoderConfig) (D : List Decision) (m : Moment T ⊤) (frame : Accepted T ⊤) (reply : Reply T ⊤) → (after_send enc D m frame reply).flushed ≡ m.flushed
send-flushed enc D m frame (Sent number) = refl
send-flushed enc D m frame Flushed = refl
send-flushed enc D m frame (GivesPacket packet) = refl
send-flushed enc D m frame (Status status) = refl

send-rises : {T : Type 0} (enc : EncoderConfig) (D : List Decision) (m : Moment T ⊤) (frame : Accepted T ⊤) (reply : Reply T ⊤) → m.accepted ≤ (after_send enc D m frame reply).accepted
send-rises enc D m frame (Sent number) = omega arith
send-rises enc D m frame Flushed = omega arith
send-rises enc D m frame (GivesPacket packet) = omega arith
send-rises enc D m frame (Status status) = omega arith

pub receive-flushed : {T : Type 0} (m : Moment T ⊤) (log : List LogEntry) (reply : Reply T ⊤) → (after_receive m log reply).flushed ≡ m.flushed
receive-flushed m log (Sent number) = refl
receive-flushed m log Flushed = refl
receive-flushed m log (GivesPacket packet) = refl
receive-flushed m log (Status status) = refl

-- where the session is flushed, all sends stand among the calls
sends-flushed : {T : Type 0} (enc : EncoderConfig) (D : List Decision) (k : ℕ) (m : Moment T ⊤) (calls : List (Call T ⊤)) (turns : List (Turn T ⊤)) → m.flushed ≡ false →
    (after_calls (after_turn enc D) m (take k calls) turns).flushed ≡ true → late calls ≡ 0 → sends (take k calls) ≡ sends calls
unfolding late sends
sends-flushed enc D zero m calls turns going ended none = absurd (true≢false (sym ended ∙ going))
sends-flushed enc D (suc k) m [] turns going ended none = refl
sends-flushed enc D (suc k) m (call ∷ calls) [] going ended none = absurd (true≢false (sym ended ∙ going))
sends-flushed enc D (suc k) m (Send frame parameters ∷ calls) (turn ∷ turns) going ended none =
    ap (λ (n : ℕ). 1 + n) (sends-flushed enc D k (after_send enc D m (accepted_of frame.value parameters) turn.reply) calls turns (send-flushed enc D m _ turn.reply ∙ going) ended none)
sends-flushed enc D (suc k) m (Flush ∷ calls) (turn ∷ turns) going ended none = omega (arith, sends-take k calls)
sends-flushed enc D (suc k) m (Receive ∷ calls) (turn ∷ turns) going ended none =
    sends-flushed enc D k (after_receive m turn.log turn.reply) calls turns (receive-flushed m turn.log turn.reply ∙ going) ended none

accepted-rises : {T : Type 0} (enc : EncoderConfig) (D : List Decision) (m : Moment T ⊤) (calls : List (Call T ⊤)) (turns : List (Turn T ⊤)) →
    m.accepted ≤ (after_calls (after_turn enc D) m calls turns).accepted
accepted-rises enc D m [] turns = omega arith
accepted-rises enc D m (call ∷ calls) [] = omega arith
accepted-rises enc D m (Send frame parameters ∷ calls) (turn ∷ turns) =
    omega (arith, accepted-rises enc D (after_send enc D m (accepted_of frame.value parameters) turn.reply) calls turns, send-rises enc D m (accepted_of frame.value parameters) turn.reply)
accepted-rises enc D m (Flush ∷ calls) (turn ∷ turns) = accepted-rises enc D (after_turn enc D m Flush turn) calls turns
accepted-rises enc D m (Receive ∷ calls) (turn ∷ turns) =
    omega (arith, accepted-rises enc D (after_receive m turn.log turn.reply) calls turns, receive-accepted m turn.log turn.reply)

-- a frame that fits is accepted while there may be more
or-false : (a b : Bool) → a ≡ false → b ≡ false → a || b ≡ false
or-false a b p q = ap₂ (λ (x y : Bool). x || y) p q

still-false : (still : Bool) (accepted : ℕ) → (still ≡ true → accepted + 1 ≤ 1) → still && nat_le 1 accepted ≡ false
still-false false accepted few = refl
still-false true accepted few = let none : accepted ≡ 0 = omega (arith, few refl) in ap (λ (n : ℕ). leb 1 n) none

pub sent-ok : {T : Type 0} (enc : EncoderConfig) (m : Moment T ⊤) (picture : Frame T) → m.flushed ≡ false → (enc.still_picture ≡ true → m.accepted + 1 ≤ 1) → m.accepted + 1 ≤ 2147483646 →
    fits picture enc.width enc.height enc.chroma_sampling ≡ true → sent_reply enc m picture ≡ Sent m.accepted
sent-ok {T} enc m picture going few within fit =
    ap₂ (λ (enough fit : Bool). cond enough (status EnoughData) (cond fit (Sent m.accepted) (status FrameSizeMismatch))) has fit
  where
    status : EncoderStatus → Reply T ⊤
    status one = Status one

    has : has_enough enc m ≡ false
    has = or-false (m.flushed || (enc.still_picture && nat_le 1 m.accepted)) (eqb m.accepted 2147483646)
        (or-false m.flushed (enc.still_picture && nat_le 1 m.accepted) going (still-false enc.still_picture m.accepted few)) (ne_eqb m.accepted 2147483646 (omega arith))

-- the frames of these calls fit
unfoldable pub Fit : {T : Type 0} → EncoderConfig → List (Call T ⊤) → Type 0
Fit enc [] = ⊤
Fit enc (Send frame parameters ∷ calls) = (fits frame.value enc.width enc.height enc.chroma_sampling ≡ true) × Fit enc calls
Fit enc (Flush ∷ calls) = Fit enc calls
Fit enc (Receive ∷ calls) = Fit enc calls

fit-append : {T : Type 0} (enc : EncoderConfig) (calls more : List (Call T ⊤)) → Fit enc calls → Fit enc more → Fit enc (calls ++ more)
unfolding Fit
fit-append enc [] more a b = b
fit-append enc (Send frame parameters ∷ calls) more a b = (a.0, fit-append enc calls more a.1 b)
fit-append enc (Flush ∷ calls) more a b = fit-append enc calls more a b
fit-append enc (Receive ∷ calls) more a b = fit-append enc calls more a b

fit-receives : (T : Type 0) (enc : EncoderConfig) (n : ℕ) → Fit {T = T} enc (replicate n Receive)
unfolding Fit
fit-receives T enc zero = tt
fit-receives T enc (suc n) = fit-receives T enc n

fit-take : {T : Type 0} (enc : EncoderConfig) (k : ℕ) (calls : List (Call T ⊤)) → Fit enc calls → Fit enc (take k calls)
unfolding Fit
fit-take enc zero calls a = tt
fit-take enc (suc k) [] a = tt
fit-take enc (suc k) (Send frame parameters ∷ calls) a = (a.0, fit-take enc k calls a.1)
fit-take enc (suc k) (Flush ∷ calls) a = fit-take enc k calls a
fit-take enc (suc k) (Receive ∷ calls) a = fit-take enc k calls a

fit-sends : {T : Type 0} (enc settings : EncoderConfig) (number : ℕ) (frames : List (Arc (Frame T) Global)) →
    All (λ picture. fits picture enc.width enc.height enc.chroma_sampling ≡ true) (map (λ frame. frame.value) frames) → Fit enc (sends_from settings number frames)
unfolding Fit
fit-sends enc settings number [] all = tt
fit-sends {T} enc settings number (frame ∷ frames) all =
    fit-append enc (replicate (done_before settings number - done_before settings (number - 1)) Receive) (Send frame None ∷ sends_from settings (number + 1) frames)
    (fit-receives T enc (done_before settings number - done_before settings (number - 1)))
    (all 0 frame.value (omega arith), fit-sends enc settings (number + 1) frames (λ k d within. all (suc k) d (omega arith)))

pub fit-job : {T : Type 0} (enc settings : EncoderConfig) (frames : List (Arc (Frame T) Global)) →
    All (λ picture. fits picture enc.width enc.height enc.chroma_sampling ≡ true) (map (λ frame. frame.value) frames) → Fit enc (job_calls settings frames)
unfolding Fit
fit-job {T} enc settings frames all =
    fit-append enc (sends_from settings 0 frames) (Flush ∷ replicate (length (job_plan settings (length frames)) - done_before settings (length frames - 1)) Receive)
    (fit-sends enc settings 0 frames all) (fit-receives T enc (length (job_plan settings (length frames)) - done_before settings (length frames - 1)))

accepted-all : {T : Type 0} (enc : EncoderConfig) (D : List Decision) (m : Moment T ⊤) (calls : List (Call T ⊤)) (turns : List (Turn T ⊤)) →
    Runs (IsTurn enc D) (after_turn enc D) m calls turns → m.flushed ≡ false → late calls ≡ 0 → Fit enc calls → (enc.still_picture ≡ true → m.accepted + sends calls ≤ 1) →
    m.accepted + sends calls ≤ 2147483646 → (after_calls (after_turn enc D) m calls turns).accepted ≡ m.accepted + sends calls
unfolding late sends Fit
accepted-all enc D m [] [] runs going none fit few within = omega arith
accepted-all enc D m [] (turn ∷ turns) runs going none fit few within = absurd runs
accepted-all enc D m (call ∷ calls) [] runs going none fit few within = absurd runs
accepted-all {T} enc D m (Send frame parameters ∷ calls) (turn ∷ turns) runs going none fit few within =
    let reply : turn.reply ≡ Sent m.accepted = runs.0.0.0 ∙ sent-ok enc m frame.value going (λ still. omega (arith, few still)) (omega arith) fit.0 in
    let next = after_send enc D m (accepted_of frame.value parameters) turn.reply in
    let one : next.accepted ≡ m.accepted + 1 = ap (λ (r : Reply T ⊤). (after_send enc D m (accepted_of frame.value parameters) r).accepted) reply in
    let rest = accepted-all enc D next calls turns runs.1 (send-flushed enc D m (accepted_of frame.value parameters) turn.reply ∙ going) none fit.1
    (λ still. omega (arith, few still, one)) (omega (arith, one)) in
    omega (arith, rest, one)
accepted-all enc D m (Flush ∷ calls) (turn ∷ turns) runs going none fit few within =
    omega (arith, accepted-bound enc D (after_turn enc D m Flush turn) calls turns, accepted-rises enc D (after_turn enc D m Flush turn) calls turns)
accepted-all enc D m (Receive ∷ calls) (turn ∷ turns) runs going none fit few within =
    let next = after_receive m turn.log turn.reply in
    let same : next.accepted ≡ m.accepted = receive-accepted m turn.log turn.reply in
    let rest = accepted-all enc D next calls turns runs.1 (receive-flushed m turn.log turn.reply ∙ going) none fit (λ still. omega (arith, few still, same)) (omega (arith, same)) in
    omega (arith, rest, same)

-- ---- what is known before the flush

needs-not : (flushed complete needs : Bool) → flushed ≡ false →
    cond (flushed && complete) (Some LimitReached) (cond needs (Some NeedMoreData) None) ≡ None → needs ≡ false
needs-not true complete needs going e = absurd (true≢false going)
needs-not false complete false going e = refl
needs-not false complete true going e = absurd (none-some NeedMoreData (sym e))

enough-not : (flushed few : Bool) → flushed ≡ false → not flushed && few ≡ false → few ≡ false
enough-not true few going e = absurd (true≢false going)
enough-not false few going e = e

within-of : (commands : List Command) (k : ℕ) → 1 ≤ count_by is_coding (drop k commands) → k < length commands
within-of [] zero some = absurd (omega arith)
within-of [] (suc k) some = absurd (omega arith)
within-of (command ∷ commands) zero some = omega arith
within-of (command ∷ commands) (suc k) some = omega (arith, within-of commands k some)

known-of : (enc : EncoderConfig) (accepted : ℕ) (decisions : List Decision) → Unkeyed decisions →
    known (numbers_of enc) (interval_of enc.max_key_frame_interval) accepted (keys_of accepted decisions) ≡ job_known enc accepted
known-of enc zero decisions un = refl
known-of enc (suc accepted) decisions un =
    ap (λ (none : Bool). known (numbers_of enc) (interval_of enc.max_key_frame_interval) (suc accepted) (cond none [] (0 ∷ key_positions decisions))) (ne_eqb (suc accepted) 0 (omega arith))
    ∙ ap (λ (keys : List Decision). known (numbers_of enc) (interval_of enc.max_key_frame_interval) (suc accepted) (0 ∷ map (λ (d : Decision). d.position) keys)) (no-keys decisions un)

-- a known front of two plans
take-known : (enc : EncoderConfig) (accepted later k : ℕ) → accepted ≤ later → k ≤ length (job_known enc accepted) → take k (job_plan enc later) ≡ take k (job_known enc accepted)
take-known enc accepted later k before within =
    let begins : Begins (job_known enc accepted) (job_plan enc later) = known_begins_later_plans (numbers_of enc) (interval_of enc.max_key_frame_interval) accepted later (0 ∷ []) []
    (settings_have_a_table enc) (interval-positive enc.max_key_frame_interval) before (λ j d below. absurd (omega arith)) in
    ap (take k) begins.1 ∙ take-append-le k (job_known enc accepted) begins.0 within

-- at a moment that codes, before the flush, the next command is known
next-known : {T : Type 0} (enc : EncoderConfig) (m : Moment T ⊤) → held_back enc m ≡ None → m.flushed ≡ false → Unkeyed m.decisions → m.commands < length (job_known enc m.accepted)
next-known enc m due going un =
    let few : nat_lt (count_by is_coding (drop m.commands (known_at enc m))) (enc.speed_settings.rdo_lookahead_frames + 1) ≡ false =
    enough-not m.flushed _ going (needs-not m.flushed (is_complete m) (needs_more_data enc m) going due) in
    let same : known_at enc m ≡ job_known enc m.accepted =
    ap (λ (f : Bool). cond f (plan_at enc m) (known (numbers_of enc) (interval_of enc.max_key_frame_interval) m.accepted (keys_of m.accepted m.decisions))) going
    ∙ known-of enc m.accepted m.decisions un in
    let many : enc.speed_settings.rdo_lookahead_frames + 1 ≤ count_by is_coding (drop m.commands (known_at enc m)) = ltb-false _ _ few in
    let some : 1 ≤ count_by is_coding (drop m.commands (job_known enc m.accepted)) =
    subst (λ (l : List Command). 1 ≤ count_by is_coding (drop m.commands l)) same (omega (arith, many)) in
    within-of (job_known enc m.accepted) m.commands some

-- ---- the plan of all frames

pub fault-plan : {T : Type 0} (enc : EncoderConfig) (tables : Tables) (ahead : MakerTold T) (pictures : List (Frame T)) (before after : Heard T) (command : ℕ) →
    All (λ picture. fits picture enc.width enc.height enc.chroma_sampling ≡ true) pictures → length pictures ≤ 2147483646 → (enc.still_picture ≡ true → length pictures ≤ 1) →
    IsFresh ahead before → (fault : IsSessionFault enc tables pictures before after command) →
    commands_of fault.fails.turns ≡ take command (job_plan enc (length pictures))
fault-plan {T} enc tables ahead pictures before after command fit few still fresh fault = by_flush moment.flushed refl
  where
    done : ℕ
    done = fault.fails.done

    moment : Moment T ⊤
    moment = moment_after (job_settings enc) fault.fails.decisions (take fault.fails.done fault.calls) fault.fails.turns

    answered : All (λ decision. decision.forced ≡ false → decision.key ≡ false) fault.fails.decisions
    answered = subst (λ (d : DetectorTold T). AreAnswered d.answers fault.fails.decisions) fresh.detector fault.fails.stopped.asked.ahead

    unkeyed : Unkeyed fault.fails.decisions
    unkeyed = unkeyed-run (take fault.fails.done fault.calls) (take fault.fails.done fault.calls) fault.fails.turns fault.fails.decisions
        (same-take fault.fails.done fault.calls fault.calls (job-calls-same enc pictures fault.calls fault.calls fault.calls_are fault.calls_are)) fault.fails.stopped.keys answered

    un : Unkeyed moment.decisions
    un = subst Unkeyed fault.fails.stopped.decided unkeyed

    count : sends fault.calls ≡ length pictures
    count = ap sends fault.calls_are.calls_are ∙ sends-job enc fault.calls_are.frames ∙ sym (length-map fault.calls_are.frames (λ frame. frame.value)) ∙ ap length fault.calls_are.pictures_are

    bound : moment.accepted ≤ length pictures
    bound = omega (
      arith,
      accepted-bound (job_settings enc) fault.fails.decisions opening (take fault.fails.done fault.calls) fault.fails.turns,
      sends-take fault.fails.done fault.calls,
      count,
    )

    first : commands_of fault.fails.turns ≡ take command (job_plan enc moment.accepted)
    first = fault.fails.stopped.first ∙ ap (take command) (plan-of enc moment.accepted moment.decisions un)

    none-late : late fault.calls ≡ 0
    none-late = ap late fault.calls_are.calls_are ∙ late-job enc fault.calls_are.frames

    all-fit : Fit (job_settings enc) fault.calls
    all-fit = subst (Fit (job_settings enc)) (sym fault.calls_are.calls_are) (fit-job (job_settings enc) enc fault.calls_are.frames
        (subst (All (λ (picture : Frame T). fits picture enc.width enc.height enc.chroma_sampling ≡ true)) (sym fault.calls_are.pictures_are) fit))

    by_flush : (flushed : Bool) → moment.flushed ≡ flushed → commands_of fault.fails.turns ≡ take command (job_plan enc (length pictures))
    by_flush true ended =
        let all : sends (take fault.fails.done fault.calls) ≡ sends fault.calls =
        sends-flushed (job_settings enc) fault.fails.decisions fault.fails.done opening fault.calls fault.fails.turns refl ended none-late in
        let accepted : moment.accepted ≡ 0 + sends (take fault.fails.done fault.calls) =
        accepted-all (job_settings enc) fault.fails.decisions opening (take fault.fails.done fault.calls) fault.fails.turns fault.fails.stopped.answered refl
        (omega (arith, late-take fault.fails.done fault.calls, none-late)) (fit-take (job_settings enc) fault.fails.done fault.calls all-fit)
        (λ yes-still. omega (arith, still yes-still, all, count)) (omega (arith, all, count, few)) in
        let whole : moment.accepted ≡ length pictures = omega (arith, accepted, all, count) in
        first ∙ ap (λ (n : ℕ). take command (job_plan enc n)) whole
    by_flush false going =
        let known : moment.commands < length (job_known enc moment.accepted) = next-known (job_settings enc) moment fault.fails.stopped.due.due going un in
        let within : command ≤ length (job_known enc moment.accepted) = omega (arith, known, fault.fails.stopped.due.next) in
        first ∙ take-known enc moment.accepted moment.accepted command (omega arith) within ∙ sym (take-known enc moment.accepted (length pictures) command bound within)
