-- A job's packets and those of a session over its frames alone have the same bytes, without a bitrate.
use Rattle.std.proofs.Common.{◌≡◌, ℕ, zero, suc, ◌+◌, ◌-◌, ◌≤◌, Bool, true, false, List, [], ◌∷◌, ◌++◌, map, length, replicate, All, Global, ℤ, pos, Option, None, Some, refl, sym, ap, ap₂, ◌∙◌, subst, arith, append-nil}
use Rattle.std.specs.Prelude.{⊤, IfSome, IsSome, IsTrue, int_lt, slice_get}
use Rattle.std.specs.declared.sync.Arc.{Arc}
use Rattle.std.proofs.lemmas.Bool.{false≢true}
use Rattle.std.proofs.lemmas.List.{length-map}
use Rattle.std.proofs.lemmas.Option.{same_Some}
use Rattle.coding_base.specs.Runs.{Runs}
use Rattle.av1_frame.specs.declared.frame.Frame.{Frame}
use Rattle.av1_frame.specs.Planes.{fits}
use Rattle.av1_settings.specs.declared.encoder.EncoderConfig.{EncoderConfig}
use Rattle.quantizers.specs.Tables.{Tables}
use Rattle.session_core.specs.declared.call.Call.{Call}
use Rattle.session_core.specs.declared.call.Call.TheVariants.{Send, Flush, Receive}
use Rattle.session_core.specs.declared.packet.Packet.{Packet}
use Rattle.session_core.specs.declared.transcript.Decision.{Decision}
use Rattle.session_core.specs.declared.transcript.Reply.{Reply}
use Rattle.session_core.specs.declared.transcript.Reply.TheVariants.{Sent}
use Rattle.session_core.specs.declared.transcript.Turn.{Turn}
use Rattle.session_core.specs.Moments.{Accepted, Moment, opening}
use Rattle.session_core.specs.Sessions.{accepted_by, accepted_in}
use Rattle.session_core.specs.Told.{CoderTold, DetectorTold, Gave, Handed, Heard, ScalesTold, Told}
use Rattle.session_core.specs.Turns.{IsTurn, accepted_of, after_receive, after_send, after_turn}
use Rattle.gop_board.specs.Alone.{GaveAlone}
use Rattle.gop_board.specs.JobCalls.{done_before, job_calls, job_plan, job_settings, sends_from}
use Rattle.gop_board.specs.JobSessions.{GavePackets, IsFresh}
use Rattle.gop_board.specs.Makers.{MakerTold}
use Rattle.gop_board.proofs.Alike.{plan_by}
use Rattle.gop_board.proofs.FaultPlans.{Fit, fit-job, late, late-job, receive-accepted, receive-flushed, send-flushed, sends, sends-job, sent-ok}
use Rattle.gop_board.proofs.SameBytes.{bytes_for, map-twice, packet-at, packets_for, sent_plainly}

-- the frames that calls send
abbrev sent_by : {T : Type 0} → List (Call T ⊤) → List (Accepted T ⊤)
sent_by [] = []
sent_by (Send frame parameters ∷ calls) = accepted_of frame.value parameters ∷ sent_by calls
sent_by (Flush ∷ calls) = sent_by calls
sent_by (Receive ∷ calls) = sent_by calls

sent-append : {T : Type 0} (calls more : List (Call T ⊤)) → sent_by (calls ++ more) ≡ sent_by calls ++ sent_by more
sent-append [] more = refl
sent-append {T} (Send frame parameters ∷ calls) more = ap (λ (l : List (Accepted T ⊤)). accepted_of frame.value parameters ∷ l) (sent-append calls more)
sent-append (Flush ∷ calls) more = sent-append calls more
sent-append (Receive ∷ calls) more = sent-append calls more

sent-receives : {T : Type 0} (n : ℕ) (calls : List (Call T ⊤)) → sent_by (replicate n Receive ++ calls) ≡ sent_by calls
sent-receives zero calls = refl
sent-receives (suc n) calls = sent-receives n calls

sent-sends : {T : Type 0} (enc : EncoderConfig) (number : ℕ) (frames : List (Arc (Frame T) Global)) (rest : List (Call T ⊤)) →
    sent_by (sends_from enc number frames ++ rest) ≡ map (λ frame. accepted_of frame.value None) frames ++ sent_by rest
sent-sends enc number [] rest = refl
sent-sends {T} enc number (frame ∷ frames) rest =
    sent-append (replicate (done_before enc number - done_before enc (number - 1)) Receive ++ (Send frame None ∷ sends_from enc (number + 1) frames)) rest
    ∙ ap (λ (l : List (Accepted T ⊤)). l ++ sent_by rest) (sent-receives (done_before enc number - done_before enc (number - 1)) (Send frame None ∷ sends_from enc (number + 1) frames))
    ∙ ap (λ (l : List (Accepted T ⊤)). accepted_of frame.value None ∷ l) (sym (sent-append (sends_from enc (number + 1) frames) rest) ∙ sent-sends enc (number + 1) frames rest)

sent-job : {T : Type 0} (enc : EncoderConfig) (frames : List (Arc (Frame T) Global)) → sent_by (job_calls enc frames) ≡ map (λ frame. accepted_of frame.value None) frames
sent-job {T} enc frames =
    sent-sends enc 0 frames (Flush ∷ replicate (length (job_plan enc (length frames)) - done_before enc (length frames - 1)) Receive)
    ∙ ap (λ (l : List (Accepted T ⊤)). map (λ (frame : Arc (Frame T) Global). accepted_of frame.value None) frames ++ l) none
    ∙ append-nil (map (λ (frame : Arc (Frame T) Global). accepted_of frame.value None) frames)
  where
    receives-none : (n : ℕ) → sent_by {T = T} (replicate n Receive) ≡ []
    receives-none zero = refl
    receives-none (suc n) = receives-none n

    none : sent_by {T = T} (Flush ∷ replicate (length (job_plan enc (length frames)) - done_before enc (length frames - 1)) Receive) ≡ []
    none = receives-none (length (job_plan enc (length frames)) - done_before enc (length frames - 1))

-- where no frames are sent, none are accepted
sent-none : {T : Type 0} (calls : List (Call T ⊤)) → sends calls ≡ 0 → sent_by calls ≡ []
unfolding sends
sent-none [] none = refl
sent-none (Send frame parameters ∷ calls) none = absurd (omega (arith, none))
sent-none (Flush ∷ calls) none = sent-none calls none
sent-none (Receive ∷ calls) none = sent-none calls none

accepted-none : {T : Type 0} (calls : List (Call T ⊤)) (turns : List (Turn T ⊤)) → sends calls ≡ 0 → accepted_in calls turns ≡ []
unfolding sends
accepted-none [] turns none = refl
accepted-none (call ∷ calls) [] none = refl
accepted-none (Send frame parameters ∷ calls) (turn ∷ turns) none = absurd (omega (arith, none))
accepted-none (Flush ∷ calls) (turn ∷ turns) none = accepted-none calls turns none
accepted-none (Receive ∷ calls) (turn ∷ turns) none = accepted-none calls turns none

accepted-sent : {T : Type 0} (enc : EncoderConfig) (D : List Decision) (m : Moment T ⊤) (calls : List (Call T ⊤)) (turns : List (Turn T ⊤)) →
    Runs (IsTurn enc D) (after_turn enc D) m calls turns → m.flushed ≡ false → late calls ≡ 0 → Fit enc calls → (enc.still_picture ≡ true → m.accepted + sends calls ≤ 1) →
    m.accepted + sends calls ≤ 2147483646 → accepted_in calls turns ≡ sent_by calls
unfolding late sends Fit
accepted-sent enc D m [] turns runs going none fit few within = refl
accepted-sent enc D m (call ∷ calls) [] runs going none fit few within = absurd runs
accepted-sent {T} enc D m (Send frame parameters ∷ calls) (turn ∷ turns) runs going none fit few within =
    let reply : turn.reply ≡ Sent m.accepted = runs.0.0.0 ∙ sent-ok enc m frame.value going (λ still. omega (arith, few still)) (omega arith) fit.0 in
    let next = after_send enc D m (accepted_of frame.value parameters) turn.reply in
    let one : next.accepted ≡ m.accepted + 1 = ap (λ (r : Reply T ⊤). (after_send enc D m (accepted_of frame.value parameters) r).accepted) reply in
    ap (λ (r : Reply T ⊤). accepted_by (Send frame parameters) r ++ accepted_in calls turns) reply
    ∙ ap (λ (l : List (Accepted T ⊤)). accepted_of frame.value parameters ∷ l)
    (accepted-sent enc D next calls turns runs.1 (send-flushed enc D m (accepted_of frame.value parameters) turn.reply ∙ going) none fit.1
    (λ still. omega (arith, few still, one)) (omega (arith, one)))
accepted-sent enc D m (Flush ∷ calls) (turn ∷ turns) runs going none fit few within = accepted-none calls turns none ∙ sym (sent-none calls none)
accepted-sent enc D m (Receive ∷ calls) (turn ∷ turns) runs going none fit few within =
    let next = after_receive m turn.log turn.reply in
    let same : next.accepted ≡ m.accepted = receive-accepted m turn.log turn.reply in
    accepted-sent enc D next calls turns runs.1 (receive-flushed m turn.log turn.reply ∙ going) none fit (λ still. omega (arith, few still, same)) (omega (arith, same))

-- ---- the two sessions

module _ {T : Type 0} (enc : EncoderConfig) (tables : Tables) (ahead : MakerTold T) (pictures : List (Frame T)) (low : int_lt (pos 0) enc.bitrate ≡ false) where
  job-sent : (packets : List (Packet T ⊤)) → All (λ picture. fits picture enc.width enc.height enc.chroma_sampling ≡ true) pictures → length pictures ≤ 2147483646 →
      (enc.still_picture ≡ true → length pictures ≤ 1) → (a : GavePackets enc tables ahead pictures packets) → accepted_in a.session.calls a.session.transcript.turns ≡ sent_plainly pictures
  job-sent packets fit few still a =
      accepted-sent (job_settings enc) a.session.transcript.decisions opening a.session.calls a.session.transcript.turns a.session.run.played.turns refl
      (ap late a.session.calls_are.calls_are ∙ late-job enc a.session.calls_are.frames)
      (subst (λ (l : List (Call T ⊤)). Fit (job_settings enc) l) (sym a.session.calls_are.calls_are) (fit-job (job_settings enc) enc a.session.calls_are.frames
      (subst (λ (l : List (Frame T)). All (λ (picture : Frame T). fits picture enc.width enc.height enc.chroma_sampling ≡ true) l) (sym a.session.calls_are.pictures_are) fit)))
      (λ yes-still. omega (arith, still yes-still, count)) (omega (arith, count, few))
      ∙ ap (λ (l : List (Call T ⊤)). sent_by l) a.session.calls_are.calls_are
      ∙ sent-job enc a.session.calls_are.frames
      ∙ sym (map-twice (λ (frame : Arc (Frame T) Global). frame.value) (λ (picture : Frame T). accepted_of picture None) a.session.calls_are.frames)
      ∙ ap (λ (l : List (Frame T)). sent_plainly l) a.session.calls_are.pictures_are
    where
      count : sends a.session.calls ≡ length pictures
      count = ap sends a.session.calls_are.calls_are ∙ sends-job enc a.session.calls_are.frames ∙ sym (length-map a.session.calls_are.frames (λ frame. frame.value))
          ∙ ap (λ (l : List (Frame T)). length l) a.session.calls_are.pictures_are

  module _ (next : List (Told T) → Handed T → Gave T) (at : ℕ → ℤ) (gives : ahead.gives ≡ Some next) (answers : ahead.answers ≡ Some at) where
    coder-told : (before : Heard T) → IsFresh ahead before → (before.coder.calls ≡ Some []) × (before.coder.gives ≡ Some next)
    coder-told before fresh =
        subst (λ (g : Option (List (Told T) → Handed T → Gave T)). IfSome g (λ next. (before.coder.calls ≡ Some []) × (before.coder.gives ≡ Some next))) gives fresh.coder.gives

    scales-told : (before : Heard T) → IsFresh ahead before → before.scales.answers ≡ Some at
    scales-told before fresh = subst (λ (a : Option (ℕ → ℤ)). IfSome a (λ at. before.scales.answers ≡ Some at)) answers fresh.scales.answers

    settings-same : packets_for (job_settings enc) tables low next at pictures (plan_by (job_settings enc) (length pictures)) ≡ packets_for enc tables low next at pictures (plan_by enc (length pictures))
    unfolding packets_for bytes_for plan_by
    settings-same = refl

    told-same : (packets others : List (Packet T ⊤)) → All (λ picture. fits picture enc.width enc.height enc.chroma_sampling ≡ true) pictures → length pictures ≤ 2147483646 →
        (enc.still_picture ≡ true → length pictures ≤ 1) → GavePackets enc tables ahead pictures packets → GaveAlone enc tables ahead pictures others →
        (place : ℕ) (one other : Packet T ⊤) → slice_get packets place ≡ Some one → slice_get others place ≡ Some other → one.bytes ≡ other.bytes
    told-same packets others fit few still a b place one other is too =
        same_Some one.bytes other.bytes
        (sym (packet-at (job_settings enc) tables low next at pictures a.session.calls a.session.transcript a.before a.after a.session.run
        (coder-told a.before a.fresh).0 (coder-told a.before a.fresh).1 (scales-told a.before a.fresh) (job-sent packets fit few still a) (ap (λ (d : DetectorTold T). d.answers) a.fresh.detector)
        place one (ap (λ (l : List (Packet T ⊤)). slice_get l place) (sym a.session.packets_are) ∙ is))
        ∙ ap (λ (l : List (List ℕ)). slice_get l place) settings-same
        ∙ packet-at enc tables low next at pictures b.calls b.transcript b.before b.after b.run
        (coder-told b.before b.fresh).0 (coder-told b.before b.fresh).1 (scales-told b.before b.fresh) b.sent (ap (λ (d : DetectorTold T). d.answers) b.fresh.detector)
        place other (ap (λ (l : List (Packet T ⊤)). slice_get l place) (sym b.packets_are) ∙ too))

  pub same-bytes : (packets others : List (Packet T ⊤)) → IsSome ahead.gives → IsSome ahead.answers →
      All (λ picture. fits picture enc.width enc.height enc.chroma_sampling ≡ true) pictures → length pictures ≤ 2147483646 → (enc.still_picture ≡ true → length pictures ≤ 1) →
      GavePackets enc tables ahead pictures packets → GaveAlone enc tables ahead pictures others →
      (place : ℕ) (one other : Packet T ⊤) → slice_get packets place ≡ Some one → slice_get others place ≡ Some other → one.bytes ≡ other.bytes
  same-bytes packets others gives answers fit few still a b place one other is too = by_told ahead.gives ahead.answers refl refl gives answers
    where
      by_told : (g : Option (List (Told T) → Handed T → Gave T)) (s : Option (ℕ → ℤ)) → ahead.gives ≡ g → ahead.answers ≡ s → IsSome g → IsSome s → one.bytes ≡ other.bytes
      by_told None s g-is s-is some known = absurd (false≢true some)
      by_told (Some next) None g-is s-is some known = absurd (false≢true known)
      by_told (Some next) (Some at) g-is s-is some known = told-same next at g-is s-is packets others fit few still a b place one other is too
