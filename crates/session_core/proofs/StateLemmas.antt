-- Lemmas on the state of a session.
use Rattle.std.proofs.Common.{◌≡◌, ℕ, zero, suc, ◌+◌, ◌-◌, ◌≤◌, ◌<◌, Bool, true, false, not, ◌&&◌, cond, List, [], ◌∷◌, map, length, get_or, set, All, MatchBool, MatchOption, Option, Some, None, IsSome, option_to_list, refl, sym, ◌∙◌, ap, subst, arith}
use Rattle.std.specs.Option.{option_and_then, option_map}
use Rattle.std.specs.List.{slice_get}
use Rattle.std.proofs.lemmas.Bool.{le-ltb}
use Rattle.std.proofs.lemmas.List.{map-set}
use Rattle.std.proofs.lemmas.List.Elements.{All-cons, All-head, All-nil}
use Rattle.std.proofs.lemmas.Option.{slice_get-map, slice_get_read}
use Rattle.av1_settings.specs.declared.encoder.EncoderConfig.{EncoderConfig}
use Rattle.av1_settings.specs.declared.frame_type.FrameType.{FrameType}
use Rattle.av1_settings.specs.declared.status.EncoderStatus.{EncoderStatus}
use Rattle.av1_settings.specs.declared.status.EncoderStatus.TheVariants.{NeedMoreData, EnoughData, LimitReached, Encoded, Failure, NotReady, FrameSizeMismatch, OutOfMemory as NoMemory}
use Rattle.pyramid.specs.declared.command.Command.{Command}
use Rattle.pyramid.specs.declared.command.Command.TheVariants.{Code, Show}
use Rattle.session_core.specs.declared.coded.Coded.{Coded}
use Rattle.session_core.specs.declared.coder.CodeJob.{CodeJob}
use Rattle.session_log.specs.Keeps.{HasSize, IsSized}
use Rattle.session_log.specs.declared.entry.LogEntry.{LogEntry}
use Rattle.session_core.specs.declared.packet.Packet.{Packet}
use Rattle.session_core.specs.declared.transcript.Reply.{Reply}
use Rattle.session_core.specs.declared.transcript.Reply.TheVariants.{Sent, Flushed, Packet as GivesPacket, Status}
use Rattle.session_core.specs.declared.transcript.Turn.{Turn}
use Rattle.session_core.specs.declared.state.SessionState.{SessionState}
use Rattle.session_core.specs.declared.waiting.Coding.{Coding as CodedAs}
use Rattle.session_core.specs.declared.waiting.WaitingFrame.{WaitingFrame}
use Rattle.pyramid.specs.Numbers.{Numbers}
use Rattle.session_core.specs.Decisions.{decided_count}
use Rattle.session_core.specs.Moments.{Waiting, Moment, waiting_at}
use Rattle.session_core.specs.States.{CanCode, Carries, IsCoded, coding_value, gave_of, told_at, waiting_of, moment_of}
use Rattle.session_core.specs.Steps.{WhereRefused}
use Rattle.session_core.specs.Taken.{IsTaken, handed_at, is_shown, job_of, packet_of}
use Rattle.session_core.specs.Told.{CoderTold, Gave, Handed, ToShow, Told, Grew, IsAhead, handed_code}
use Rattle.session_core.specs.Turns.{CodesNext, IsNextPacket, IsReceived, OnlyReplies, coding_of, forced_at, held_back, is_showing, noted, shown_coding, with_coding}
use Rattle.session_core.proofs.Telling.{ahead-one}

-- a frame that waits is coded
pub noted-set : {T O : Type 0} (items : List (WaitingFrame T O)) (index : ℕ) (one : WaitingFrame T O) (coding : Option CodedAs) →
    index < length items → one ≡ get_or items index one →
    map waiting_of (set items index (record one { coding = coding })) ≡ with_coding (map waiting_of items) index (option_map coding_value coding)
noted-set items index one coding within read =
    let there : slice_get (map waiting_of items) index ≡ Some (waiting_of one) =
    slice_get-map waiting_of items index ∙ ap (option_map waiting_of) (slice_get_read items (length items) index one refl within read) in
    rw (there, with_coding) (map-set waiting_of items index (record one { coding = coding }))

pub noted-code : {T O : Type 0} (items : List (WaitingFrame T O)) (packets : ℕ) (one : WaitingFrame T O) (coding : Option CodedAs) (entry : LogEntry)
    (frame : ℕ) (kind : FrameType) (refs : List ℕ) (refresh : ℕ) (shown : Bool) → entry.command ≡ Code frame kind refs refresh shown →
    option_map coding_value coding ≡ coding_of entry →
    packets ≤ frame → frame - packets < length items → one ≡ get_or items (frame - packets) one →
    map waiting_of (set items (frame - packets) (record one { coding = coding })) ≡ noted packets (map waiting_of items) entry
noted-code items packets one coding entry frame kind refs refresh shown is coded late within read =
    let After : Command → Type 0 = λ command.
    map waiting_of (set items (frame - packets) (record one { coding = coding })) ≡ noted packets (map waiting_of items) (record entry { command = command }) in
    let now : option_map coding_value coding ≡ coding_of (record entry { command = Code frame kind refs refresh shown }) =
    subst (λ (command : Command). option_map coding_value coding ≡ coding_of (record entry { command = command })) is coded in
    subst After (sym is)
    (rw (le-ltb frame packets late)
    (noted-set items (frame - packets) one coding within read ∙ ap (with_coding (map waiting_of items) (frame - packets)) now))

-- the mark of a frame that waits
pub forced-read : {T O : Type 0} (state : SessionState T O) (p : ℕ) (one : WaitingFrame T O) →
    state.packets ≤ p → p - state.packets < length state.waiting.items → one ≡ get_or state.waiting.items (p - state.packets) one →
    forced_at (moment_of state) p ≡ one.forced
forced-read state p one late within read =
    let items = state.waiting.items in
    let there : slice_get (map waiting_of items) (p - state.packets) ≡ Some (waiting_of one) =
    slice_get-map waiting_of items (p - state.packets)
    ∙ ap (option_map waiting_of) (slice_get_read items (length items) (p - state.packets) one refl within read) in
    rw (le-ltb p state.packets late, there) refl

-- ---- packets

shown-is-coded-by : {T O : Type 0} (m : Moment T O) (first : Waiting T O) (entry : LogEntry) (command : Command) →
    slice_get m.waiting 0 ≡ Some first → CanCode m command → IsSome (shown_coding (record entry { command = command }) first)
shown-is-coded-by m first entry (Code frame kind refs refresh shown) is_first can = refl
shown-is-coded-by {T} {O} m first entry (Show slot) is_first can =
    let coded : Option (Waiting T O) → Type 0 = λ o. IsSome (option_and_then (λ waiting. waiting.coded) o) in
    subst coded is_first can

-- the frame that an entry shows was coded
pub shown-is-coded : {T O : Type 0} (m : Moment T O) (first : Waiting T O) (entry : LogEntry) →
    slice_get m.waiting 0 ≡ Some first → CanCode m entry.command → IsSome (shown_coding entry first)
shown-is-coded m first entry is_first can = shown-is-coded-by m first entry entry.command is_first can

-- ---- what the coder took

-- a frame that waits under its number
waiting-there : {T O : Type 0} (m : Moment T O) (frame : ℕ) → m.packets ≤ frame → frame - m.packets < length m.waiting →
    (one : Waiting T O) × (waiting_at m frame ≡ Some one)
waiting-there {T} {O} m frame late within =
    let there = get-there m.waiting (frame - m.packets) within in
    (there.0, rw (le-ltb frame m.packets late) there.1)
  where
    get-there : {A : Type 0} (xs : List A) (k : ℕ) → k < length xs → (x : A) × (slice_get xs k ≡ Some x)
    get-there [] k h = absurd (omega arith)
    get-there (x ∷ xs) zero h = (x, refl)
    get-there (x ∷ xs) (suc k) h = get-there xs k (omega arith)

-- what the coder is handed for an entry, which shows as the command does where it is for good
pub record HandsOver {T O : Type 0} (m : Moment T O) (entry : LogEntry) : Type 0 where
  pub job : Handed T
  pub is_job : handed_at m entry ≡ job ∷ []
  pub shows : is_shown job ≡ (is_showing entry.command && not entry.trial)

hands-over-by : {T O : Type 0} (m : Moment T O) (entry : LogEntry) (command : Command) → m.packets + length m.waiting ≡ m.accepted →
    CanCode m command → HasSize command entry → HandsOver m (record entry { command = command })
hands-over-by {T} {O} m entry (Code frame kind refs refresh shown) waits can sized =
    let there = waiting-there m frame can.0 (omega (arith, waits, can.0, can.1)) in
    let coded : LogEntry = record entry { command = Code frame kind refs refresh shown } in
    record {
      job = job_of coded there.0.frame;
      is_job = ap (λ (o : Option (Waiting T O)). option_to_list (option_map (λ waiting. job_of coded waiting.frame) o)) there.1;
      shows = refl;
    }
hands-over-by m entry (Show slot) waits can sized =
    record { job = ToShow (record { slot = slot; frame = m.packets }); is_job = refl; shows = sym (ap not sized.1) }

pub hands-over : {T O : Type 0} (m : Moment T O) (entry : LogEntry) → m.packets + length m.waiting ≡ m.accepted → CanCode m entry.command →
    IsSized entry → HandsOver m entry
hands-over m entry waits can sized = hands-over-by m entry entry.command waits can sized

-- the job of a frame that waits
pub hands-job : {T O : Type 0} (state : SessionState T O) (job : CodeJob T) (entry : LogEntry) (one : WaitingFrame T O)
    (frame : ℕ) (kind : FrameType) (refs : List ℕ) (refresh : ℕ) (shown : Bool) →
    entry.command ≡ Code frame kind refs refresh shown → job.command ≡ entry.command → job.trial ≡ entry.trial → entry.quant ≡ Some job.quant →
    state.packets ≤ frame → frame - state.packets < length state.waiting.items → one ≡ get_or state.waiting.items (frame - state.packets) one →
    job.picture.value ≡ one.picture.value → job.t35.value ≡ one.t35.value →
    handed_at (moment_of state) entry ≡ handed_code job ∷ []
hands-job {T} {O} state job entry one frame kind refs refresh shown is command trial quant late within read picture t35 =
    subst Hands (sym is) there
  where
    items : List (WaitingFrame T O)
    items = state.waiting.items

    Hands : Command → Type 0
    Hands c = handed_at (moment_of state) (record entry { command = c }) ≡ handed_code job ∷ []

    read_at : waiting_at (moment_of state) frame ≡ Some (waiting_of one)
    read_at = rw (le-ltb frame state.packets late)
        (slice_get-map waiting_of items (frame - state.packets)
        ∙ ap (option_map waiting_of) (slice_get_read items (length items) (frame - state.packets) one refl within read))

    coded : LogEntry
    coded = record entry { command = Code frame kind refs refresh shown }

    same : job_of coded (waiting_of one).frame ≡ handed_code job
    same = rw (command ∙ is, trial, quant, picture, t35) refl

    there : Hands (Code frame kind refs refresh shown)
    there =
        ap (λ (o : Option (Waiting T O)). option_to_list (option_map (λ waiting. job_of coded waiting.frame) o)) read_at
        ∙ ap (λ (h : Handed T). h ∷ []) same

-- what is told of it, and that it was told ahead
pub told-of : {T O : Type 0} (m : Moment T O) (coded : Coded T) (told now : Option (List (Told T))) (job : Handed T) (gave : Gave T) →
    handed_at m coded.entry ≡ job ∷ [] → gave_of coded ≡ gave → Grew told now (record { handed = job; gave = gave } ∷ []) → Grew told now (told_at m coded)
told-of {T} m coded told now job gave handed is grew =
    let with_gave : Gave T → Handed T → Told T = λ g h. record { handed = h; gave = g } in
    subst (Grew told now) (sym (ap (map (with_gave (gave_of coded))) handed ∙ ap (λ (g : Gave T). with_gave g job ∷ []) is)) grew

pub ahead-of : {T O : Type 0} (m : Moment T O) (coded : Coded T) (told : CoderTold T) (job : Handed T) (gave : Gave T) →
    handed_at m coded.entry ≡ job ∷ [] → gave_of coded ≡ gave → IsAhead told job gave → All (λ job. IsAhead told job (gave_of coded)) (handed_at m coded.entry)
ahead-of {T} m coded told job gave handed is ahead =
    subst (All (λ job. IsAhead told job (gave_of coded))) (sym handed)
    (All-cons (λ job. IsAhead told job (gave_of coded)) job [] (subst (IsAhead told job) (sym is) ahead) (All-nil (λ job. IsAhead told job (gave_of coded))))

-- the coder took the job of an entry, and its packet, if there is one, has its picture and counts
taken-one : {T O : Type 0} (m : Moment T O) (coded : Coded T) (packets : List (Packet T O)) (told now : CoderTold T) →
    m.packets + length m.waiting ≡ m.accepted → CanCode m coded.entry.command → IsCoded m told now coded →
    map (λ packet. option_map (λ rec. rec.value) packet.rec) packets ≡ cond (is_showing coded.entry.command && not coded.entry.trial) ((gave_of coded).rec ∷ []) [] →
    map (λ packet. packet.enc_stats) packets ≡ cond (is_showing coded.entry.command && not coded.entry.trial) (coded.stats ∷ []) [] →
    now.gives ≡ told.gives → IsTaken (handed_at m coded.entry) (coded.entry ∷ []) packets told now
taken-one {T} {O} m coded packets told now waits can is recs stats same = record {
  taken = one ∷ [];
  calls = subst (Grew told.calls now.calls) (ap (map with_gave) hands.is_job) is.calls;
  handed = sym hands.is_job;
  bytes = refl;
  recs = recs ∙ by_shown (is_shown hands.job) (λ (one : Told T). one.gave.rec) (sym hands.shows);
  stats = stats ∙ by_shown (is_shown hands.job) (λ (one : Told T). one.gave.stats) (sym hands.shows);
  ahead = ahead-one told hands.job (gave_of coded)
      (All-head (λ job. IsAhead told job (gave_of coded)) hands.job [] (subst (All (λ job. IsAhead told job (gave_of coded))) hands.is_job is.ahead));
  gives = same;
}
  where
    hands : HandsOver m coded.entry
    hands = hands-over m coded.entry waits can is.sized

    with_gave : Handed T → Told T
    with_gave = λ job. record { handed = job; gave = gave_of coded }

    one : Told T
    one = with_gave hands.job

    by_shown : {B : Type 0} (shown : Bool) (f : Told T → B) → (is_showing coded.entry.command && not coded.entry.trial) ≡ shown →
        cond (is_showing coded.entry.command && not coded.entry.trial) (f one ∷ []) [] ≡ map f (cond shown (one ∷ []) [])
    by_shown true f e = rw e refl
    by_shown false f e = rw e refl

-- of an entry for good
pub taken-coded : {T O : Type 0} (m : Moment T O) (coded : Coded T) (reply : Reply T O) (told now : CoderTold T) →
    m.packets + length m.waiting ≡ m.accepted → CanCode m coded.entry.command → coded.entry.trial ≡ false → Carries coded reply → IsCoded m told now coded →
    now.gives ≡ told.gives → IsTaken (handed_at m coded.entry) (coded.entry ∷ []) (packet_of reply) told now
taken-coded {T} {O} m coded reply told now waits can real carries is same =
    let shows : is_showing coded.entry.command ≡ (is_showing coded.entry.command && not coded.entry.trial) = and-real (is_showing coded.entry.command) coded.entry.trial real in
    taken-one m coded (packet_of reply) told now waits can is
    (carries.recs ∙ ap (λ (b : Bool). cond b ((gave_of coded).rec ∷ []) []) shows)
    (carries.stats ∙ ap (λ (b : Bool). cond b (coded.stats ∷ []) []) shows) same
  where
    and-real : (shows trial : Bool) → trial ≡ false → shows ≡ (shows && not trial)
    and-real true trial e = sym (ap not e)
    and-real false trial e = refl

-- of a try
pub taken-tried : {T O : Type 0} (m : Moment T O) (coded : Coded T) (told now : CoderTold T) →
    m.packets + length m.waiting ≡ m.accepted → CanCode m coded.entry.command → coded.entry.trial ≡ true → IsCoded m told now coded →
    now.gives ≡ told.gives → IsTaken {T = T} {O = O} (handed_at m coded.entry) (coded.entry ∷ []) [] told now
taken-tried {T} {O} m coded told now waits can tried is same =
    let hides : (is_showing coded.entry.command && not coded.entry.trial) ≡ false = and-tried (is_showing coded.entry.command) coded.entry.trial tried in
    taken-one m coded [] told now waits can is
    (sym (ap (λ (b : Bool). cond b ((gave_of coded).rec ∷ []) []) hides))
    (sym (ap (λ (b : Bool). cond b (coded.stats ∷ []) []) hides)) same
  where
    and-tried : (shows trial : Bool) → trial ≡ true → (shows && not trial) ≡ false
    and-tried true trial e = ap not e
    and-tried false trial e = refl

-- ---- what a receive answers

pub turn-codes : {T O : Type 0} (enc : EncoderConfig) (m : Moment T O) (turn : Turn T O) → held_back enc m ≡ None → CodesNext enc m turn →
    MatchOption (held_back enc m) (CodesNext enc m turn) (λ status. OnlyReplies turn (Status status))
turn-codes {T} {O} enc m turn due codes =
    subst (λ (reason : Option EncoderStatus). MatchOption reason (CodesNext enc m turn) (λ status. OnlyReplies turn (Status status))) (sym due) codes

-- where all is the same, it is so where a call was refused
pub where-refused : {T O : Type 0} {Holds : Type 0} (reply : Reply T O) → Holds → WhereRefused reply Holds
where-refused (Sent number) holds = tt
where-refused Flushed holds = tt
where-refused (GivesPacket packet) holds = tt
where-refused (Status NeedMoreData) holds = holds
where-refused (Status EnoughData) holds = holds
where-refused (Status LimitReached) holds = holds
where-refused (Status Encoded) holds = tt
where-refused (Status Failure) holds = holds
where-refused (Status NotReady) holds = holds
where-refused (Status FrameSizeMismatch) holds = holds
where-refused (Status NoMemory) holds = holds

-- a receive that codes isn't refused
pub received-refused : {T O : Type 0} (Holds : Type 0) (m : Moment T O) (entry : LogEntry) (reply : Reply T O) → IsReceived m entry reply → WhereRefused reply Holds
received-refused {T} {O} Holds m entry reply received = by_shown (is_showing entry.command) received
  where
    by_shown : (shown : Bool) → MatchBool shown ((packet : Packet T O) × (reply ≡ GivesPacket packet) × IsNextPacket m entry packet) (reply ≡ Status Encoded) →
        WhereRefused reply Holds
    by_shown true (packet, gives, next) = subst (λ (r : Reply T O). WhereRefused r Holds) (sym gives) tt
    by_shown false hidden = subst (λ (r : Reply T O). WhereRefused r Holds) (sym hidden) tt

-- nothing is decided of no frames
pub decided-zero : (numbers : Numbers) (flushed : Bool) → decided_count numbers 0 flushed ≡ 0
decided-zero numbers true = omega arith
decided-zero numbers false = omega arith
