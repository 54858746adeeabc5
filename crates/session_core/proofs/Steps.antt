-- What a turn does to the moment: it leaves it, accepts a frame, ends the frames, or codes the plan's next command.
use Rattle.std.proofs.Common.{◌≡◌, ℕ, ◌+◌, Bool, true, false, cond, not, eqb, leb, ◌||◌, ◌&&◌, ◌⊎◌, inl, inr, List, [], ◌∷◌, ◌++◌, length, drop, Some, None, All, refl, sym, ap, ap₂, ◌∙◌, subst, append-nil, add-zero, MatchOption}
use Rattle.std.specs.List.{slice_get, flat_map}
use Rattle.std.proofs.lemmas.Bool.{cases_Bool, MatchBool-at_true, MatchBool-at_false, false≢true, or_parts, and_parts}
use Rattle.std.proofs.lemmas.List.Elements.{filter-append, All-nil}
use Rattle.std.proofs.lemmas.List.Elements.{All-cons, All-head, All-tail, All-take}
use Rattle.std.proofs.lemmas.List.{take_at}
use Rattle.av1_frame.specs.declared.frame.Frame.{Frame}
use Rattle.av1_frame.specs.Planes.{fits}
use Rattle.av1_settings.specs.declared.encoder.EncoderConfig.{EncoderConfig}
use Rattle.av1_settings.specs.declared.status.EncoderStatus.{EncoderStatus}
use Rattle.av1_settings.specs.declared.status.EncoderStatus.TheVariants.{NeedMoreData, EnoughData, FrameSizeMismatch, LimitReached, Encoded}
use Rattle.pyramid.specs.declared.command.Command.{Command}
use Rattle.pyramid.specs.Settings.{numbers_of}
use Rattle.session_log.specs.Selection.{is_trial_due}
use Rattle.session_core.specs.declared.call.Call.{Call}
use Rattle.session_core.specs.declared.call.Call.TheVariants.{Send, Flush, Receive}
use Rattle.session_core.specs.declared.packet.Packet.{Packet}
use Rattle.session_core.specs.declared.transcript.Decision.{Decision}
use Rattle.session_log.specs.declared.entry.LogEntry.{LogEntry}
use Rattle.session_core.specs.declared.transcript.Reply.{Reply}
use Rattle.session_core.specs.declared.transcript.Reply.TheVariants.{Sent, Flushed, Packet as GivesPacket, Status}
use Rattle.session_core.specs.declared.transcript.Turn.{Turn}
use Rattle.session_core.specs.Decisions.{decisions_at}
use Rattle.session_core.specs.Moments.{Accepted, Moment, is_complete, plan_at}
use Rattle.session_core.specs.Sessions.{accepted_by, is_receive}
use Rattle.session_core.specs.Taken.{packet_of}
use Rattle.session_core.specs.Turns.{frame_limit, has_enough, sent_reply, accepted_of, after_send, after_flush, Decides, needs_more_data, is_showing, IsNextPacket, IsTrial, AreTrials, BeginTrials, CodesNext, OnlyReplies, held_back, real_entries, noted, noted_all, after_receive, after_turn, IsTurn}

-- ---- the kinds of turns

-- a turn that leaves the moment; after the flush a receive does so only where every packet is given
pub record StayingTurn {T O : Type 0} (before : Moment T O) (call : Call T O) (turn : Turn T O) (after : Moment T O) : Type 0 where
  pub log : turn.log ≡ []
  pub none : packet_of turn.reply ≡ []
  pub accepts : accepted_by call turn.reply ≡ []
  pub stays : after ≡ before
  pub receive : is_receive call ≡ true → before.flushed ≡ true → is_complete before ≡ true

-- the moment after a frame is accepted
abbrev pub with_frame : {T O : Type 0} → EncoderConfig → List Decision → Moment T O → Accepted T O → Moment T O
with_frame enc decisions moment frame = record moment {
  accepted = moment.accepted + 1;
  waiting = moment.waiting ++ record { frame = frame; coded = None } ∷ [];
  decisions = decisions_at (numbers_of enc) decisions (moment.accepted + 1) moment.flushed;
}

-- a turn that accepts a frame
pub record AcceptingTurn {T O : Type 0} (enc : EncoderConfig) (decisions : List Decision) (before : Moment T O) (call : Call T O) (turn : Turn T O) (after : Moment T O) : Type 0 where
  pub log : turn.log ≡ []
  pub none : packet_of turn.reply ≡ []
  pub frame : Accepted T O
  pub accepts : accepted_by call turn.reply ≡ frame ∷ []
  pub open_yet : before.flushed ≡ false
  pub room : eqb before.accepted frame_limit ≡ false
  pub decides : Decides enc before (with_frame enc decisions before frame)
  pub then : after ≡ with_frame enc decisions before frame
  pub receive : is_receive call ≡ false

-- a turn that ends the frames
pub record EndingTurn {T O : Type 0} (enc : EncoderConfig) (decisions : List Decision) (before : Moment T O) (call : Call T O) (turn : Turn T O) (after : Moment T O) : Type 0 where
  pub log : turn.log ≡ []
  pub none : packet_of turn.reply ≡ []
  pub accepts : accepted_by call turn.reply ≡ []
  pub decides : Decides enc before (after_flush enc decisions before)
  pub then : after ≡ after_flush enc decisions before
  pub receive : is_receive call ≡ false

-- the moment after a command that shows a frame, and the entries of its turn
abbrev pub with_packet : {T O : Type 0} → Moment T O → List LogEntry → Moment T O
with_packet moment log = record moment {
  commands = moment.commands + 1;
  packets = moment.packets + 1;
  waiting = drop 1 moment.waiting;
  pending = [];
  log = moment.log ++ log;
}

-- the moment after one that shows none
abbrev pub with_entry : {T O : Type 0} → Moment T O → LogEntry → List LogEntry → Moment T O
with_entry moment entry log = record moment {
  commands = moment.commands + 1;
  waiting = noted moment.packets moment.waiting entry;
  pending = moment.pending ++ entry.bytes;
  log = moment.log ++ log;
}

-- a trial of a command
abbrev pub IsTrialOf : Command → LogEntry → Type 0
IsTrialOf command entry = (entry.trial ≡ true) × (entry.command ≡ command)

-- what is tried is marked so, and is the same command
pub trials-of : {T O : Type 0} (enc : EncoderConfig) (moment : Moment T O) (command : Command) (trials : List LogEntry) →
    AreTrials enc moment command trials → All (IsTrialOf command) trials
trials-of enc moment command trials are = elim (cases_Bool (is_trial_due enc moment.log command)) [
  | inl due ↦ one (MatchBool-at_true (IsTrial command trials) (trials ≡ []) due are)
  | inr not_due ↦
      subst (All (IsTrialOf command)) (sym (MatchBool-at_false (IsTrial command trials) (trials ≡ []) not_due are)) (All-nil (IsTrialOf command))
]
  where
    one : IsTrial command trials → All (IsTrialOf command) trials
    one is =
        subst (All (IsTrialOf command)) (sym is.one)
        (All-cons (IsTrialOf command) is.trial [] (is.tried, is.same) (All-nil (IsTrialOf command)))

-- so is a part of it
pub trials-begin : {T O : Type 0} (enc : EncoderConfig) (moment : Moment T O) (command : Command) (trials : List LogEntry) →
    BeginTrials enc moment command trials → All (IsTrialOf command) trials
trials-begin enc moment command trials begin =
    subst (All (IsTrialOf command)) (take_at trials begin.0 (length trials) refl)
    (All-take (IsTrialOf command) (length trials) (trials ++ begin.0) (trials-of enc moment command (trials ++ begin.0) begin.1))

-- a packet is given where the command shows a frame
pub record GivingTurn {T O : Type 0} (before : Moment T O) (entry : LogEntry) (turn : Turn T O) (after : Moment T O) : Type 0 where
  pub shows : is_showing entry.command ≡ true
  pub packet : Packet T O
  pub gives : packet_of turn.reply ≡ packet ∷ []
  pub next : IsNextPacket before entry packet
  pub then : after ≡ with_packet before turn.log

pub record HidingTurn {T O : Type 0} (before : Moment T O) (entry : LogEntry) (turn : Turn T O) (after : Moment T O) : Type 0 where
  pub hides : is_showing entry.command ≡ false
  pub none : packet_of turn.reply ≡ []
  pub then : after ≡ with_entry before entry turn.log

-- a turn that codes the next command of the plan
pub record CodingTurn {T O : Type 0} (enc : EncoderConfig) (before : Moment T O) (call : Call T O) (turn : Turn T O) (after : Moment T O) : Type 0 where
  pub due : held_back enc before ≡ None
  pub trials : List LogEntry
  pub entry : LogEntry
  pub log : turn.log ≡ trials ++ entry ∷ []
  pub tried : All (IsTrialOf entry.command) trials
  pub real : entry.trial ≡ false
  pub coded : real_entries turn.log ≡ entry ∷ []
  pub command : slice_get (plan_at enc before) before.commands ≡ Some entry.command
  pub accepts : accepted_by call turn.reply ≡ []
  pub given : GivingTurn before entry turn after ⊎ HidingTurn before entry turn after

pub data TurnView {T O : Type 0} (enc : EncoderConfig) (decisions : List Decision) (before : Moment T O) (call : Call T O) (turn : Turn T O) (after : Moment T O) : Type 0 where
  Stays : StayingTurn before call turn after → TurnView enc decisions before call turn after
  Accepts : AcceptingTurn enc decisions before call turn after → TurnView enc decisions before call turn after
  Ends : EndingTurn enc decisions before call turn after → TurnView enc decisions before call turn after
  Codes : CodingTurn enc before call turn after → TurnView enc decisions before call turn after

-- ---- sends

module _ {T O : Type 0} (enc : EncoderConfig) (decisions : List Decision) (moment : Moment T O) (call : Call T O) (turn : Turn T O) where
  abbrev ViewOf : Moment T O → Type 0
  ViewOf after = TurnView enc decisions moment call turn after

  -- a status leaves the moment
  refused : (after : Moment T O) (status : EncoderStatus) → is_receive call ≡ false → turn.reply ≡ Status status → turn.log ≡ [] →
      after ≡ moment → accepted_by call (Status status) ≡ [] → ViewOf after
  refused after status other is none stays nothing = Stays (record {
    log = none;
    none = ap packet_of is;
    accepts = ap (accepted_by call) is ∙ nothing;
    stays = stays;
    receive = λ e f. absurd (false≢true (sym other ∙ e));
  })

send_view : {T O : Type 0} (enc : EncoderConfig) (decisions : List Decision) (moment : Moment T O) (call : Call T O) (turn : Turn T O) (frame : Accepted T O) (picture : Frame T) →
    is_receive call ≡ false → ((number : ℕ) → accepted_by call (Sent number) ≡ frame ∷ []) → ((status : EncoderStatus) → accepted_by call (Status status) ≡ []) →
    OnlyReplies turn (sent_reply enc moment picture) → Decides enc moment (after_send enc decisions moment frame turn.reply) →
    TurnView enc decisions moment call turn (after_send enc decisions moment frame turn.reply)
send_view {T} {O} enc decisions moment call turn frame picture other takes refuses answers decides =
    by_tests (has_enough enc moment) (fits picture enc.width enc.height enc.chroma_sampling) refl answers.0
  where
    Goal : Type 0
    Goal = TurnView enc decisions moment call turn (after_send enc decisions moment frame turn.reply)

    by_status : (status : EncoderStatus) → turn.reply ≡ Status status → Goal
    by_status status is =
        refused enc decisions moment call turn (after_send enc decisions moment frame turn.reply) status other is answers.1 (ap (after_send enc decisions moment frame) is) (refuses status)

    by_tests : (enough fit : Bool) → has_enough enc moment ≡ enough → turn.reply ≡ cond enough (Status EnoughData) (cond fit (Sent moment.accepted) (Status FrameSizeMismatch)) → Goal
    by_tests true fit e is = by_status EnoughData is
    by_tests false false e is = by_status FrameSizeMismatch is
    by_tests false true e is =
        let more : Bool = enc.still_picture && leb 1 moment.accepted in
        let parts = or_parts (moment.flushed || more) (eqb moment.accepted frame_limit) e in
        let then : after_send enc decisions moment frame turn.reply ≡ with_frame enc decisions moment frame = ap (after_send enc decisions moment frame) is in
        Accepts (record {
          log = answers.1;
          none = ap packet_of is;
          frame = frame;
          accepts = ap (accepted_by call) is ∙ takes moment.accepted;
          open_yet = (or_parts moment.flushed more parts.0).0;
          room = parts.1;
          decides = subst (Decides enc moment) then decides;
          then = then;
          receive = other;
        })

flush_view : {T O : Type 0} (enc : EncoderConfig) (decisions : List Decision) (moment : Moment T O) (turn : Turn T O) →
    OnlyReplies turn Flushed → Decides enc moment (after_flush enc decisions moment) →
    TurnView enc decisions moment Flush turn (after_flush enc decisions moment)
flush_view enc decisions moment turn answers decides = Ends (record {
  log = answers.1;
  none = ap packet_of answers.0;
  accepts = ap (accepted_by Flush) answers.0;
  decides = decides;
  then = refl;
  receive = refl;
})

-- ---- receives

-- a receive accepts no frame, whatever is answered
nothing_sent : {T O : Type 0} (reply : Reply T O) → accepted_by Receive reply ≡ []
nothing_sent (Sent number) = refl
nothing_sent Flushed = refl
nothing_sent (GivesPacket packet) = refl
nothing_sent (Status status) = refl

-- a status without entries leaves the moment
same_after : {T O : Type 0} (moment : Moment T O) (log : List LogEntry) (reply : Reply T O) (status : EncoderStatus) →
    reply ≡ Status status → log ≡ [] → after_receive moment log reply ≡ moment
same_after {T} {O} moment log reply status is none =
    let counted : ℕ → List ℕ → Moment T O = λ n p. record moment { commands = n; pending = p } in
    ap₂ (after_receive moment) none is
    ∙ ap (λ (l : List LogEntry). record (counted (moment.commands + 0) (moment.pending ++ [])) { log = l }) (append-nil moment.log)
    ∙ ap₂ counted (add-zero moment.commands) (append-nil moment.pending)

status_view : {T O : Type 0} (enc : EncoderConfig) (decisions : List Decision) (moment : Moment T O) (turn : Turn T O) (status : EncoderStatus) →
    (moment.flushed ≡ true → is_complete moment ≡ true) → OnlyReplies turn (Status status) →
    TurnView enc decisions moment Receive turn (after_receive moment turn.log turn.reply)
status_view enc decisions moment turn status complete answers = Stays (record {
  log = answers.1;
  none = ap packet_of answers.0;
  accepts = nothing_sent turn.reply;
  stays = same_after moment turn.log turn.reply status answers.0 answers.1;
  receive = λ e. complete;
})

-- the entries for good of a receive that coded
real_trials : (command : Command) (trials : List LogEntry) → All (IsTrialOf command) trials → real_entries trials ≡ []
real_trials command [] tried = refl
real_trials command (trial ∷ trials) tried =
    by_test trial.trial (All-head (IsTrialOf command) trial trials tried).0 ∙ real_trials command trials (All-tail (IsTrialOf command) trial trials tried)
  where
    by_test : (t : Bool) → t ≡ true → cond (not t) (trial ∷ real_entries trials) (real_entries trials) ≡ real_entries trials
    by_test true e = refl
    by_test false e = absurd (false≢true e)

real_one : (entry : LogEntry) → entry.trial ≡ false → real_entries (entry ∷ []) ≡ entry ∷ []
real_one entry real = ap (λ (t : Bool). cond (not t) (entry ∷ []) []) real

pub real_log : (trials : List LogEntry) (entry : LogEntry) → All (IsTrialOf entry.command) trials → entry.trial ≡ false →
    real_entries (trials ++ entry ∷ []) ≡ entry ∷ []
real_log trials entry tried real =
    filter-append (λ (one : LogEntry). not one.trial) trials (entry ∷ [])
    ∙ ap₂ (λ (a b : List LogEntry). a ++ b) (real_trials entry.command trials tried) (real_one entry real)

module _ {T O : Type 0} (moment : Moment T O) (log : List LogEntry) (entry : LogEntry) (coded : real_entries log ≡ entry ∷ []) where
  packet_after : (reply : Reply T O) (packet : Packet T O) → reply ≡ GivesPacket packet → after_receive moment log reply ≡ with_packet moment log
  packet_after reply packet is =
      let counted : ℕ → Moment T O = λ n. record moment { commands = n; packets = moment.packets + 1; waiting = drop 1 moment.waiting; pending = []; log = moment.log ++ log } in
      ap (after_receive moment log) is ∙ ap (λ (l : List LogEntry). counted (moment.commands + length l)) coded

  entry_after : (reply : Reply T O) (status : EncoderStatus) → reply ≡ Status status → after_receive moment log reply ≡ with_entry moment entry log
  entry_after reply status is =
      let noting : List LogEntry → List ℕ → Moment T O = λ l p. record moment {
        commands = moment.commands + length l;
        waiting = noted_all moment.packets moment.waiting l;
        pending = moment.pending ++ p;
        log = moment.log ++ log;
      } in
      ap (after_receive moment log) is
      ∙ ap₂ noting coded (ap (λ (l : List LogEntry). flat_map (λ e. e.bytes) l) coded ∙ append-nil entry.bytes)

coding_view : {T O : Type 0} (enc : EncoderConfig) (decisions : List Decision) (moment : Moment T O) (turn : Turn T O) →
    held_back enc moment ≡ None → CodesNext enc moment turn →
    TurnView enc decisions moment Receive turn (after_receive moment turn.log turn.reply)
coding_view {T} {O} enc decisions moment turn due next = Codes (record {
  due = due;
  trials = next.trials;
  entry = next.entry;
  log = next.log;
  tried = tried;
  real = next.real;
  coded = coded;
  command = next.command;
  accepts = nothing_sent turn.reply;
  given = elim (cases_Bool (is_showing next.entry.command)) [
    | inl shows ↦ inl (giving shows (MatchBool-at_true Shown (turn.reply ≡ Status Encoded) shows next.reply))
    | inr hides ↦ inr (hiding hides (MatchBool-at_false Shown (turn.reply ≡ Status Encoded) hides next.reply))
  ];
})
  where
    after : Moment T O
    after = after_receive moment turn.log turn.reply

    tried : All (IsTrialOf next.entry.command) next.trials
    tried = trials-of enc moment next.entry.command next.trials next.tried

    coded : real_entries turn.log ≡ next.entry ∷ []
    coded = ap real_entries next.log ∙ real_log next.trials next.entry tried next.real

    Shown : Type 0
    Shown = (packet : Packet T O) × (turn.reply ≡ GivesPacket packet) × IsNextPacket moment next.entry packet

    giving : is_showing next.entry.command ≡ true → Shown → GivingTurn moment next.entry turn (after_receive moment turn.log turn.reply)
    giving shows said = record {
      shows = shows;
      packet = said.0;
      gives = ap packet_of said.1;
      next = said.2;
      then = packet_after moment turn.log next.entry coded turn.reply said.0 said.1;
    }

    hiding : is_showing next.entry.command ≡ false → turn.reply ≡ Status Encoded → HidingTurn moment next.entry turn (after_receive moment turn.log turn.reply)
    hiding hides said = record {
      hides = hides;
      none = ap packet_of said;
      then = entry_after moment turn.log next.entry coded turn.reply Encoded said;
    }

-- ---- any call

pub view : {T O : Type 0} (enc : EncoderConfig) (decisions : List Decision) (moment : Moment T O) (call : Call T O) (turn : Turn T O) →
    IsTurn enc decisions moment call turn → TurnView enc decisions moment call turn (after_turn enc decisions moment call turn)
view enc decisions moment (Send frame parameters) turn is =
    send_view enc decisions moment (Send frame parameters) turn (accepted_of frame.value parameters) frame.value refl (λ number. refl) (λ status. refl) is.0 is.1
view enc decisions moment Flush turn is = flush_view enc decisions moment turn is.0 is.1
view {T} {O} enc decisions moment Receive turn is = by_row (moment.flushed && is_complete moment) (needs_more_data enc moment) refl refl is
  where
    flushed_needs : (f b : Bool) → (not f && b) ≡ true → f ≡ true → ⊥
    flushed_needs true b e h = false≢true e
    flushed_needs false b e h = false≢true h

    by_row : (complete needs : Bool) → (moment.flushed && is_complete moment) ≡ complete → needs_more_data enc moment ≡ needs →
        MatchOption (cond complete (Some LimitReached) (cond needs (Some NeedMoreData) None)) (CodesNext enc moment turn) (λ status. OnlyReplies turn (Status status)) →
        TurnView enc decisions moment Receive turn (after_receive moment turn.log turn.reply)
    by_row true needs complete e said =
        status_view enc decisions moment turn LimitReached (λ flushed. (and_parts moment.flushed (is_complete moment) complete).1) said
    by_row false true open_yet e said = status_view enc decisions moment turn NeedMoreData (λ flushed. absurd (flushed_needs moment.flushed _ e flushed)) said
    by_row false false open_yet enough said = coding_view enc decisions moment turn
        (ap₂ (λ (c n : Bool). cond c (Some LimitReached) (cond n (Some NeedMoreData) None)) open_yet enough) said
