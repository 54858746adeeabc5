-- How far a job's session comes doesn't depend on what its coder gives: two sessions of the same calls stand alike, call by call.
use Rattle.std.proofs.Common.{◌≡◌, ◌||◌, nat_le, ℕ, zero, suc, ◌+◌, ◌≤◌, Bool, true, false, cond, not, eqb, ◌&&◌, nat_lt, List, [], ◌∷◌, ◌++◌, map, filter, length, take, drop, count_by, MatchBool, MatchOption, Option, None, Some, pos, refl, sym, ap, ap₂, ◌∙◌, subst, arith, append-nil, length-append}
use Rattle.std.specs.Prelude.{⊤, int_lt}
use Rattle.std.specs.List.{slice_get}
use Rattle.std.proofs.lemmas.List.{map-append}
use Rattle.std.proofs.lemmas.List.Elements.{filter-append}
use Rattle.std.proofs.lemmas.Option.{none-some, same_Some}
use Rattle.coding_base.specs.Runs.{Runs, after_calls}
use Rattle.av1_frame.specs.declared.frame.Frame.{Frame}
use Rattle.av1_frame.specs.Planes.{fits}
use Rattle.av1_settings.specs.declared.encoder.EncoderConfig.{EncoderConfig}
use Rattle.av1_settings.specs.declared.status.EncoderStatus.{EncoderStatus}
use Rattle.av1_settings.specs.declared.status.EncoderStatus.TheVariants.{EnoughData, FrameSizeMismatch, LimitReached, NeedMoreData, Encoded}
use Rattle.av1_settings.specs.Settings.{interval_of}
use Rattle.pyramid.specs.declared.command.Command.{Command}
use Rattle.pyramid.specs.Known.{is_coding, known}
use Rattle.pyramid.specs.Plan.{plan}
use Rattle.pyramid.specs.Settings.{numbers_of}
use Rattle.pyramid.specs.Subtypes.{subtype_of}
use Rattle.session_core.specs.declared.call.Call.{Call}
use Rattle.session_core.specs.declared.call.Call.TheVariants.{Send, Flush, Receive}
use Rattle.session_core.specs.declared.packet.Packet.{Packet}
use Rattle.session_core.specs.declared.transcript.Decision.{Decision}
use Rattle.session_core.specs.declared.transcript.Reply.{Reply}
use Rattle.session_core.specs.declared.transcript.Reply.TheVariants.{Sent, Flushed, Packet as GivesPacket, Status}
use Rattle.session_core.specs.declared.transcript.Turn.{Turn}
use Rattle.session_core.specs.Decisions.{keys_of}
use Rattle.session_core.specs.Moments.{Accepted, Moment, plan_at}
use Rattle.session_core.specs.Sessions.{entries_of}
use Rattle.session_core.specs.Turns.{CodesNext, IsNextPacket, IsTrial, IsTurn, OnlyReplies, accepted_of, after_receive, after_send, after_turn, held_back, is_showing, real_entries, sent_reply, frame_limit}
use Rattle.session_log.specs.declared.entry.LogEntry.{LogEntry}
use Rattle.session_log.specs.Readings.{measured, start_of}
use Rattle.session_log.specs.Selection.{is_trial_due}
use Rattle.gop_board.proofs.SameCalls.{SameCall, SameCalls, Unkeyed}

-- ---- what a moment's answers depend on

pub commands_in : List LogEntry → List Command
commands_in log = map (λ entry. entry.command) (real_entries log)

no-keys : (decisions : List Decision) → Unkeyed decisions → filter (λ decision. decision.key) decisions ≡ []
no-keys [] un = refl
no-keys (one ∷ decisions) un =
    ap (λ (b : Bool). cond b (one ∷ filter (λ (d : Decision). d.key) decisions) (filter (λ (d : Decision). d.key) decisions)) un.0 ∙ no-keys decisions un.1

keys-unkeyed : (accepted : ℕ) (decisions : List Decision) → Unkeyed decisions → keys_of accepted decisions ≡ keys_of accepted []
keys-unkeyed accepted decisions un =
    ap (λ (keys : List Decision). cond (eqb accepted 0) [] (0 ∷ map (λ (d : Decision). d.position) keys)) (no-keys decisions un)

unkeyed-take : (k : ℕ) (decisions : List Decision) → Unkeyed decisions → Unkeyed (take k decisions)
unkeyed-take zero decisions un = tt
unkeyed-take (suc k) [] un = tt
unkeyed-take (suc k) (one ∷ decisions) un = (un.0, unkeyed-take k decisions un.1)

unfoldable pub plan_by : EncoderConfig → ℕ → List Command
plan_by enc accepted = plan (numbers_of enc) (interval_of enc.max_key_frame_interval) accepted (keys_of accepted [])

held_with : EncoderConfig → ℕ → Bool → ℕ → ℕ → List ℕ → Option EncoderStatus
held_with enc accepted flushed commands packets keys =
    cond (flushed && eqb packets accepted) (Some LimitReached)
    (cond (not flushed && nat_lt (count_by is_coding (drop commands
    (cond flushed (plan (numbers_of enc) (interval_of enc.max_key_frame_interval) accepted keys) (known (numbers_of enc) (interval_of enc.max_key_frame_interval) accepted keys))))
    (enc.speed_settings.rdo_lookahead_frames + 1))
    (Some NeedMoreData) None)

of_subtype : ℕ → Command → Bool
of_subtype subtype command = eqb (subtype_of command) subtype

due_by : EncoderConfig → List Command → Command → Bool
due_by enc commands command =
    is_coding command && (int_lt (pos 0) (start_of enc).bitrate && eqb (length (filter (of_subtype (subtype_of command)) commands)) 0)

pub plan-is : {T : Type 0} (enc : EncoderConfig) (m : Moment T ⊤) → Unkeyed m.decisions → plan_at enc m ≡ plan_by enc m.accepted
unfolding plan_by
plan-is enc m un = ap (plan (numbers_of enc) (interval_of enc.max_key_frame_interval) m.accepted) (keys-unkeyed m.accepted m.decisions un)

held-is : {T : Type 0} (enc : EncoderConfig) (m : Moment T ⊤) → Unkeyed m.decisions → held_back enc m ≡ held_with enc m.accepted m.flushed m.commands m.packets (keys_of m.accepted [])
unfolding held_with
held-is enc m un =
    ap (λ (keys : List ℕ). cond (m.flushed && eqb m.packets m.accepted) (Some LimitReached)
    (cond (not m.flushed && nat_lt (count_by is_coding (drop m.commands
    (cond m.flushed (plan (numbers_of enc) (interval_of enc.max_key_frame_interval) m.accepted keys) (known (numbers_of enc) (interval_of enc.max_key_frame_interval) m.accepted keys))))
    (enc.speed_settings.rdo_lookahead_frames + 1))
    (Some NeedMoreData) None)) (keys-unkeyed m.accepted m.decisions un)

-- an entry more, counted by its measure and by its command
pick : {X : Type 0} (real_one : X → Bool) (subtype : ℕ) (b t : Bool) (x : X) (xs : List X) (entry : LogEntry) (log : List LogEntry) → real_one x ≡ not t → of_subtype subtype entry.command ≡ b →
    length (filter real_one xs) ≡ length (filter (of_subtype subtype) (map (λ one. one.command) log)) →
    length (filter real_one (cond b (x ∷ xs) xs)) ≡ length (filter (of_subtype subtype) (map (λ one. one.command) (cond (not t) (entry ∷ log) log)))
pick {X} real_one subtype true true x xs entry log real of rest = ap (λ (r : Bool). length (cond r (x ∷ filter real_one xs) (filter real_one xs))) real ∙ rest
pick {X} real_one subtype true false x xs entry log real of rest =
    ap (λ (r : Bool). length (cond r (x ∷ filter real_one xs) (filter real_one xs))) real
    ∙ ap suc rest
    ∙ sym (ap (λ (r : Bool). length (cond r (entry.command ∷ filter (of_subtype subtype) (map (λ (one : LogEntry). one.command) log)) (filter (of_subtype subtype) (map (λ (one : LogEntry). one.command) log)))) of)
pick {X} real_one subtype false true x xs entry log real of rest = rest
pick {X} real_one subtype false false x xs entry log real of rest =
    rest
    ∙ sym (ap (λ (r : Bool). length (cond r (entry.command ∷ filter (of_subtype subtype) (map (λ (one : LogEntry). one.command) log)) (filter (of_subtype subtype) (map (λ (one : LogEntry). one.command) log)))) of)

counted : (subtype : ℕ) (log : List LogEntry) →
    length (filter (λ e. not e.trial) (filter (λ e. eqb e.subtype subtype) (map measured log))) ≡ length (filter (of_subtype subtype) (map (λ entry. entry.command) (real_entries log)))
unfolding of_subtype
counted subtype [] = refl
counted subtype (entry ∷ log) =
    pick _ subtype (eqb (subtype_of entry.command) subtype) entry.trial (measured entry) (filter (λ e. eqb e.subtype subtype) (map measured log)) entry (real_entries log) refl refl (counted subtype log)

due-is : (enc : EncoderConfig) (log : List LogEntry) (command : Command) → is_trial_due enc log command ≡ due_by enc (commands_in log) command
unfolding due_by commands_in
due-is enc log command =
    ap (λ (n : ℕ). is_coding command && (int_lt (pos 0) (start_of enc).bitrate && eqb n 0)) (counted (subtype_of command) log)

-- ---- two moments

pub record IsAlike {T : Type 0} (one other : Moment T ⊤) : Type 0 where
  pub accepted : one.accepted ≡ other.accepted
  pub flushed : one.flushed ≡ other.flushed
  pub commands : one.commands ≡ other.commands
  pub packets : one.packets ≡ other.packets
  pub coded : commands_in one.log ≡ commands_in other.log
  pub unkeyed : Unkeyed one.decisions
  pub unkeyed_too : Unkeyed other.decisions

held-same : {T : Type 0} (enc : EncoderConfig) (m n : Moment T ⊤) → IsAlike m n → held_back enc m ≡ held_back enc n
held-same enc m n alike =
    held-is enc m alike.unkeyed
    ∙ ap (λ (a : ℕ). held_with enc a m.flushed m.commands m.packets (keys_of a [])) alike.accepted
    ∙ ap (λ (f : Bool). held_with enc n.accepted f m.commands m.packets (keys_of n.accepted [])) alike.flushed
    ∙ ap₂ (λ (c p : ℕ). held_with enc n.accepted n.flushed c p (keys_of n.accepted [])) alike.commands alike.packets
    ∙ sym (held-is enc n alike.unkeyed_too)

plan-same : {T : Type 0} (enc : EncoderConfig) (m n : Moment T ⊤) → IsAlike m n → plan_at enc m ≡ plan_at enc n
plan-same enc m n alike = plan-is enc m alike.unkeyed ∙ ap (plan_by enc) alike.accepted ∙ sym (plan-is enc n alike.unkeyed_too)

due-same : {T : Type 0} (enc : EncoderConfig) (m n : Moment T ⊤) (command : Command) → IsAlike m n → is_trial_due enc m.log command ≡ is_trial_due enc n.log command
due-same enc m n command alike =
    due-is enc m.log command ∙ ap (λ (l : List Command). due_by enc l command) alike.coded ∙ sym (due-is enc n.log command)

-- ---- a receive that codes

real-one : (due : Bool) (command : Command) (trials : List LogEntry) (entry : LogEntry) → MatchBool due (IsTrial command trials) (trials ≡ []) → entry.trial ≡ false →
    real_entries (trials ++ entry ∷ []) ≡ entry ∷ []
real-one true command trials entry one real =
    subst (λ (l : List LogEntry). real_entries (l ++ entry ∷ []) ≡ entry ∷ []) (sym one.one)
    (ap₂ (λ (t u : Bool). cond (not t) (one.trial ∷ cond (not u) (entry ∷ []) []) (cond (not u) (entry ∷ []) [])) one.tried real)
real-one false command trials entry none real =
    subst (λ (l : List LogEntry). real_entries (l ++ entry ∷ []) ≡ entry ∷ []) (sym none) (ap (λ (u : Bool). cond (not u) (entry ∷ []) []) real)

-- how many calls of a coder it takes to code a command
abbrev pub calls_for : Bool → ℕ
calls_for due = cond due 2 1

trials-length : (due : Bool) (command : Command) (trials : List LogEntry) (entry : LogEntry) → MatchBool due (IsTrial command trials) (trials ≡ []) →
    length (trials ++ entry ∷ []) ≡ calls_for due
trials-length true command trials entry one = ap (λ (l : List LogEntry). length (l ++ entry ∷ [])) one.one
trials-length false command trials entry none = ap (λ (l : List LogEntry). length (l ++ entry ∷ [])) none

-- what it does to a moment
record IsCoded {T : Type 0} (enc : EncoderConfig) (m : Moment T ⊤) (turn : Turn T ⊤) : Type 0 where
  command : Command
  is_next : slice_get (plan_at enc m) m.commands ≡ Some command
  count : length turn.log ≡ calls_for (is_trial_due enc m.log command)
  accepted : (after_receive m turn.log turn.reply).accepted ≡ m.accepted
  flushed : (after_receive m turn.log turn.reply).flushed ≡ m.flushed
  decisions : (after_receive m turn.log turn.reply).decisions ≡ m.decisions
  commands : (after_receive m turn.log turn.reply).commands ≡ m.commands + 1
  packets : (after_receive m turn.log turn.reply).packets ≡ m.packets + cond (is_showing command) 1 0
  coded : commands_in (after_receive m turn.log turn.reply).log ≡ commands_in m.log ++ command ∷ []

commands-append : (log more : List LogEntry) → commands_in (log ++ more) ≡ commands_in log ++ commands_in more
unfolding commands_in
commands-append log more =
    ap (λ (l : List LogEntry). map (λ (entry : LogEntry). entry.command) l) (filter-append (λ (entry : LogEntry). not entry.trial) log more)
    ∙ map-append (λ (entry : LogEntry). entry.command) (real_entries log) (real_entries more)

module _ {T : Type 0} (enc : EncoderConfig) (m : Moment T ⊤) (turn : Turn T ⊤) (codes : CodesNext enc m turn) where
  real : real_entries turn.log ≡ codes.entry ∷ []
  real = ap real_entries codes.log ∙ real-one _ codes.entry.command codes.trials codes.entry codes.tried codes.real

  one-command : length (real_entries turn.log) ≡ 1
  one-command = ap (λ (l : List LogEntry). length l) real

  coded-more : commands_in (m.log ++ turn.log) ≡ commands_in m.log ++ codes.entry.command ∷ []
  unfolding commands_in
  coded-more = commands-append m.log turn.log ∙ ap (λ (l : List LogEntry). commands_in m.log ++ map (λ (entry : LogEntry). entry.command) l) real

  coded-by : (shows : Bool) → is_showing codes.entry.command ≡ shows →
      MatchBool shows ((packet : Packet T ⊤) × (turn.reply ≡ GivesPacket packet) × IsNextPacket m codes.entry packet) (turn.reply ≡ Status Encoded) → IsCoded enc m turn
  coded-by true shown received = record {
    command = codes.entry.command;
    is_next = codes.command;
    count = ap (λ (l : List LogEntry). length l) codes.log ∙ trials-length _ codes.entry.command codes.trials codes.entry codes.tried;
    accepted = ap (λ (r : Reply T ⊤). (after_receive m turn.log r).accepted) received.1;
    flushed = ap (λ (r : Reply T ⊤). (after_receive m turn.log r).flushed) received.1;
    decisions = ap (λ (r : Reply T ⊤). (after_receive m turn.log r).decisions) received.1;
    commands = ap (λ (r : Reply T ⊤). (after_receive m turn.log r).commands) received.1 ∙ ap (λ (n : ℕ). m.commands + n) one-command;
    packets = ap (λ (r : Reply T ⊤). (after_receive m turn.log r).packets) received.1 ∙ ap (λ (b : Bool). m.packets + cond b 1 0) (sym shown);
    coded = ap (λ (r : Reply T ⊤). commands_in (after_receive m turn.log r).log) received.1 ∙ coded-more;
  }
  coded-by false shown received = record {
    command = codes.entry.command;
    is_next = codes.command;
    count = ap (λ (l : List LogEntry). length l) codes.log ∙ trials-length _ codes.entry.command codes.trials codes.entry codes.tried;
    accepted = ap (λ (r : Reply T ⊤). (after_receive m turn.log r).accepted) received;
    flushed = ap (λ (r : Reply T ⊤). (after_receive m turn.log r).flushed) received;
    decisions = ap (λ (r : Reply T ⊤). (after_receive m turn.log r).decisions) received;
    commands = ap (λ (r : Reply T ⊤). (after_receive m turn.log r).commands) received ∙ ap (λ (n : ℕ). m.commands + n) one-command;
    packets =
        let here : m.packets ≡ m.packets + 0 = omega arith in
        ap (λ (r : Reply T ⊤). (after_receive m turn.log r).packets) received ∙ here ∙ ap (λ (b : Bool). m.packets + cond b 1 0) (sym shown);
    coded = ap (λ (r : Reply T ⊤). commands_in (after_receive m turn.log r).log) received ∙ coded-more;
  }

  coded-of : IsCoded enc m turn
  coded-of = coded-by (is_showing codes.entry.command) refl codes.reply

-- ---- one call

-- both turns took as many calls of the coder, and leave moments that are alike
pub record AreAlike {T : Type 0} (turn turned : Turn T ⊤) (one other : Moment T ⊤) : Type 0 where
  pub count : length turn.log ≡ length turned.log
  pub alike : IsAlike one other

module _ {T : Type 0} (enc : EncoderConfig) (D E : List Decision) (un : Unkeyed D) (too : Unkeyed E) where
  send-alike : (m n : Moment T ⊤) (frame other : Accepted T ⊤) (reply : Reply T ⊤) → IsAlike m n → IsAlike (after_send enc D m frame reply) (after_send enc E n other reply)
  send-alike m n frame other (Sent number) alike = record {
    accepted = ap (λ (a : ℕ). a + 1) alike.accepted;
    flushed = alike.flushed;
    commands = alike.commands;
    packets = alike.packets;
    coded = alike.coded;
    unkeyed = unkeyed-take _ D un;
    unkeyed_too = unkeyed-take _ E too;
  }
  send-alike m n frame other Flushed alike = alike
  send-alike m n frame other (GivesPacket packet) alike = alike
  send-alike m n frame other (Status status) alike = alike

  reply-same : (m n : Moment T ⊤) (picture : Frame T) → IsAlike m n → sent_reply enc m picture ≡ sent_reply enc n picture
  reply-same m n picture alike =
      let by : Bool → ℕ → Reply T ⊤ = λ f a. cond ((f || (enc.still_picture && nat_le 1 a)) || eqb a frame_limit) (Status EnoughData)
      (cond (fits picture enc.width enc.height enc.chroma_sampling) (Sent a) (Status FrameSizeMismatch)) in
      ap₂ by alike.flushed alike.accepted

  sends-alike : (m n : Moment T ⊤) (frame other : Accepted T ⊤) (reply replied : Reply T ⊤) → IsAlike m n → reply ≡ replied → IsAlike (after_send enc D m frame reply) (after_send enc E n other replied)
  sends-alike m n frame other reply replied alike same =
      subst (λ (r : Reply T ⊤). IsAlike (after_send enc D m frame reply) (after_send enc E n other r)) same (send-alike m n frame other reply alike)

  receive-both : (m n : Moment T ⊤) (turn turned : Turn T ⊤) → IsAlike m n → CodesNext enc m turn → CodesNext enc n turned →
      AreAlike turn turned (after_receive m turn.log turn.reply) (after_receive n turned.log turned.reply)
  receive-both m n turn turned alike codes coded = record {
    count = a.count ∙ ap (λ (due : Bool). calls_for due) due ∙ sym b.count;
    alike = record {
      accepted = a.accepted ∙ alike.accepted ∙ sym b.accepted;
      flushed = a.flushed ∙ alike.flushed ∙ sym b.flushed;
      commands = a.commands ∙ ap (λ (c : ℕ). c + 1) alike.commands ∙ sym b.commands;
      packets = a.packets ∙ ap₂ (λ (p : ℕ) (c : Command). p + cond (is_showing c) 1 0) alike.packets same ∙ sym b.packets;
      coded = a.coded ∙ ap₂ (λ (l : List Command) (c : Command). l ++ c ∷ []) alike.coded same ∙ sym b.coded;
      unkeyed = subst Unkeyed (sym a.decisions) alike.unkeyed;
      unkeyed_too = subst Unkeyed (sym b.decisions) alike.unkeyed_too;
    };
  }
    where
      a : IsCoded enc m turn
      a = coded-of enc m turn codes

      b : IsCoded enc n turned
      b = coded-of enc n turned coded

      same : a.command ≡ b.command
      same = same_Some a.command b.command
          (sym a.is_next ∙ ap₂ (λ (l : List Command) (k : ℕ). slice_get l k) (plan-same enc m n alike) alike.commands ∙ b.is_next)

      due : is_trial_due enc m.log a.command ≡ is_trial_due enc n.log b.command
      due = due-same enc m n a.command alike ∙ ap (λ (c : Command). is_trial_due enc n.log c) same

  -- a receive that codes nothing
  status-alike : (m n : Moment T ⊤) (turn turned : Turn T ⊤) (status : EncoderStatus) → IsAlike m n → OnlyReplies turn (Status status) → OnlyReplies turned (Status status) →
      AreAlike turn turned (after_receive m turn.log turn.reply) (after_receive n turned.log turned.reply)
  status-alike m n turn turned status alike only too_only =
      subst (λ (l : List LogEntry). AreAlike (record turn { log = l }) turned (after_receive m l turn.reply) (after_receive n turned.log turned.reply)) (sym only.1)
      (subst (λ (r : Reply T ⊤). AreAlike (record turn { log = []; reply = r }) turned (after_receive m [] r) (after_receive n turned.log turned.reply)) (sym only.0)
      (subst (λ (l : List LogEntry). AreAlike (record turn { log = []; reply = Status status }) (record turned { log = l }) (after_receive m [] (Status status)) (after_receive n l turned.reply)) (sym too_only.1)
      (subst (λ (r : Reply T ⊤). AreAlike (record turn { log = []; reply = Status status }) (record turned { log = []; reply = r }) (after_receive m [] (Status status)) (after_receive n [] r)) (sym too_only.0)
      (record {
        count = refl;
        alike = record {
          accepted = alike.accepted;
          flushed = alike.flushed;
          commands = ap (λ (c : ℕ). c + 0) alike.commands;
          packets = alike.packets;
          coded = ap (λ (l : List LogEntry). commands_in l) (append-nil m.log) ∙ alike.coded ∙ ap (λ (l : List LogEntry). commands_in l) (sym (append-nil n.log));
          unkeyed = alike.unkeyed;
          unkeyed_too = alike.unkeyed_too;
        };
      }))))

  receive-alike : (m n : Moment T ⊤) (turn turned : Turn T ⊤) → IsAlike m n → IsTurn enc D m Receive turn → IsTurn enc E n Receive turned →
      AreAlike turn turned (after_receive m turn.log turn.reply) (after_receive n turned.log turned.reply)
  receive-alike m n turn turned alike one other = by (held_back enc m) refl
    where
      by : (held : Option EncoderStatus) → held_back enc m ≡ held → AreAlike turn turned (after_receive m turn.log turn.reply) (after_receive n turned.log turned.reply)
      by None is = receive-both m n turn turned alike
          (subst (λ (o : Option EncoderStatus). MatchOption o (CodesNext enc m turn) (λ status. OnlyReplies turn (Status status))) is one)
          (subst (λ (o : Option EncoderStatus). MatchOption o (CodesNext enc n turned) (λ status. OnlyReplies turned (Status status))) (sym (held-same enc m n alike) ∙ is) other)
      by (Some status) is = status-alike m n turn turned status alike
          (subst (λ (o : Option EncoderStatus). MatchOption o (CodesNext enc m turn) (λ status. OnlyReplies turn (Status status))) is one)
          (subst (λ (o : Option EncoderStatus). MatchOption o (CodesNext enc n turned) (λ status. OnlyReplies turned (Status status))) (sym (held-same enc m n alike) ∙ is) other)

  pub turn-alike : (m n : Moment T ⊤) (call called : Call T ⊤) (turn turned : Turn T ⊤) → SameCall call called → IsAlike m n → IsTurn enc D m call turn → IsTurn enc E n called turned →
      AreAlike turn turned (after_turn enc D m call turn) (after_turn enc E n called turned)
  turn-alike m n (Send frame parameters) (Send other others) turn turned same alike one two = record {
    count = ap (λ (l : List LogEntry). length l) one.0.1 ∙ sym (ap (λ (l : List LogEntry). length l) two.0.1);
    alike = sends-alike m n (accepted_of frame.value parameters) (accepted_of other.value others) turn.reply turned.reply alike
        (one.0.0 ∙ reply-same m n frame.value alike ∙ ap (λ (p : Frame T). sent_reply enc n p) same.0 ∙ sym two.0.0);
  }
  turn-alike m n (Send frame parameters) Flush turn turned same alike one two = absurd same
  turn-alike m n (Send frame parameters) Receive turn turned same alike one two = absurd same
  turn-alike m n Flush (Send other others) turn turned same alike one two = absurd same
  turn-alike m n Flush Flush turn turned same alike one two = record {
    count = ap (λ (l : List LogEntry). length l) one.0.1 ∙ sym (ap (λ (l : List LogEntry). length l) two.0.1);
    alike = record {
      accepted = alike.accepted;
      flushed = refl;
      commands = alike.commands;
      packets = alike.packets;
      coded = alike.coded;
      unkeyed = unkeyed-take _ D un;
      unkeyed_too = unkeyed-take _ E too;
    };
  }
  turn-alike m n Flush Receive turn turned same alike one two = absurd same
  turn-alike m n Receive (Send other others) turn turned same alike one two = absurd same
  turn-alike m n Receive Flush turn turned same alike one two = absurd same
  turn-alike m n Receive Receive turn turned same alike one two = receive-alike m n turn turned alike one two

  -- ---- calls up to one that codes

  entries-cons : (turn : Turn T ⊤) (turns : List (Turn T ⊤)) → length (entries_of (turn ∷ turns)) ≡ length turn.log + length (entries_of turns)
  entries-cons turn turns = length-append turn.log (entries_of turns)

  -- the other session took all calls for that command too
  pub reaches : (done : ℕ) (calls others : List (Call T ⊤)) (turns turned : List (Turn T ⊤)) (m n : Moment T ⊤) (command : Command) → SameCalls calls others →
      slice_get calls done ≡ Some Receive → Runs (IsTurn enc D) (after_turn enc D) m (take done calls) turns → Runs (IsTurn enc E) (after_turn enc E) n others turned → IsAlike m n →
      held_back enc (after_calls (after_turn enc D) m (take done calls) turns) ≡ None →
      slice_get (plan_at enc (after_calls (after_turn enc D) m (take done calls) turns)) (after_calls (after_turn enc D) m (take done calls) turns).commands ≡ Some command →
      length (entries_of turns) + calls_for (is_trial_due enc (after_calls (after_turn enc D) m (take done calls) turns).log command) ≤ length (entries_of turned)
  reaches done [] others turns turned m n command same at runs ran alike due is = absurd (none-some _ at)
  reaches done (call ∷ calls) [] turns turned m n command same at runs ran alike due is = absurd same
  reaches done (call ∷ calls) (other ∷ others) turns [] m n command same at runs ran alike due is = absurd ran
  reaches zero (call ∷ calls) (other ∷ others) (turn ∷ turns) (two ∷ turned) m n command same at runs ran alike due is = absurd runs
  reaches zero (call ∷ calls) (other ∷ others) [] (two ∷ turned) m n command same at runs ran alike due is = by other (subst (λ (c : Call T ⊤). SameCall c other) (same_Some call Receive at) same.0) ran.0
    where
      by : (called : Call T ⊤) → SameCall Receive called → IsTurn enc E n called two → 0 + calls_for (is_trial_due enc m.log command) ≤ length (entries_of (two ∷ turned))
      by (Send frame parameters) never turns = absurd never
      by Flush never turns = absurd never
      by Receive both turns =
          let codes : CodesNext enc n two = subst (λ (o : Option EncoderStatus). MatchOption o (CodesNext enc n two) (λ status. OnlyReplies two (Status status))) (sym (held-same enc m n alike) ∙ due) turns in
          let b = coded-of enc n two codes in
          let here : command ≡ b.command = same_Some command b.command (sym is ∙ ap₂ (λ (l : List Command) (k : ℕ). slice_get l k) (plan-same enc m n alike) alike.commands ∙ b.is_next) in
          let count : length two.log ≡ calls_for (is_trial_due enc m.log command) =
          b.count ∙ ap (λ (c : Command). calls_for (is_trial_due enc n.log c)) (sym here) ∙ ap (λ (d : Bool). calls_for d) (sym (due-same enc m n command alike)) in
          omega (arith, count, entries-cons two turned)
  reaches (suc done) (call ∷ calls) (other ∷ others) [] (two ∷ turned) m n command same at runs ran alike due is = absurd runs
  reaches (suc done) (call ∷ calls) (other ∷ others) (turn ∷ turns) (two ∷ turned) m n command same at runs ran alike due is =
      let step = turn-alike m n call other turn two same.0 alike runs.0 ran.0 in
      let rest = reaches done calls others turns turned (after_turn enc D m call turn) (after_turn enc E n other two) command same.1 at runs.1 ran.1 step.alike due is in
      omega (arith, rest, step.count, entries-cons turn turns, entries-cons two turned)

  -- as far as both go they stand alike
  pub calls-alike : (calls others : List (Call T ⊤)) (turns turned : List (Turn T ⊤)) (m n : Moment T ⊤) → SameCalls calls others →
      Runs (IsTurn enc D) (after_turn enc D) m calls turns → Runs (IsTurn enc E) (after_turn enc E) n others turned → IsAlike m n →
      IsAlike (after_calls (after_turn enc D) m calls turns) (after_calls (after_turn enc E) n others turned)
  calls-alike [] [] turns turned m n same runs ran alike = alike
  calls-alike [] (other ∷ others) turns turned m n same runs ran alike = absurd same
  calls-alike (call ∷ calls) [] turns turned m n same runs ran alike = absurd same
  calls-alike (call ∷ calls) (other ∷ others) [] turned m n same runs ran alike = absurd runs
  calls-alike (call ∷ calls) (other ∷ others) (turn ∷ turns) [] m n same runs ran alike = absurd ran
  calls-alike (call ∷ calls) (other ∷ others) (turn ∷ turns) (two ∷ turned) m n same runs ran alike =
      calls-alike calls others turns turned (after_turn enc D m call turn) (after_turn enc E n other two) same.1 runs.1 ran.1
      (turn-alike m n call other turn two same.0 alike runs.0 ran.0).alike
