-- What a first pass hands on along a worker's acts: a message of each command, and at the end the summary.
use Rattle.std.proofs.Common.{◌≡◌, ℕ, ◌+◌, ◌<◌, ◌≤◌, Bool, true, false, cond, not, ◌&&◌, All, IsTrue, MatchBool, MatchOption, List, [], ◌∷◌, ◌++◌, length, length-append, map, option_to_list, append-nil, append_assoc, Option, Some, None, is_some, ℤ, pos, ◌≤ℤ◌, int_lt, refl, sym, ap, ◌∙◌, subst, arith}
use Rattle.std.proofs.lemmas.Int.{ints}
use Rattle.std.proofs.lemmas.List.Elements.{All-append, All-cons, All-nil, filter-append}
use Rattle.arrayvec.specs.ArrayVec.{ArrayVec}
use Rattle.av1_settings.specs.declared.encoder.EncoderConfig.{EncoderConfig}
use Rattle.av1_settings.specs.declared.status.EncoderStatus.{EncoderStatus}
use Rattle.pass_data.specs.Emitted.{Emitted, emitted_by, with_frame_emitted, with_waiting}
use Rattle.pass_data.specs.Given.{Given, coded}
use Rattle.pass_data.specs.declared.rc_data.RcData.{RcData}
use Rattle.pass_data.specs.declared.rc_data.RcData.TheVariants.{Frame as OfFrame, Summary as OfSummary}
use Rattle.pass_stats.specs.declared.metrics.RCFrameMetrics.{RCFrameMetrics}
use Rattle.pyramid.specs.declared.command.Command.{Command}
use Rattle.pyramid.specs.Known.{is_coding}
use Rattle.ratecontrol.specs.Passes.{after_frame_emitted, after_summary, can_emit, commands, frame_emitted, given_out, gives_frame, gives_summary, is_controlled}
use Rattle.ratecontrol.specs.Rate.{Rate}
use Rattle.ratecontrol.specs.Start.{nothing_emitted}
use Rattle.ratecontrol.specs.Update.{frame_data}
use Rattle.ratecontrol.proofs.KeptLaws.{kept_bitrate}
use Rattle.session_log.specs.Passes.{Passes, passes_after, rate_at, started}
use Rattle.session_log.specs.Readings.{measured}
use Rattle.session_log.specs.declared.entry.LogEntry.{LogEntry}
use Rattle.session_log.proofs.Logs.{started_bitrate}
use Rattle.session_core.specs.declared.call.Call.{Call}
use Rattle.session_core.specs.declared.call.Call.TheVariants.{Send, Flush, Receive}
use Rattle.session_core.specs.declared.fault.SessionFault.{SessionFault}
use Rattle.session_core.specs.declared.packet.Packet.{Packet}
use Rattle.session_core.specs.declared.transcript.Decision.{Decision}
use Rattle.session_core.specs.declared.transcript.Reply.{Reply}
use Rattle.session_core.specs.declared.transcript.Reply.TheVariants.{Sent, Flushed, Packet as GivesPacket, Status}
use Rattle.session_core.specs.Contexts.{Asks, GivesDone, GivesReceived, IsAnswered, Session}
use Rattle.session_core.specs.Moments.{Accepted, Moment}
use Rattle.session_core.specs.PassCalls.{IsTakeCall, rate_in, with_rate}
use Rattle.session_core.specs.PassTurns.{IsFrameData, IsPassData, IsSummaryData, is_done}
use Rattle.session_core.specs.Quantisers.{passes_behind}
use Rattle.session_core.specs.Turns.{AreTrials, CodesNext, IsTrial, OnlyReplies, accepted_of, after_receive, after_send, held_back, real_entries}
use Rattle.session_channels.specs.Acts.{Act, AreActs, Does, Ears, Empty, Hand, Holds, IsDueWith, Over, Done, Owes, Point, TakesFrame, SendsFrame, Gives, Receives, HandsOn, Flushes, Stops, all_well, data_handed, data_in, hand_after, hears, received}
use Rattle.session_channels.specs.Drives.{AreHandedOn, IsOfFrame}
use Rattle.session_channels.specs.Ends.{FrameMessage}
use Rattle.session_channels.specs.Wells.{IsUntried, IsWell, last_command}
use Rattle.session_channels.proofs.LawsCounted.{counts-few}
use Rattle.session_channels.proofs.LawsActs.{flush-answered, given-answered, receive-answered, send-answered}

-- ---- what the passes hand on behind entries

behind-push : (enc : EncoderConfig) (passes : Passes) (before entries : List LogEntry) (entry : LogEntry) →
    passes_after enc (passes_behind enc passes before entries) (before ++ entries) entry ≡ passes_behind enc passes before (entries ++ entry ∷ [])
behind-push enc passes before [] entry = ap (λ (log : List LogEntry). passes_after enc passes log entry) (append-nil before)
behind-push enc passes before (one ∷ entries) entry =
    ap (λ (log : List LogEntry). passes_after enc (passes_behind enc (passes_after enc passes before one) (before ++ one ∷ []) entries) log entry)
    (sym (append_assoc before (one ∷ []) entries))
    ∙ behind-push enc (passes_after enc passes before one) (before ++ one ∷ []) entries entry

behind-nothing : (enc : EncoderConfig) (passes : Passes) (before entries : List LogEntry) → entries ≡ [] → passes_behind enc passes before entries ≡ passes
behind-nothing enc passes before entries none = ap (passes_behind enc passes before) none

-- ---- what stands of a session in a first pass

pub record IsFirst {T O D S C : Type 0} (session : Session T O D S C) : Type 0 where
  pub first : session.passes.first ≡ true
  pub controlled : int_lt (pos 0) session.enc.bitrate ≡ true
  pub unfailed : session.failure ≡ None
  pub real : session.moment.commands ≡ length (real_entries session.moment.log)
  pub untried : All IsUntried session.moment.log

-- a message of each command was handed on
pub record IsEven {T O D S C : Type 0} (done : List RcData) (session : Session T O D S C) : Type 0 where
  pub of_frames : All IsOfFrame done
  pub one_each : length done ≡ session.moment.commands
  pub waits : session.passes.emitted.waiting ≡ None
  pub open_yet : session.passes.emitted.is_summed_up ≡ false

-- that of the last command waits
pub record IsOdd {T O D S C : Type 0} (done : List RcData) (session : Session T O D S C) : Type 0 where
  pub of_frames : All IsOfFrame done
  pub one_more : length done + 1 ≡ session.moment.commands
  pub waits : is_some session.passes.emitted.waiting ≡ true
  pub open_yet : session.passes.emitted.is_summed_up ≡ false

abbrev pub IsHanding : {T O D S C : Type 0} → Hand T O → List RcData → Session T O D S C → Type 0
IsHanding Empty done session = IsEven done session
IsHanding (Holds message) done session = IsEven done session
IsHanding Over done session = IsEven done session
IsHanding Done done session = AreHandedOn session.moment.commands done
IsHanding (Owes Empty) done session = IsOdd done session
IsHanding (Owes (Holds message)) done session = IsOdd done session
IsHanding (Owes Over) done session = IsOdd done session
IsHanding (Owes Done) done session = IsEven done session × IsTrue (is_done session.moment)
IsHanding (Owes (Owes hand)) done session = ⊥

-- ---- an act that codes nothing and hands nothing on

record IsQuiet {T O D S C : Type 0} (before after : Session T O D S C) : Type 0 where
  pub settings : after.enc ≡ before.enc
  pub first : after.passes.first ≡ before.passes.first
  pub emitted : after.passes.emitted ≡ before.passes.emitted
  pub unfailed : after.failure ≡ None
  pub commands : after.moment.commands ≡ before.moment.commands
  pub log : after.moment.log ≡ before.moment.log

module _ {T O D S C : Type 0} (before after : Session T O D S C) where
  quiet-first : IsQuiet before after → IsFirst before → IsFirst after
  quiet-first quiet one = record {
    first = quiet.first ∙ one.first;
    controlled = ap (λ (e : EncoderConfig). int_lt (pos 0) e.bitrate) quiet.settings ∙ one.controlled;
    unfailed = quiet.unfailed;
    real = quiet.commands ∙ (one.real ∙ ap (λ (l : List LogEntry). length (real_entries l)) (sym quiet.log));
    untried = subst (λ (l : List LogEntry). All IsUntried l) (sym quiet.log) one.untried;
  }

  quiet-even : (done : List RcData) → IsQuiet before after → IsEven done before → IsEven done after
  quiet-even done quiet even = record {
    of_frames = even.of_frames;
    one_each = even.one_each ∙ sym quiet.commands;
    waits = ap (λ (e : Emitted). e.waiting) quiet.emitted ∙ even.waits;
    open_yet = ap (λ (e : Emitted). e.is_summed_up) quiet.emitted ∙ even.open_yet;
  }

  quiet-odd : (done : List RcData) → IsQuiet before after → IsOdd done before → IsOdd done after
  quiet-odd done quiet odd = record {
    of_frames = odd.of_frames;
    one_more = odd.one_more ∙ sym quiet.commands;
    waits = ap (λ (e : Emitted). is_some e.waiting) quiet.emitted ∙ odd.waits;
    open_yet = ap (λ (e : Emitted). e.is_summed_up) quiet.emitted ∙ odd.open_yet;
  }

  same-quiet : after ≡ before → before.failure ≡ None → IsQuiet before after
  same-quiet is unfailed = subst (λ (s : Session T O D S C). IsQuiet before s) (sym is)
      (record { settings = refl; first = refl; emitted = refl; unfailed = unfailed; commands = refl; log = refl })

sent-log : {T O : Type 0} (enc : EncoderConfig) (decisions : List Decision) (moment : Moment T O) (frame : Accepted T O) (reply : Reply T O) →
    ((after_send enc decisions moment frame reply).commands ≡ moment.commands) × ((after_send enc decisions moment frame reply).log ≡ moment.log)
sent-log enc decisions moment frame (Sent number) = (refl, refl)
sent-log enc decisions moment frame Flushed = (refl, refl)
sent-log enc decisions moment frame (GivesPacket packet) = (refl, refl)
sent-log enc decisions moment frame (Status status) = (refl, refl)

module _ {T O D S C : Type 0} (ears : Ears T D S C) (before after : Session T O D S C) where
  send-quiet : (message : FrameMessage T O) → Does ears (SendsFrame message) before after → IsQuiet before after
  send-quiet message is = by_call answered.0 answered.1 answered.2
    where
      answered : (call : Call T O) × Asks (Some (message.0).value) message.1 call × IsAnswered GivesDone call before after (hears ears before) (hears ears after) all_well
      answered = send-answered before after (hears ears before) (hears ears after) (Some (message.0).value) message.1 is

      by_call : (call : Call T O) → Asks (Some (message.0).value) message.1 call → IsAnswered GivesDone call before after (hears ears before) (hears ears after) all_well → IsQuiet before after
      by_call Flush asks one = absurd asks
      by_call Receive asks one = absurd asks
      by_call (Send frame parameters) asks one =
          let passes : after.passes ≡ before.passes = one.passes ∙ behind-nothing before.enc before.passes before.moment.log one.turn.log one.step.answered.0.1 in
          let logs = sent-log before.enc after.moment.decisions before.moment (accepted_of frame.value parameters) one.turn.reply in
          record {
            settings = one.settings;
            first = ap (λ (p : Passes). p.first) passes;
            emitted = ap (λ (p : Passes). p.emitted) passes;
            unfailed = one.unfailed;
            commands = ap (λ (m : Moment T O). m.commands) one.step.moment ∙ logs.0;
            log = ap (λ (m : Moment T O). m.log) one.step.moment ∙ logs.1;
          }

  flush-quiet : Does ears Flushes before after → IsQuiet before after
  flush-quiet is =
      let one : IsAnswered GivesDone Flush before after (hears ears before) (hears ears after) all_well =
      flush-answered before after (hears ears before) (hears ears after) is in
      let passes : after.passes ≡ before.passes = one.passes ∙ behind-nothing before.enc before.passes before.moment.log one.turn.log one.step.answered.0.1 in
      record {
        settings = one.settings;
        first = ap (λ (p : Passes). p.first) passes;
        emitted = ap (λ (p : Passes). p.emitted) passes;
        unfailed = one.unfailed;
        commands = ap (λ (m : Moment T O). m.commands) one.step.moment;
        log = ap (λ (m : Moment T O). m.log) one.step.moment;
      }

  give-quiet : (metrics : ArrayVec ℕ) → before.failure ≡ None → Does ears (Gives metrics) before after → IsQuiet before after
  give-quiet metrics unfailed is = subst (λ (s : Session T O D S C). IsQuiet before s) (sym (given-answered before after metrics.items is))
      (record { settings = refl; first = refl; emitted = refl; unfailed = unfailed; commands = refl; log = refl })

-- ---- a command that is coded

-- an entry leaves which passes are on and whether the summary was taken
record StaysFirst (before after : Passes) : Type 0 where
  pub first : after.first ≡ before.first
  pub summed : after.emitted.is_summed_up ≡ before.emitted.is_summed_up

entry-first : (enc : EncoderConfig) (passes : Passes) (log : List LogEntry) (entry : LogEntry) → StaysFirst passes (passes_after enc passes log entry)
entry-first enc passes log entry = by_bitrate (int_lt (pos 0) enc.bitrate) passes.first (cond (passes.second && not entry.trial) (coded passes.given) passes.given) (frame_data (measured entry) (rate_at enc passes log))
  where
    by_bitrate : (b first : Bool) (given : Given) (m : RCFrameMetrics) →
        StaysFirst passes (cond b (record passes { given = given; emitted = cond first (with_waiting m passes.emitted) passes.emitted }) passes)
    by_bitrate true true given m = record { first = refl; summed = refl }
    by_bitrate true false given m = record { first = refl; summed = refl }
    by_bitrate false first given m = record { first = refl; summed = refl }

entries-first : (enc : EncoderConfig) (passes : Passes) (log entries : List LogEntry) → StaysFirst passes (passes_behind enc passes log entries)
entries-first enc passes log [] = record { first = refl; summed = refl }
entries-first enc passes log (entry ∷ entries) =
    let one = entry-first enc passes log entry in
    let rest = entries-first enc (passes_after enc passes log entry) (log ++ entry ∷ []) entries in
    record { first = rest.first ∙ one.first; summed = rest.summed ∙ one.summed }

-- behind an entry its data waits
entry-waits : (enc : EncoderConfig) (passes : Passes) (log : List LogEntry) (entry : LogEntry) → int_lt (pos 0) enc.bitrate ≡ true → passes.first ≡ true →
    is_some (passes_after enc passes log entry).emitted.waiting ≡ true
entry-waits enc passes log entry controlled first =
    by_bitrate (int_lt (pos 0) enc.bitrate) passes.first (cond (passes.second && not entry.trial) (coded passes.given) passes.given) (frame_data (measured entry) (rate_at enc passes log)) controlled first
  where
    by_bitrate : (b f : Bool) (given : Given) (m : RCFrameMetrics) → b ≡ true → f ≡ true →
        is_some (cond b (record passes { given = given; emitted = cond f (with_waiting m passes.emitted) passes.emitted }) passes).emitted.waiting ≡ true
    by_bitrate true true given m p q = refl
    by_bitrate true false given m p q = absurd (cc)
    by_bitrate false f given m p q = absurd (cc)

-- of a try nothing counts, and a show isn't tried
record AreOnlyTried (trials : List LogEntry) : Type 0 where
  pub none_real : real_entries trials ≡ []
  pub untried : All IsUntried trials

only-tried : {T O : Type 0} (enc : EncoderConfig) (moment : Moment T O) (command : Command) (trials : List LogEntry) → AreTrials enc moment command trials → AreOnlyTried trials
only-tried enc moment command trials are = by_due (is_coding command) _ refl are
  where
    by_due : (codes due : Bool) → is_coding command ≡ codes → MatchBool (codes && due) (IsTrial command trials) (trials ≡ []) → AreOnlyTried trials
    by_due true true codes one = subst AreOnlyTried (sym one.one) (record {
      none_real = ap (λ b. cond (not b) (one.trial ∷ []) []) one.tried;
      untried = All-cons IsUntried one.trial [] (λ shows. let e = one.same in absurd (cc)) (All-nil IsUntried);
    })
    by_due true false codes none = subst AreOnlyTried (sym none) (record { none_real = refl; untried = All-nil IsUntried })
    by_due false due codes none = subst AreOnlyTried (sym none) (record { none_real = refl; untried = All-nil IsUntried })

received-log : {T O : Type 0} (moment : Moment T O) (log : List LogEntry) (reply : Reply T O) →
    ((after_receive moment log reply).commands ≡ moment.commands + length (real_entries log)) × ((after_receive moment log reply).log ≡ moment.log ++ log)
received-log moment log (Sent number) = (refl, refl)
received-log moment log Flushed = (refl, refl)
received-log moment log (GivesPacket packet) = (refl, refl)
received-log moment log (Status status) = (refl, refl)

record IsCoded {T O D S C : Type 0} (before after : Session T O D S C) : Type 0 where
  pub stands : IsFirst after
  pub one_more : after.moment.commands ≡ before.moment.commands + 1
  pub waits : is_some after.passes.emitted.waiting ≡ true
  pub summed : after.passes.emitted.is_summed_up ≡ before.passes.emitted.is_summed_up

module _ {T O D S C : Type 0} (ears : Ears T D S C) (before after : Session T O D S C) where
  receive-coded : (packet : Option (Packet T O)) → IsFirst before → held_back before.enc before.moment ≡ None → Does ears (Receives packet) before after → IsCoded before after
  receive-coded packet stands known is =
      let enc = before.enc in
      let log = before.moment.log in
      let one : IsAnswered GivesReceived Receive before after (hears ears before) (hears ears after) (received packet) =
      receive-answered before after (hears ears before) (hears ears after) packet is in
      let codes : CodesNext enc before.moment one.turn =
      subst (λ (o : Option EncoderStatus). MatchOption o (CodesNext enc before.moment one.turn) (λ status. OnlyReplies one.turn (Status status))) known one.step.answered in
      let trials = codes.trials in
      let entry = codes.entry in
      let tried : AreOnlyTried trials = only-tried enc before.moment entry.command trials codes.tried in
      let real_one : real_entries (entry ∷ []) ≡ entry ∷ [] = ap (λ b. cond (not b) (entry ∷ []) []) codes.real in
      let reals : real_entries one.turn.log ≡ entry ∷ [] =
      ap real_entries codes.log ∙ (filter-append (λ (e : LogEntry). not e.trial) trials (entry ∷ []) ∙ (ap (λ (l : List LogEntry). l ++ real_entries (entry ∷ [])) tried.none_real ∙ real_one)) in
      let logs = received-log before.moment one.turn.log one.turn.reply in
      let count : length (real_entries one.turn.log) ≡ 1 = ap (λ (l : List LogEntry). length l) reals in
      let commands_are : after.moment.commands ≡ before.moment.commands + length (real_entries one.turn.log) = ap (λ (m : Moment T O). m.commands) one.step.moment ∙ logs.0 in
      let log_is : after.moment.log ≡ log ++ one.turn.log = ap (λ (m : Moment T O). m.log) one.step.moment ∙ logs.1 in
      let passes : after.passes ≡ passes_behind enc before.passes log (trials ++ entry ∷ []) =
      one.passes ∙ ap (λ (l : List LogEntry). passes_behind enc before.passes log l) codes.log in
      let last : after.passes ≡ passes_after enc (passes_behind enc before.passes log trials) (log ++ trials) entry =
      passes ∙ sym (behind-push enc before.passes log trials entry) in
      let stays = entries-first enc before.passes log (trials ++ entry ∷ []) in
      let before_last = entries-first enc before.passes log trials in
      record {
        stands = record {
          first = ap (λ (p : Passes). p.first) passes ∙ (stays.first ∙ stands.first);
          controlled = ap (λ (e : EncoderConfig). int_lt (pos 0) e.bitrate) one.settings ∙ stands.controlled;
          unfailed = one.unfailed;
          real =
              let split : length (real_entries (log ++ one.turn.log)) ≡ length (real_entries log) + length (real_entries one.turn.log) =
              ap (λ (l : List LogEntry). length l) (filter-append (λ (e : LogEntry). not e.trial) log one.turn.log) ∙ length-append (real_entries log) (real_entries one.turn.log) in
              let same : length (real_entries after.moment.log) ≡ length (real_entries (log ++ one.turn.log)) = ap (λ (l : List LogEntry). length (real_entries l)) log_is in
              let old = stands.real in
              omega arith;
          untried = subst (λ (l : List LogEntry). All IsUntried l) (sym log_is)
              (All-append IsUntried log one.turn.log stands.untried
              (subst (λ (l : List LogEntry). All IsUntried l) (sym codes.log)
              (All-append IsUntried trials (entry ∷ []) tried.untried (All-cons IsUntried entry [] (λ shows. codes.real) (All-nil IsUntried)))));
        };
        one_more = omega arith;
        waits = ap (λ (p : Passes). is_some p.emitted.waiting) last
            ∙ entry-waits enc (passes_behind enc before.passes log trials) (log ++ trials) entry stands.controlled (before_last.first ∙ stands.first);
        summed = ap (λ (p : Passes). p.emitted.is_summed_up) passes ∙ stays.summed;
      }

-- ---- pass data that is handed on

frame-message : (waiting : Option RCFrameMetrics) (message : Option RcData) → is_some waiting ≡ true → MatchOption waiting (message ≡ None) (IsFrameData message) →
    (bytes : ArrayVec ℕ) × (message ≡ Some (OfFrame bytes))
frame-message None message waits data_is = absurd (cc)
frame-message (Some metrics) None waits data_is = absurd data_is
frame-message (Some metrics) (Some (OfFrame bytes)) waits data_is = (bytes, refl)
frame-message (Some metrics) (Some (OfSummary bytes)) waits data_is = absurd data_is

summary-message : (rate : Rate) (message : Option RcData) → IsSummaryData message rate → (bytes : ArrayVec ℕ) × (message ≡ Some (OfSummary bytes))
summary-message rate None data_is = absurd data_is
summary-message rate (Some (OfFrame bytes)) data_is = absurd data_is
summary-message rate (Some (OfSummary bytes)) data_is = (bytes, refl)

both-true : (a b : Bool) → a ≡ true → b ≡ true → (a && b) ≡ true
both-true true b p q = q
both-true false b p q = absurd (cc)

is-true : (b : Bool) → IsTrue b → b ≡ true
is-true true is = refl
is-true false is = absurd (cc)

sums-up : (controlled waits done summed : Bool) → controlled ≡ true → waits ≡ false → done ≡ true → summed ≡ false → (controlled && (not waits && (done && not summed))) ≡ true
sums-up true false true false p q r s = refl
sums-up true false true true p q r s = absurd (cc)
sums-up true false false summed p q r s = absurd (cc)
sums-up true true done summed p q r s = absurd (cc)
sums-up false waits done summed p q r s = absurd (cc)

record WasEmitted (before after : Emitted) : Type 0 where
  pub waits : after.waiting ≡ None
  pub summed : after.is_summed_up ≡ before.is_summed_up

frame-emitted : (e : Emitted) → WasEmitted e (with_frame_emitted e)
unfolding with_frame_emitted
frame-emitted e = by_waiting e.waiting refl
  where
    by_waiting : (w : Option RCFrameMetrics) → e.waiting ≡ w → WasEmitted e (emitted_by w e)
    by_waiting None is = record { waits = is; summed = refl }
    by_waiting (Some m) is = record { waits = refl; summed = refl }

out-first : (done : Bool) (rate : Rate) → (given_out done rate).first ≡ rate.first
out-first done rate = by_tests (gives_frame rate) (gives_summary done rate)
  where
    by_tests : (frame summary : Bool) → (cond frame (after_frame_emitted rate) (cond summary (after_summary rate) rate)).first ≡ rate.first
    by_tests true summary = refl
    by_tests false true = refl
    by_tests false false = refl

module _ {T O D S C : Type 0} (before after : Session T O D S C) (message : Option RcData) (stands : IsFirst before) (call : IsTakeCall before after message) where
  abbrev rate : Rate
  rate = rate_in before

  abbrev done : Bool
  done = is_done before.moment

  taken : IsPassData done rate message × (after ≡ with_rate (given_out done rate) before)
  taken = subst (λ (f : Option SessionFault). MatchOption f (IsPassData done rate message × (after ≡ with_rate (given_out done rate) before)) (λ fault. (message ≡ None) × (after ≡ before)))
      stands.unfailed call

  controlled : is_controlled rate ≡ true
  controlled = ap (λ z. int_lt (pos 0) z)
      (kept_bitrate (started before.enc before.passes) (map measured before.moment.log) ∙ started_bitrate before.enc before.passes) ∙ stands.controlled

  pub take-first : IsFirst after
  take-first = subst (λ (s : Session T O D S C). IsFirst s) (sym taken.1) (record {
    first = out-first done rate ∙ stands.first;
    controlled = stands.controlled;
    unfailed = stands.unfailed;
    real = stands.real;
    untried = stands.untried;
  })

  pub take-commands : after.moment.commands ≡ before.moment.commands
  take-commands = ap (λ (s : Session T O D S C). s.moment.commands) taken.1

  few : before.moment.commands < last_command → can_emit rate ≡ true
  few below = let h = counts-few before stands.real stands.untried in emits (commands rate) before.moment.commands h below
    where
      emits : (n : ℤ) (m : ℕ) → n ≤ℤ pos m → m < 2147483647 → int_lt n (pos 2147483647) ≡ true
      emits n m h b = grind (arith, ints)

  -- the last command's data is handed on
  pub take-odd : (messages : List RcData) → before.moment.commands < last_command → IsOdd messages before → IsEven (messages ++ option_to_list message) after
  take-odd messages below odd =
      let gives : gives_frame rate ≡ true = both-true (is_controlled rate) (is_some rate.emitted.waiting) controlled odd.waits in
      let emits : can_emit rate ≡ true = few below in
      let data_is : MatchOption (frame_emitted rate) (message ≡ None) (IsFrameData message) =
      subst (λ b. MatchBool b (MatchOption (frame_emitted rate) (message ≡ None) (IsFrameData message)) (MatchBool (gives_summary done rate) (IsSummaryData message rate) (message ≡ None))) gives taken.0 in
      let waiting_is : MatchOption rate.emitted.waiting (message ≡ None) (IsFrameData message) =
      subst (λ b. MatchOption (cond b rate.emitted.waiting None) (message ≡ None) (IsFrameData message)) emits data_is in
      let one = frame-message rate.emitted.waiting message odd.waits waiting_is in
      let emitted_is : after.passes.emitted ≡ with_frame_emitted rate.emitted =
      ap (λ (s : Session T O D S C). s.passes.emitted) taken.1
      ∙ (ap (λ b. (cond b (after_frame_emitted rate) (cond (gives_summary done rate) (after_summary rate) rate)).emitted) gives
      ∙ ap (λ b. cond b (with_frame_emitted rate.emitted) rate.emitted) emits) in
      let was = frame-emitted rate.emitted in
      let longer : length (messages ++ OfFrame one.0 ∷ []) ≡ length messages + 1 = length-append messages (OfFrame one.0 ∷ []) in
      let count : length (messages ++ option_to_list message) ≡ length messages + 1 = ap (λ (o : Option RcData). length (messages ++ option_to_list o)) one.1 ∙ longer in
      let old = odd.one_more in
      let same = take-commands in
      record {
        of_frames = subst (λ (o : Option RcData). All IsOfFrame (messages ++ option_to_list o)) (sym one.1)
            (All-append IsOfFrame messages (OfFrame one.0 ∷ []) odd.of_frames (All-cons IsOfFrame (OfFrame one.0) [] tt (All-nil IsOfFrame)));
        one_each = omega arith;
        waits = ap (λ (e : Emitted). e.waiting) emitted_is ∙ was.waits;
        open_yet = ap (λ (e : Emitted). e.is_summed_up) emitted_is ∙ (was.summed ∙ odd.open_yet);
      }

  -- at the end the summary is
  pub take-last : (messages : List RcData) → IsEven messages before → IsTrue (is_done before.moment) → AreHandedOn after.moment.commands (messages ++ option_to_list message)
  take-last messages even ended =
      let off : gives_frame rate ≡ false = ap (λ b. b && is_some rate.emitted.waiting) controlled ∙ ap (λ (o : Option RCFrameMetrics). is_some o) even.waits in
      let on : gives_summary done rate ≡ true =
      sums-up (is_controlled rate) (is_some rate.emitted.waiting) done rate.emitted.is_summed_up controlled (ap (λ (o : Option RCFrameMetrics). is_some o) even.waits) (is-true done ended) even.open_yet in
      let data_is : MatchBool (gives_summary done rate) (IsSummaryData message rate) (message ≡ None) =
      subst (λ b. MatchBool b (MatchOption (frame_emitted rate) (message ≡ None) (IsFrameData message)) (MatchBool (gives_summary done rate) (IsSummaryData message rate) (message ≡ None))) off taken.0 in
      let summary_is : IsSummaryData message rate = subst (λ b. MatchBool b (IsSummaryData message rate) (message ≡ None)) on data_is in
      let one = summary-message rate message summary_is in
      record {
        metrics = messages;
        summary = one.0;
        are = ap (λ (o : Option RcData). messages ++ option_to_list o) one.1;
        of_frames = even.of_frames;
        one_each = even.one_each ∙ sym take-commands;
      }

-- ---- along acts

module _ {T O D S C : Type 0} (ears : Ears T D S C) where
  -- what stands behind an act
  record IsBehind (act : Act T O) (hand : Hand T O) (messages : List RcData) (before after : Session T O D S C) : Type 0 where
    pub stands : IsFirst after
    pub few : before.moment.commands ≤ after.moment.commands
    pub handing : before.moment.commands < last_command → IsHanding hand messages before → IsHanding (hand_after true act hand) (messages ++ data_handed act) after

  coded-odd : (messages : List RcData) (before after : Session T O D S C) → IsCoded before after → IsEven messages before → IsOdd messages after
  coded-odd messages before after codes even = record {
    of_frames = even.of_frames;
    one_more = let more = codes.one_more in let each = even.one_each in omega arith;
    waits = codes.waits;
    open_yet = codes.summed ∙ even.open_yet;
  }

  -- behind a command its data is handed on
  record IsPlain (hand : Hand T O) : Type 0 where
    pub odd : (messages : List RcData) (session : Session T O D S C) → IsHanding (Owes hand) messages session → IsOdd messages session
    pub even : (messages : List RcData) (session : Session T O D S C) → IsEven messages session → IsHanding hand messages session

  hands-odd : (message : Option RcData) (hand : Hand T O) → IsPlain hand → (messages : List RcData) (before after : Session T O D S C) → IsTakeCall before after message → IsFirst before →
      IsBehind (HandsOn message) (Owes hand) messages before after
  hands-odd message hand plain messages before after does stands =
      let same = take-commands before after message stands does in
      record {
        stands = take-first before after message stands does;
        few = omega arith;
        handing = λ below odd. plain.even (messages ++ option_to_list message) after (take-odd before after message stands does messages below (plain.odd messages before odd));
      }

  act-handed : (act : Act T O) (hand : Hand T O) (messages : List RcData) (before after : Session T O D S C) → IsDueWith act hand before → Does ears act before after → IsFirst before →
      IsBehind act hand messages before after
  act-handed (TakesFrame message) Empty messages before after due does stands =
      let quiet = same-quiet before after does stands.unfailed in
      let same = quiet.commands in
      record {
        stands = quiet-first before after quiet stands;
        few = omega arith;
        handing = λ below even. subst (λ (l : List RcData). IsEven l after) (sym (append-nil messages)) (quiet-even before after messages quiet even);
      }
  act-handed Flushes Empty messages before after due does stands =
      let quiet = flush-quiet ears before after does in
      let same = quiet.commands in
      record {
        stands = quiet-first before after quiet stands;
        few = omega arith;
        handing = λ below even. subst (λ (l : List RcData). IsEven l after) (sym (append-nil messages)) (quiet-even before after messages quiet even);
      }
  act-handed (SendsFrame message) (Holds held) messages before after due does stands =
      let quiet = send-quiet ears before after message does in
      let same = quiet.commands in
      record {
        stands = quiet-first before after quiet stands;
        few = omega arith;
        handing = λ below even. subst (λ (l : List RcData). IsEven l after) (sym (append-nil messages)) (quiet-even before after messages quiet even);
      }
  act-handed (Gives metrics) (Holds held) messages before after due does stands =
      let quiet = give-quiet ears before after metrics stands.unfailed does in
      let same = quiet.commands in
      record {
        stands = quiet-first before after quiet stands;
        few = omega arith;
        handing = λ below even. subst (λ (l : List RcData). IsEven l after) (sym (append-nil messages)) (quiet-even before after messages quiet even);
      }
  act-handed (Gives metrics) Over messages before after due does stands =
      let quiet = give-quiet ears before after metrics stands.unfailed does in
      let same = quiet.commands in
      record {
        stands = quiet-first before after quiet stands;
        few = omega arith;
        handing = λ below even. subst (λ (l : List RcData). IsEven l after) (sym (append-nil messages)) (quiet-even before after messages quiet even);
      }
  act-handed (Gives metrics) Empty messages before after due does stands = absurd due.coding
  act-handed (Gives metrics) Done messages before after due does stands = absurd due.coding
  act-handed (Gives metrics) (Owes hand) messages before after due does stands = absurd due.coding
  act-handed (Receives packet) (Holds held) messages before after due does stands =
      let codes = receive-coded ears before after packet stands due.known does in
      let more = codes.one_more in
      record {
        stands = codes.stands;
        few = omega arith;
        handing = λ below even. subst (λ (l : List RcData). IsOdd l after) (sym (append-nil messages)) (coded-odd messages before after codes even);
      }
  act-handed (Receives packet) Over messages before after due does stands =
      let codes = receive-coded ears before after packet stands due.known does in
      let more = codes.one_more in
      record {
        stands = codes.stands;
        few = omega arith;
        handing = λ below even. subst (λ (l : List RcData). IsOdd l after) (sym (append-nil messages)) (coded-odd messages before after codes even);
      }
  act-handed (Receives packet) Empty messages before after due does stands = absurd due.coding
  act-handed (Receives packet) Done messages before after due does stands = absurd due.coding
  act-handed (Receives packet) (Owes hand) messages before after due does stands = absurd due.coding
  act-handed (HandsOn message) (Owes Empty) messages before after due does stands = hands-odd message Empty (record { odd = λ l s is. is; even = λ l s is. is }) messages before after does stands
  act-handed (HandsOn message) (Owes (Holds held)) messages before after due does stands = hands-odd message (Holds held) (record { odd = λ l s is. is; even = λ l s is. is }) messages before after does stands
  act-handed (HandsOn message) (Owes Over) messages before after due does stands = hands-odd message Over (record { odd = λ l s is. is; even = λ l s is. is }) messages before after does stands
  act-handed (HandsOn message) (Owes Done) messages before after due does stands =
      let same = take-commands before after message stands does in
      record {
        stands = take-first before after message stands does;
        few = omega arith;
        handing = λ below even. take-last before after message stands does messages even.0 even.1;
      }
  act-handed (HandsOn message) (Owes (Owes hand)) messages before after due does stands =
      let same = take-commands before after message stands does in
      record { stands = take-first before after message stands does; few = omega arith; handing = λ below never. absurd never }
  act-handed Stops Over messages before after due does stands =
      let quiet = same-quiet before after does stands.unfailed in
      let same = quiet.commands in
      record {
        stands = quiet-first before after quiet stands;
        few = omega arith;
        handing = λ below even. (
          subst (λ (l : List RcData). IsEven l after) (sym (append-nil messages)) (quiet-even before after messages quiet even),
          subst (λ (s : Session T O D S C). IsTrue (is_done s.moment)) (sym does) due,
        );
      }
  act-handed act hand messages before after due does stands = absurd due

  pub acts-handed : (acts : List (Act T O)) (a b : Point T O D S C) (messages : List RcData) → AreActs ears true acts a b → IsFirst a.session →
      (a.session.moment.commands < last_command → IsHanding a.hand messages a.session) →
      (a.session.moment.commands ≤ b.session.moment.commands) × (b.session.moment.commands < last_command → IsHanding b.hand (messages ++ data_in acts) b.session)
  acts-handed [] a b messages is stands handing =
      subst (λ (p : Point T O D S C). (a.session.moment.commands ≤ p.session.moment.commands) × (p.session.moment.commands < last_command → IsHanding p.hand (messages ++ []) p.session)) (sym is)
      (omega arith, λ below. subst (λ (l : List RcData). IsHanding a.hand l a.session) (sym (append-nil messages)) (handing below))
  acts-handed (act ∷ acts) a b messages (next, one, more) stands handing =
      let first = act-handed act a.hand messages a.session next.session one.due one.does stands in
      let step = first.few in
      let rest = acts-handed acts next b (messages ++ data_handed act) more first.stands
      (λ below. subst (λ (h : Hand T O). IsHanding h (messages ++ data_handed act) next.session) (sym one.held)
      (let low : a.session.moment.commands < last_command = omega arith in first.handing low (handing low))) in
      let grown = rest.0 in
      (omega arith, λ below. subst (λ (l : List RcData). IsHanding b.hand l b.session) (append_assoc messages (data_handed act) (data_in acts)) (rest.1 below))

  -- the whole course
  pub course-handed : (acts : List (Act T O)) (before after : Session T O D S C) → IsWell true (pos 0) before → before.moment.commands ≡ 0 → before.passes.emitted ≡ nothing_emitted →
      AreActs ears true acts (record { hand = Empty; session = before }) (record { hand = Done; session = after }) → after.moment.commands < last_command →
      AreHandedOn after.moment.commands (data_in acts)
  course-handed acts before after well none emitted run below =
      (acts-handed acts (record { hand = Empty; session = before }) (record { hand = Done; session = after }) [] run
      (record { first = well.passes.first; controlled = is-true (int_lt (pos 0) before.enc.bitrate) (well.passes.controlled refl); unfailed = well.unfailed; real = well.real; untried = well.untried })
      (λ low. record {
        of_frames = All-nil IsOfFrame;
        one_each = sym none;
        waits = ap (λ (e : Emitted). e.waiting) emitted;
        open_yet = ap (λ (e : Emitted). e.is_summed_up) emitted;
      })).1 below

-- the same where it is asked for
pub course-handed-on : {T O D S C : Type 0} (ears : Ears T D S C) (handing : Bool) (acts : List (Act T O)) (before after : Session T O D S C) → IsWell handing (pos 0) before →
    before.moment.commands ≡ 0 → before.passes.emitted ≡ nothing_emitted →
    AreActs ears handing acts (record { hand = Empty; session = before }) (record { hand = Done; session = after }) → handing ≡ true → after.moment.commands < last_command →
    AreHandedOn after.moment.commands (data_in acts)
course-handed-on ears true acts before after well none emitted run on below = course-handed ears acts before after well none emitted run below
course-handed-on ears false acts before after well none emitted run on below = absurd (cc)
