-- What each act of a worker leaves of its session, and what holds along its acts.
use Rattle.std.proofs.Common.{◌≡◌, ◌⊎◌, inl, inr, ℕ, ◌+◌, ◌≤◌, Bool, true, false, cond, MatchBool, MatchOption, List, [], ◌∷◌, ◌++◌, length, option_to_list, Option, Some, None, Ok, Err, pos, int_lt, refl, sym, ap, ◌∙◌, subst, arith}
use Rattle.av1_frame.specs.declared.frame.Frame.{Frame}
use Rattle.av1_frame.specs.Planes.{fits}
use Rattle.av1_settings.specs.declared.encoder.EncoderConfig.{EncoderConfig}
use Rattle.av1_settings.specs.declared.status.EncoderStatus.{EncoderStatus}
use Rattle.av1_settings.specs.declared.status.EncoderStatus.TheVariants.{EnoughData, Failure, FrameSizeMismatch, NotReady, OutOfMemory as NoMemory}
use Rattle.pass_data.specs.declared.error.PassDataError.{PassDataError}
use Rattle.pass_data.specs.Given.{Given}
use Rattle.ratecontrol.specs.Passes.{after_frame_emitted, after_summary, given_out, gives_frame, gives_summary}
use Rattle.ratecontrol.specs.Rate.{Rate}
use Rattle.session_log.specs.declared.entry.LogEntry.{LogEntry}
use Rattle.session_log.specs.Passes.{Passes, packet_sent, passes_after}
use Rattle.session_core.specs.declared.call.Call.{Call}
use Rattle.session_core.specs.declared.call.Call.TheVariants.{Send, Flush, Receive}
use Rattle.session_core.specs.declared.call.FrameParameters.{FrameParameters}
use Rattle.session_core.specs.declared.fault.SessionFault.{SessionFault}
use Rattle.session_core.specs.declared.fault.SessionFault.TheVariants.{Coder, OutOfMemory, PassData}
use Rattle.session_core.specs.declared.packet.Packet.{Packet}
use Rattle.session_core.specs.declared.transcript.Decision.{Decision}
use Rattle.session_core.specs.declared.transcript.Reply.{Reply}
use Rattle.session_core.specs.declared.transcript.Reply.TheVariants.{Sent, Flushed, Packet as GivesPacket, Status}
use Rattle.session_core.specs.Contexts.{Asks, GivesDone, GivesReceived, IsAnswered, IsCall, IsFailed, IsSend, RunsOut, Session, Waits, at_of, status_of}
use Rattle.session_core.specs.Moments.{Accepted, Moment}
use Rattle.session_core.specs.PassCalls.{IsGiven, rate_in, with_rate}
use Rattle.session_core.specs.PassTurns.{IsPassData, awaits_data, is_done}
use Rattle.session_core.specs.Quantisers.{passes_behind}
use Rattle.session_core.specs.Told.{Heard}
use Rattle.session_core.specs.Turns.{accepted_of, after_receive, after_send, has_enough, sent_reply}
use Rattle.session_channels.specs.Acts.{Act, AreActs, Does, Ears, Point, TakesFrame, SendsFrame, Gives, Receives, HandsOn, Flushes, Stops, all_well, hears, packet_given, received}

-- ---- answers

pub not-refused : (status : EncoderStatus) → all_well ≡ Err status → ⊥
not-refused status is = cc

-- a receive that codes isn't refused
pub not-waiting : {T O : Type 0} (packet : Option (Packet T O)) → received packet ≡ Err NotReady → ⊥
not-waiting (Some packet) is = cc
not-waiting None is = cc

pub not-failing : {T O : Type 0} (packet : Option (Packet T O)) → received packet ≡ Err Failure → ⊥
not-failing (Some packet) is = cc
not-failing None is = cc

pub not-failed : {T O : Type 0} (packet : Option (Packet T O)) (fault : SessionFault) → received packet ≡ Err (status_of fault) → ⊥
not-failed (Some packet) (Coder number) is = cc
not-failed (Some packet) OutOfMemory is = cc
not-failed (Some packet) (PassData refusal) is = cc
not-failed None (Coder number) is = cc
not-failed None OutOfMemory is = cc
not-failed None (PassData refusal) is = cc

-- ---- the calls of acts

module _ {T O D S C : Type 0} (before after : Session T O D S C) (told now : Heard T) where
  -- a receive that codes was answered by a turn
  pub receive-answered : (packet : Option (Packet T O)) → IsCall GivesReceived Receive before after told now (received packet) →
      IsAnswered GivesReceived Receive before after told now (received packet)
  receive-answered packet call = by_cases before.failure (awaits_data before.enc (at_of before) Receive) call
    where
      by_cases : (failure : Option SessionFault) (waits : Bool) →
          MatchOption failure
          (MatchBool waits (Waits GivesReceived before after (received packet))
          (IsAnswered GivesReceived Receive before after told now (received packet) ⊎ IsFailed Receive before after told now (received packet)))
          (λ fault. (received packet ≡ Err Failure) × (after ≡ before)) →
          IsAnswered GivesReceived Receive before after told now (received packet)
      by_cases None true is = absurd (not-waiting packet is.0)
      by_cases None false (inl answered) = answered
      by_cases None false (inr failed) = absurd (not-failed packet failed.fault failed.status)
      by_cases (Some fault) waits is = absurd (not-failing packet is.0)

  pub flush-answered : IsCall GivesDone Flush before after told now all_well → IsAnswered GivesDone Flush before after told now all_well
  flush-answered call = by_cases before.failure call
    where
      by_cases : (failure : Option SessionFault) →
          MatchOption failure (IsAnswered GivesDone Flush before after told now all_well ⊎ IsFailed Flush before after told now all_well)
          (λ fault. (all_well ≡ Err Failure) × (after ≡ before)) →
          IsAnswered GivesDone Flush before after told now all_well
      by_cases None (inl answered) = answered
      by_cases None (inr failed) = absurd (not-refused (status_of failed.fault) failed.status)
      by_cases (Some fault) is = absurd (not-refused Failure is.0)

  pub send-answered : (picture : Option (Frame T)) (parameters : Option (FrameParameters O)) → IsSend picture parameters before after told now all_well →
      (call : Call T O) × Asks picture parameters call × IsAnswered GivesDone call before after told now all_well
  send-answered picture parameters send = by_cases before.failure send
    where
      by_cases : (failure : Option SessionFault) →
          MatchOption failure
          (((call : Call T O) × Asks picture parameters call × IsAnswered GivesDone call before after told now all_well) ⊎ RunsOut before after told now all_well)
          (λ fault. (all_well ≡ Err Failure) × (after ≡ before)) →
          (call : Call T O) × Asks picture parameters call × IsAnswered GivesDone call before after told now all_well
      by_cases None (inl answered) = answered
      by_cases None (inr out) = absurd (not-refused NoMemory out.status)
      by_cases (Some fault) is = absurd (not-refused Failure is.0)

module _ {T O D S C : Type 0} (before after : Session T O D S C) where
  abbrev given_is : Given → Session T O D S C
  given_is given = record before { passes = record before.passes { given = given } }

  -- metrics that are accepted change only what the second pass was given
  pub given-answered : (message : List ℕ) → IsGiven message before after all_well →
      after ≡ given_is (packet_sent before.enc before.passes before.moment.log message).given
  given-answered message is =
      by_cases before.failure (packet_sent before.enc before.passes before.moment.log message).refused (packet_sent before.enc before.passes before.moment.log message).given is
    where
      by_cases : (failure : Option SessionFault) (refused : Option PassDataError) (given : Given) →
          MatchOption failure
          (elim refused [
            | None ↦ (all_well ≡ Ok tt) × (after ≡ given_is given)
            | Some refusal ↦ (all_well ≡ Err Failure) × (after ≡ record (given_is given) { failure = Some (PassData refusal) })
          ])
          (λ fault. (all_well ≡ Err Failure) × (after ≡ before)) → after ≡ given_is given
      by_cases None None given is = is.1
      by_cases None (Some refusal) given is = absurd (not-refused Failure is.0)
      by_cases (Some fault) refused given is = absurd (not-refused Failure is.0)

-- ---- what an act leaves

abbrev pub sends : {T O : Type 0} → Act T O → ℕ
sends (TakesFrame message) = 0
sends (SendsFrame message) = 1
sends (Gives metrics) = 0
sends (Receives packet) = 0
sends (HandsOn message) = 0
sends Flushes = 0
sends Stops = 0

-- it is flushed where it was, or where the act flushes it
abbrev pub StaysFlushed : {T O : Type 0} → Act T O → Bool → Bool → Type 0
StaysFlushed Flushes was is = is ≡ true
StaysFlushed act was is = was ≡ true → is ≡ true

pub record Moved {T O D S C : Type 0} (ears : Ears T D S C) (act : Act T O) (before after : Session T O D S C) : Type 0 where
  pub accepted : after.moment.accepted ≡ before.moment.accepted + sends act
  pub packets : after.moment.packets ≡ before.moment.packets + length (packet_given act)
  pub flushed : StaysFlushed act before.moment.flushed after.moment.flushed
  pub second : after.passes.second ≡ before.passes.second
  pub faults : (ears.coder before.coder).faults ≤ (ears.coder after.coder).faults

after-second : (enc : EncoderConfig) (passes : Passes) (log : List LogEntry) (entry : LogEntry) → (passes_after enc passes log entry).second ≡ passes.second
after-second enc passes log entry = by_bitrate (int_lt (pos 0) enc.bitrate) _ _
  where
    by_bitrate : (b : Bool) (given : Given) (emitted : Rattle.pass_data.specs.Emitted.Emitted) →
        (cond b (record passes { given = given; emitted = emitted }) passes).second ≡ passes.second
    by_bitrate true given emitted = refl
    by_bitrate false given emitted = refl

pub behind-second : (enc : EncoderConfig) (passes : Passes) (log entries : List LogEntry) → (passes_behind enc passes log entries).second ≡ passes.second
behind-second enc passes log [] = refl
behind-second enc passes log (entry ∷ entries) =
    behind-second enc (passes_after enc passes log entry) (log ++ entry ∷ []) entries ∙ after-second enc passes log entry

out-second : (done : Bool) (rate : Rate) → (given_out done rate).second ≡ rate.second
out-second done rate = by_tests (gives_frame rate) (gives_summary done rate)
  where
    by_tests : (frame summary : Bool) → (cond frame (after_frame_emitted rate) (cond summary (after_summary rate) rate)).second ≡ rate.second
    by_tests true summary = refl
    by_tests false true = refl
    by_tests false false = refl

-- a receive gives the packet of its reply
received-packets : {T O : Type 0} (moment : Moment T O) (log : List LogEntry) (packet : Option (Packet T O)) (reply : Reply T O) →
    GivesReceived reply (received packet) → (after_receive moment log reply).packets ≡ moment.packets + length (option_to_list packet)
received-packets moment log (Some packet) (GivesPacket given) is = refl
received-packets moment log None (GivesPacket given) is = absurd (cc)
received-packets moment log (Some packet) (Status status) is = absurd (cc)
received-packets moment log None (Status status) is = omega arith
received-packets moment log packet (Sent number) is = absurd is
received-packets moment log packet Flushed is = absurd is

received-others : {T O : Type 0} (moment : Moment T O) (log : List LogEntry) (reply : Reply T O) →
    ((after_receive moment log reply).accepted ≡ moment.accepted) × ((after_receive moment log reply).flushed ≡ moment.flushed)
received-others moment log (GivesPacket given) = (refl, refl)
received-others moment log (Status status) = (refl, refl)
received-others moment log (Sent number) = (refl, refl)
received-others moment log Flushed = (refl, refl)

-- a frame that isn't refused is accepted
record AcceptsOne {T O : Type 0} (before after : Moment T O) : Type 0 where
  pub accepted : after.accepted ≡ before.accepted + 1
  pub packets : after.packets ≡ before.packets
  pub flushed : after.flushed ≡ before.flushed

sent-one : {T O : Type 0} (enc : EncoderConfig) (decisions : List Decision) (moment : Moment T O) (picture : Frame T) (frame : Accepted T O) (reply : Reply T O) →
    reply ≡ sent_reply enc moment picture → GivesDone reply all_well → AcceptsOne moment (after_send enc decisions moment frame reply)
sent-one {T} {O} enc decisions moment picture frame reply is gives =
    subst (λ (r : Reply T O). AcceptsOne moment (after_send enc decisions moment frame r)) (sym is)
    (by_test (has_enough enc moment) (fits picture enc.width enc.height enc.chroma_sampling) (subst (λ (r : Reply T O). GivesDone r all_well) is gives))
  where
    by_test : (enough fit : Bool) → GivesDone {T = T} {O = O} (cond enough (Status EnoughData) (cond fit (Sent moment.accepted) (Status FrameSizeMismatch))) all_well →
        AcceptsOne moment (after_send enc decisions moment frame (cond enough (Status EnoughData) (cond fit (Sent moment.accepted) (Status FrameSizeMismatch))))
    by_test true fit gives = absurd (not-refused EnoughData gives)
    by_test false true gives = record { accepted = refl; packets = refl; flushed = refl }
    by_test false false gives = absurd (not-refused FrameSizeMismatch gives)

module _ {T O D S C : Type 0} (ears : Ears T D S C) where
  -- nothing changed
  same-moved : (act : Act T O) (before after : Session T O D S C) → after ≡ before → sends act ≡ 0 → length (packet_given act) ≡ 0 →
      StaysFlushed act before.moment.flushed before.moment.flushed → Moved ears act before after
  same-moved act before after is none quiet stays = subst (λ (s : Session T O D S C). Moved ears act before s) (sym is) (record {
    accepted = omega arith;
    packets = omega arith;
    flushed = stays;
    second = refl;
    faults = omega arith;
  })

  pub moved : (act : Act T O) (before after : Session T O D S C) → Does ears act before after → Moved ears act before after
  moved (TakesFrame message) before after is = same-moved (TakesFrame message) before after is refl refl (λ was. was)
  moved (SendsFrame message) before after is = by_call answered.0 answered.1 answered.2
    where
      answered : (call : Call T O) × Asks (Some (message.0).value) message.1 call × IsAnswered GivesDone call before after (hears ears before) (hears ears after) all_well
      answered = send-answered before after (hears ears before) (hears ears after) (Some (message.0).value) message.1 is

      by_call : (call : Call T O) → Asks (Some (message.0).value) message.1 call → IsAnswered GivesDone call before after (hears ears before) (hears ears after) all_well →
          Moved ears (SendsFrame message) before after
      by_call Flush asks one = absurd asks
      by_call Receive asks one = absurd asks
      by_call (Send frame parameters) asks one =
          let sent : AcceptsOne before.moment (after_send before.enc after.moment.decisions before.moment (accepted_of frame.value parameters) one.turn.reply) =
          sent-one before.enc after.moment.decisions before.moment frame.value (accepted_of frame.value parameters) one.turn.reply one.step.answered.0.0 one.reply in
          let are : AcceptsOne before.moment after.moment = subst (λ (m : Moment T O). AcceptsOne before.moment m) (sym one.step.moment) sent in
          record {
            accepted = are.accepted;
            packets = let p = are.packets in omega arith;
            flushed = λ was. are.flushed ∙ was;
            second = ap (λ (p : Passes). p.second) one.passes ∙ behind-second before.enc before.passes before.moment.log one.turn.log;
            faults = one.later.coder.faults;
          }
  moved (Gives metrics) before after is =
      let given = (packet_sent before.enc before.passes before.moment.log metrics.items).given in
      subst (λ (s : Session T O D S C). Moved ears (Gives metrics) before s) (sym (given-answered before after metrics.items is)) (record {
        accepted = omega arith;
        packets = omega arith;
        flushed = λ was. was;
        second = refl;
        faults = omega arith;
      })
  moved (Receives packet) before after is =
      let one : IsAnswered GivesReceived Receive before after (hears ears before) (hears ears after) (received packet) =
      receive-answered before after (hears ears before) (hears ears after) packet is in
      let others = received-others before.moment one.turn.log one.turn.reply in
      let sames : (after.moment.accepted ≡ before.moment.accepted) × (after.moment.flushed ≡ before.moment.flushed) =
      subst (λ (m : Moment T O). (m.accepted ≡ before.moment.accepted) × (m.flushed ≡ before.moment.flushed)) (sym one.step.moment) others in
      record {
        accepted = let a = sames.0 in omega arith;
        packets = ap (λ (m : Moment T O). m.packets) one.step.moment ∙ received-packets before.moment one.turn.log packet one.turn.reply one.reply;
        flushed = λ was. sames.1 ∙ was;
        second = ap (λ (p : Passes). p.second) one.passes ∙ behind-second before.enc before.passes before.moment.log one.turn.log;
        faults = one.later.coder.faults;
      }
  moved (HandsOn message) before after is = by_failure before.failure is
    where
      by_failure : (failure : Option SessionFault) →
          MatchOption failure
          (IsPassData (is_done before.moment) (rate_in before) message × (after ≡ with_rate (given_out (is_done before.moment) (rate_in before)) before))
          (λ fault. (message ≡ None) × (after ≡ before)) → Moved ears (HandsOn message) before after
      by_failure None taken = subst (λ (s : Session T O D S C). Moved ears (HandsOn message) before s) (sym taken.1) (record {
        accepted = omega arith;
        packets = omega arith;
        flushed = λ was. was;
        second = out-second (is_done before.moment) (rate_in before);
        faults = omega arith;
      })
      by_failure (Some fault) same = same-moved (HandsOn message) before after same.1 refl refl (λ was. was)
  moved Flushes before after is =
      let one : IsAnswered GivesDone Flush before after (hears ears before) (hears ears after) all_well =
      flush-answered before after (hears ears before) (hears ears after) is in
      let at : after.moment ≡ Rattle.session_core.specs.Turns.after_flush before.enc after.moment.decisions before.moment = one.step.moment in
      record {
        accepted = ap (λ (m : Moment T O). m.accepted) at ∙ (omega arith);
        packets = ap (λ (m : Moment T O). m.packets) at ∙ (omega arith);
        flushed = ap (λ (m : Moment T O). m.flushed) at;
        second = ap (λ (p : Passes). p.second) one.passes ∙ behind-second before.enc before.passes before.moment.log one.turn.log;
        faults = one.later.coder.faults;
      }
  moved Stops before after is = same-moved Stops before after is refl refl (λ was. was)

-- ---- along acts

module _ {T O D S C : Type 0} (ears : Ears T D S C) (handing : Bool) where
  -- the coder's count of faults doesn't fall
  pub acts-faults : (acts : List (Act T O)) (a b : Point T O D S C) → AreActs ears handing acts a b →
      (ears.coder a.session.coder).faults ≤ (ears.coder b.session.coder).faults
  acts-faults [] a b is = subst (λ (p : Point T O D S C). (ears.coder a.session.coder).faults ≤ (ears.coder p.session.coder).faults) (sym is) (omega arith)
  acts-faults (act ∷ acts) a b (next, one, more) =
      let first = (moved ears act a.session next.session one.does).faults in
      let rest = acts-faults acts next b more in
      omega arith

  pub acts-second : (acts : List (Act T O)) (a b : Point T O D S C) → AreActs ears handing acts a b → b.session.passes.second ≡ a.session.passes.second
  acts-second [] a b is = ap (λ (p : Point T O D S C). p.session.passes.second) is
  acts-second (act ∷ acts) a b (next, one, more) = acts-second acts next b more ∙ (moved ears act a.session next.session one.does).second
