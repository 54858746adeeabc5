-- What a send of a frame leaves of a session: an accepted one, and one that is refused.
use Rattle.std.proofs.Common.{◌≡◌, ◌⊎◌, inl, inr, ℕ, ◌+◌, ◌-◌, ◌<◌, ◌≤◌, ◌==◌, Bool, true, false, cond, nat_le, ◌&&◌, ◌||◌, ◌∷◌, [], MatchOption, Option, Some, None, Result, Err, ℤ, refl, sym, ap, ◌∙◌, subst, arith}
use Rattle.std.proofs.lemmas.Bool.Decides.{nat_tests}
use Rattle.av1_frame.specs.declared.frame.Frame.{Frame}
use Rattle.av1_frame.specs.Planes.{fits}
use Rattle.av1_settings.specs.declared.encoder.EncoderConfig.{EncoderConfig}
use Rattle.av1_settings.specs.declared.status.EncoderStatus.{EncoderStatus}
use Rattle.av1_settings.specs.declared.status.EncoderStatus.TheVariants.{EnoughData, Failure, FrameSizeMismatch, OutOfMemory}
use Rattle.session_log.specs.Passes.{Passes}
use Rattle.session_core.specs.declared.call.Call.{Call}
use Rattle.session_core.specs.declared.call.Call.TheVariants.{Send, Flush, Receive}
use Rattle.session_core.specs.declared.call.FrameParameters.{FrameParameters}
use Rattle.session_core.specs.declared.fault.SessionFault.{SessionFault}
use Rattle.session_core.specs.declared.transcript.Reply.{Reply}
use Rattle.session_core.specs.declared.transcript.Reply.TheVariants.{Sent, Status}
use Rattle.session_core.specs.Contexts.{Asks, GivesDone, IsAnswered, IsSend, RunsOut, Session}
use Rattle.session_core.specs.Moments.{Accepted, Moment}
use Rattle.session_core.specs.Quantisers.{passes_behind}
use Rattle.session_core.specs.Steps.{WhereRefused}
use Rattle.session_core.specs.Told.{Heard}
use Rattle.session_core.specs.Turns.{accepted_of, after_send, frame_limit, has_enough, sent_reply}
use Rattle.session_channels.specs.declared.fault.ChannelFault.TheVariants.{FrameRefused, OutOfMemory as NoMemory}
use Rattle.session_channels.specs.Acts.{Ears, Empty, Holds, IsWanting, SendsFrame, all_well, hears}
use Rattle.session_channels.specs.Courses.{Stopped, Went, untouched}
use Rattle.session_channels.specs.Ends.{FrameMessage}
use Rattle.session_channels.specs.Wells.{IsPaid, IsWell, frames_left}
use Rattle.session_channels.proofs.LawsActs.{not-refused, send-answered}

-- ---- the reply

abbrev Replies : {T O : Type 0} → Bool → Bool → ℕ → Reply T O
Replies enough fit number = cond enough (Status EnoughData) (cond fit (Sent number) (Status FrameSizeMismatch))

-- a frame is accepted where there aren't enough yet
accepts : {T O : Type 0} (enough fit : Bool) (number : ℕ) → GivesDone {T = T} {O = O} (Replies enough fit number) all_well →
    (enough ≡ false) × (Replies {T = T} {O = O} enough fit number ≡ Sent number)
accepts true fit number gives = absurd (not-refused EnoughData gives)
accepts false true number gives = (refl, refl)
accepts false false number gives = absurd (not-refused FrameSizeMismatch gives)

abbrev refused : EncoderStatus → Result (Unit {0}) EncoderStatus
refused status = Err status

other-status : (status other : EncoderStatus) → refused status ≡ Err other → other ≡ status
other-status status other is = cc

-- else it is refused with a status, and nothing changes
refuses : {T O : Type 0} (Same : Type 0) (status : EncoderStatus) (enough fit : Bool) (number : ℕ) → GivesDone {T = T} {O = O} (Replies enough fit number) (refused status) →
    WhereRefused {T = T} {O = O} (Replies enough fit number) Same → (Replies {T = T} {O = O} enough fit number ≡ Status status) × Same
refuses Same status true fit number gives same = (ap Status (other-status status EnoughData gives), same)
refuses Same status false true number gives same = absurd (cc)
refuses Same status false false number gives same = (ap Status (other-status status FrameSizeMismatch gives), same)

below : (flushed still : Bool) (accepted limit : ℕ) → (flushed || (still && nat_le 1 accepted) || accepted == limit) ≡ false → accepted ≤ limit → accepted + 1 ≤ limit
below true still accepted limit none within = absurd (cc)
below false true accepted limit none within = by_count (nat_le 1 accepted) (accepted == limit) refl none
  where
    by_count : (a b : Bool) → (accepted == limit) ≡ b → (a || b) ≡ false → accepted + 1 ≤ limit
    by_count true b is none = absurd (cc)
    by_count false true is none = absurd (cc)
    by_count false false is none = grind (arith, nat_tests)
below false false accepted limit none within = grind (arith, nat_tests)

-- ---- an accepted frame

-- the session after it
abbrev sent_of : {T O D S C : Type 0} → Session T O D S C → Session T O D S C → Accepted T O → Session T O D S C
sent_of before after frame = record {
  enc = before.enc;
  tables = after.tables;
  moment = after_send before.enc after.moment.decisions before.moment frame (Sent before.moment.accepted);
  passes = before.passes;
  failure = None;
  detector = after.detector;
  scales = after.scales;
  coder = after.coder;
}

as-given : {T O D S C : Type 0} (after : Session T O D S C) (enc : EncoderConfig) (moment : Moment T O) (passes : Passes) (failure : Option SessionFault) →
    after.enc ≡ enc → after.moment ≡ moment → after.passes ≡ passes → after.failure ≡ failure →
    after ≡ record { enc = enc; tables = after.tables; moment = moment; passes = passes; failure = failure; detector = after.detector; scales = after.scales; coder = after.coder }
as-given after enc moment passes failure settings moves hands fails = rw (← settings, ← moves, ← hands, ← fails) refl

module _ {T O D S C : Type 0} (picture : Frame T) (parameters : Option (FrameParameters O)) (before after : Session T O D S C) (told now : Heard T) where
  record IsSent : Type 0 where
    pub frame : Accepted T O
    pub room : has_enough before.enc before.moment ≡ false
    pub after_is : after ≡ sent_of before after frame

  sent-is : IsSend (Some picture) parameters before after told now all_well → IsSent
  sent-is is = by_call answered.0 answered.1 answered.2
    where
      answered : (call : Call T O) × Asks (Some picture) parameters call × IsAnswered GivesDone call before after told now all_well
      answered = send-answered before after told now (Some picture) parameters is

      by_call : (call : Call T O) → Asks (Some picture) parameters call → IsAnswered GivesDone call before after told now all_well → IsSent
      by_call Flush asks one = absurd asks
      by_call Receive asks one = absurd asks
      by_call (Send frame given) asks one =
          let enc = before.enc in
          let replies : one.turn.reply ≡ sent_reply enc before.moment frame.value = one.step.answered.0.0 in
          let by = accepts {T = T} {O = O} (has_enough enc before.moment) (fits frame.value enc.width enc.height enc.chroma_sampling) before.moment.accepted
          (subst (λ (r : Reply T O). GivesDone r all_well) replies one.reply) in
          let moves : after.moment ≡ after_send enc after.moment.decisions before.moment (accepted_of frame.value given) (Sent before.moment.accepted) =
          one.step.moment ∙ ap (λ (r : Reply T O). after_send enc after.moment.decisions before.moment (accepted_of frame.value given) r) (replies ∙ by.1) in
          record {
            frame = accepted_of frame.value given;
            room = by.0;
            after_is = as-given after enc (after_send enc after.moment.decisions before.moment (accepted_of frame.value given) (Sent before.moment.accepted)) before.passes None
                one.settings moves
                (one.passes ∙ ap (passes_behind enc before.passes before.moment.log) one.step.answered.0.1)
                one.unfailed;
          }

  more : before.moment.accepted ≤ frame_limit → IsSend (Some picture) parameters before after told now all_well → before.moment.accepted + 1 ≤ frame_limit
  more within is = below before.moment.flushed before.enc.still_picture before.moment.accepted frame_limit (sent-is is).room within

  pub sent-well : (handing : Bool) (coded : ℤ) → IsWell handing coded before → IsSend (Some picture) parameters before after told now all_well → IsWell handing coded after
  sent-well handing coded well is =
      let one = sent-is is in
      let passes = well.passes in
      subst (λ (s : Session T O D S C). IsWell handing coded s) (sym one.after_is)
      (record {
        unfailed = refl;
        within = more well.within is;
        counted = well.counted;
        real = well.real;
        untried = well.untried;
        bytes = well.bytes;
        passes = record {
          first = passes.first;
          second = passes.second;
          controlled = passes.controlled;
          counted = passes.counted;
          delay = passes.delay;
          left = passes.left;
        };
      })

  pub sent-paid : (handing : Bool) → IsPaid handing before → IsSend (Some picture) parameters before after told now all_well → IsPaid handing after
  sent-paid handing paid is =
      subst (λ (s : Session T O D S C). IsPaid handing s) (sym (sent-is is).after_is) (record { few = paid.few; waits = paid.waits })

  pub sent-flushed : IsSend (Some picture) parameters before after told now all_well → after.moment.flushed ≡ before.moment.flushed
  sent-flushed is = ap (λ (s : Session T O D S C). s.moment.flushed) (sent-is is).after_is

  pub sent-fewer : before.moment.accepted ≤ frame_limit → IsSend (Some picture) parameters before after told now all_well → frames_left after < frames_left before
  sent-fewer within is =
      let limit = more within is in
      let grown : after.moment.accepted ≡ before.moment.accepted + 1 = ap (λ (s : Session T O D S C). s.moment.accepted) (sent-is is).after_is in
      one_less before.moment.accepted after.moment.accepted frame_limit limit grown
    where
      one_less : (a b limit : ℕ) → a + 1 ≤ limit → b ≡ a + 1 → limit - b < limit - a
      one_less a b limit h e = omega arith

  -- ---- a refused one, but for want of memory

  pub sent-refused : (status : EncoderStatus) → before.failure ≡ None → (status ≡ OutOfMemory → ⊥) → IsSend (Some picture) parameters before after told now (refused status) →
      (sent_reply before.enc before.moment picture ≡ Status status) × (after ≡ before)
  sent-refused status none other is =
      by_answer (subst (λ (failure : Option SessionFault). MatchOption failure
      (((call : Call T O) × Asks (Some picture) parameters call × IsAnswered GivesDone call before after told now (refused status)) ⊎ RunsOut before after told now (refused status))
      (λ fault. (refused status ≡ Err Failure) × (after ≡ before))) none is)
    where
      by_call : (call : Call T O) → Asks (Some picture) parameters call → IsAnswered GivesDone call before after told now (refused status) → (sent_reply before.enc before.moment picture ≡ Status status) × (after ≡ before)
      by_call Flush asks one = absurd asks
      by_call Receive asks one = absurd asks
      by_call (Send frame given) asks one =
          let enc = before.enc in
          let replies : one.turn.reply ≡ sent_reply enc before.moment frame.value = one.step.answered.0.0 in
          let by = refuses {T = T} {O = O} (after ≡ before) status (has_enough enc before.moment) (fits frame.value enc.width enc.height enc.chroma_sampling) before.moment.accepted
          (subst (λ (r : Reply T O). GivesDone r (refused status)) replies one.reply)
          (subst (λ (r : Reply T O). WhereRefused r (after ≡ before)) replies one.refused) in
          (subst (λ (p : Frame T). sent_reply enc before.moment p ≡ Status status) asks.0 by.0, by.1)

      by_answer : ((call : Call T O) × Asks (Some picture) parameters call × IsAnswered GivesDone call before after told now (refused status)) ⊎ RunsOut before after told now (refused status) → (sent_reply before.enc before.moment picture ≡ Status status) × (after ≡ before)
      by_answer (inl one) = by_call one.0 one.1 one.2
      by_answer (inr out) = absurd (other (sym (other-status status OutOfMemory out.status)))

-- ---- the stretch

module _ {T O D S C : Type 0} (ears : Ears T D S C) (handing : Bool) (message : FrameMessage T O) (before after : Session T O D S C) (wanting : IsWanting before) where
  pub send-went : IsSend (Some (message.0).value) message.1 before after (hears ears before) (hears ears after) all_well →
      Went ears handing untouched (record { hand = Holds message; session = before }) (record { hand = Empty; session = after })
  send-went is = record {
    acts = SendsFrame message ∷ [];
    run = (record { hand = Empty; session = after }, record { due = (refl, wanting); does = is; held = refl }, refl);
    frames = refl;
    packets = refl;
    metrics = refl;
    handed = refl;
  }

  -- the session has failed, and nothing is told of it
  pub send-out : Stopped ears handing untouched (record { hand = Holds message; session = before }) after NoMemory
  send-out = record {
    acts = [];
    last = record { hand = Holds message; session = before };
    run = refl;
    taken = [];
    cause = refl;
    frames = refl;
    packets = refl;
    metrics = refl;
    handed = refl;
  }

  pub send-refused : (status : EncoderStatus) → before.failure ≡ None → (status ≡ OutOfMemory → ⊥) →
      IsSend (Some (message.0).value) message.1 before after (hears ears before) (hears ears after) (refused status) →
      Stopped ears handing untouched (record { hand = Holds message; session = before }) after (FrameRefused status)
  send-refused status none other is =
      let by = sent-refused (message.0).value message.1 before after (hears ears before) (hears ears after) status none other is in
      record {
        acts = [];
        last = record { hand = Holds message; session = before };
        run = refl;
        taken = [];
        cause = (refl, record { message = message; holds = refl; due = wanting; refused = by.0; same = by.1 });
        frames = refl;
        packets = refl;
        metrics = refl;
        handed = refl;
      }
