-- A call of a session as one step.
use Rattle.std.proofs.Common.{◌≡◌, Bool, true, false, cond, [], length, IfOk, Result, Ok, Err, refl}
use Rattle.std.specs.List.{flat_map}
use Rattle.av1_frame.specs.declared.frame.Frame.{Frame}
use Rattle.av1_frame.specs.Planes.{fits}
use Rattle.av1_settings.specs.declared.encoder.EncoderConfig.{EncoderConfig}
use Rattle.av1_settings.specs.declared.status.EncoderStatus.TheVariants.{EnoughData, FrameSizeMismatch}
use Rattle.quantizers.specs.Tables.{Tables}
use Rattle.session_log.specs.Passes.{Passes}
use Rattle.session_log.specs.Selection.{reservoir_after}
use Rattle.session_core.specs.declared.call.Call.{Call}
use Rattle.session_core.specs.declared.call.Call.TheVariants.{Receive}
use Rattle.session_core.specs.declared.transcript.Reply.TheVariants.{Sent, Status}
use Rattle.session_core.specs.declared.transcript.Turn.{Turn}
use Rattle.session_core.specs.Moments.{Moment}
use Rattle.session_core.specs.Quantisers.{IsQuantised}
use Rattle.session_core.specs.Questions.{IsAskedIn}
use Rattle.session_core.specs.Scales.{IsScaled}
use Rattle.session_core.specs.Steps.{IsStep}
use Rattle.session_core.specs.Taken.{IsTaken, handed_at, packet_of}
use Rattle.session_core.specs.Told.{CoderTold, Counts, DetectorTold, ScalesTold, heard}
use Rattle.session_core.specs.Turns.{IsTurn, after_receive, after_turn, has_enough, sent_reply}
use Rattle.session_core.proofs.Deciding.{asked-none}
use Rattle.session_core.proofs.Scaling.{scaled-none}
use Rattle.session_core.proofs.Telling.{counts-none, taken-none}
use Rattle.session_core.proofs.Trying.{quiet-quantised}

-- a send gives no packet
pub sent-packet : {T O : Type 0} (enc : EncoderConfig) (moment : Moment T O) (picture : Frame T) → packet_of (sent_reply enc moment picture) ≡ []
sent-packet {T} {O} enc moment picture = by_test (has_enough enc moment) (fits picture enc.width enc.height enc.chroma_sampling)
  where
    by_test : (enough fit : Bool) → packet_of {T = T} {O = O} (cond enough (Status EnoughData) (cond fit (Sent moment.accepted) (Status FrameSizeMismatch))) ≡ []
    by_test true fit = refl
    by_test false true = refl
    by_test false false = refl

-- a call that codes nothing
pub quiet-step : {T O : Type 0} (enc : EncoderConfig) (tables : Tables) (passes : Passes) (call : Call T O) (turn : Turn T O) (before after : Moment T O)
    (coder : CoderTold T) (detector now : DetectorTold T) (scales : ScalesTold T) →
    turn.log ≡ [] → turn.reservoir ≡ reservoir_after enc passes before.log → packet_of turn.reply ≡ [] →
    IsTurn enc after.decisions before call turn → after ≡ after_turn enc after.decisions before call turn →
    IsAskedIn enc before after detector.questions now.questions detector.answers →
    IsStep enc tables passes call turn before after (heard coder detector scales) (heard coder now scales)
quiet-step {T} {O} enc tables passes call turn before after coder detector now scales log reservoir packet is leads asked = record {
  answered = is;
  moment = leads;
  quantised = quiet-quantised enc tables passes before turn log reservoir;
  taken = rw (log, packet) (taken-none coder);
  counted = rw log (counts-none coder.fails_after);
  asked = asked;
  scaled = rw log (scaled-none scales);
}

-- a receive, which asks nobody
pub receive-step : {T O E : Type 0} (enc : EncoderConfig) (tables : Tables) (passes : Passes) (result : Result (Turn T O) E) (before after : Moment T O)
    (coder now : CoderTold T) (detector : DetectorTold T) (scales then : ScalesTold T) →
    IfOk result (λ turn. IsTurn enc after.decisions before Receive turn) → IfOk result (λ turn. after ≡ after_receive before turn.log turn.reply) →
    IfOk result (λ turn. after.decisions ≡ before.decisions) → IfOk result (λ turn. IsQuantised enc tables passes before turn) →
    IfOk result (λ turn. IsTaken (flat_map (handed_at before) turn.log) turn.log (packet_of turn.reply) coder now) →
    IfOk result (λ turn. Counts coder.fails_after now.fails_after (length turn.log)) → IfOk result (λ turn. IsScaled before turn.log scales then) →
    IfOk result (λ turn. IsStep enc tables passes Receive turn before after (heard coder detector scales) (heard now detector then))
receive-step enc tables passes (Err error) before after coder now detector scales then is leads same quantised taken counted scaled = tt
receive-step enc tables passes (Ok turn) before after coder now detector scales then is leads same quantised taken counted scaled = record {
  answered = is;
  moment = leads;
  quantised = quantised;
  taken = taken;
  counted = counted;
  asked = asked-none enc before after detector.questions detector.answers same;
  scaled = scaled;
}
