-- What one call of a session does, and how it fails; a session is as many of these as it has calls, however they come.
use Rattle.std.specs.Prelude.{◌≡◌, ⊤, ℕ, ℤ, [], ◌∷◌, List, map, take, length}
use Rattle.std.specs.List.{flat_map}
use Rattle.coding_base.specs.Faults.{Rose}
use Rattle.av1_settings.specs.declared.encoder.EncoderConfig.{EncoderConfig}
use Rattle.av1_settings.specs.declared.status.EncoderStatus.TheVariants.{Encoded}
use Rattle.pyramid.specs.declared.command.Command.{Command}
use Rattle.session_core.specs.declared.call.Call.{Call}
use Rattle.session_core.specs.declared.call.Call.TheVariants.{Receive}
use Rattle.session_core.specs.declared.fault.SessionFault.{SessionFault}
use Rattle.session_core.specs.declared.fault.SessionFault.TheVariants.{Coder, OutOfMemory, PassData}
use Rattle.session_log.specs.Passes.{Passes, no_passes}
use Rattle.session_log.specs.declared.entry.LogEntry.{LogEntry}
use Rattle.session_core.specs.declared.transcript.Reply.{Reply}
use Rattle.session_core.specs.declared.transcript.Reply.TheVariants.{Status}
use Rattle.session_core.specs.declared.transcript.Turn.{Turn}
use Rattle.quantizers.specs.Tables.{Tables}
use Rattle.session_core.specs.Answers.{Codes}
use Rattle.session_core.specs.Moments.{Moment}
use Rattle.session_core.specs.Questions.{IsAskedIn}
use Rattle.session_core.specs.Taken.{IsTaken, handed_at, packet_of}
use Rattle.session_core.specs.Quantisers.{AreSelected, IsQuantised}
use Rattle.session_core.specs.Scales.{AreScaled, IsScaled, frame_of, picture_at}
use Rattle.session_core.specs.Told.{Counts, FailsBehind, Heard}
use Rattle.session_core.specs.Turns.{BeginTrials, IsTurn, after_turn}

-- what holds where a call was refused, which is any status but that a hidden frame was encoded
abbrev pub WhereRefused : {T O : Type 0} → Reply T O → Type 0 → Type 0
WhereRefused (Status Encoded) Holds = ⊤
WhereRefused (Status status) Holds = Holds
WhereRefused reply Holds = ⊤

-- of those that a session is lent, a receive doesn't use the detector, and any other call neither the coder nor the mean
-- scales
abbrev pub Unused : {T O : Type 0} → Call T O → Type 0 → Type 0 → Type 0
Unused Receive OfDetector OfCoder = OfDetector
Unused call OfDetector OfCoder = OfCoder

-- a call where the passes hand on `passes`: its reply and what it coded, the moment after it, and what was told of it
pub record IsStep {T O : Type 0} (enc : EncoderConfig) (tables : Tables) (passes : Passes) (call : Call T O) (turn : Turn T O) (before after : Moment T O) (told now : Heard T) : Type 0 where
  -- the reply table
  pub answered : IsTurn enc after.decisions before call turn
  pub moment : after ≡ after_turn enc after.decisions before call turn
  -- the quantisers, and the reservoir
  pub quantised : IsQuantised enc tables passes before turn
  -- what the coder took, and that none of it is a call that it told to fail
  pub taken : IsTaken (flat_map (handed_at before) turn.log) turn.log (packet_of turn.reply) told.coder now.coder
  pub counted : Counts told.coder.fails_after now.coder.fails_after (length turn.log)
  -- what the detector was asked
  pub asked : IsAskedIn enc before after told.detector.questions now.detector.questions told.detector.answers
  -- for which frames mean scales were asked
  pub scaled : IsScaled before turn.log told.scales now.scales

-- calls of a session in one pass one after another, each a step from the moment that the one before leaves, and of what was told by then
abbrev pub AreSteps : {T O : Type 0} → EncoderConfig → Tables → List (Call T O) → List (Turn T O) →
    Moment T O → Moment T O → Heard T → Heard T → Type 0
AreSteps enc tables [] [] before after told now = (after ≡ before) × (now ≡ told)
AreSteps {T} {O} enc tables (call ∷ calls) (turn ∷ turns) before after told now =
    (next : Moment T O) × (then : Heard T) × IsStep enc tables no_passes call turn before next told then
    × AreSteps enc tables calls turns next after then now
AreSteps enc tables calls turns before after told now = ⊥

-- the coder failed in the receive that codes the command of this number, behind what it took of the tries for it
pub record IsCoderFault {T O : Type 0} (enc : EncoderConfig) (tables : Tables) (passes : Passes) (before : Moment T O) (told now : Heard T) (number : ℕ) : Type 0 where
  pub command : Command
  pub trials : List LogEntry
  pub scales : List ℤ
  pub due : Codes enc before number command
  pub tried : BeginTrials enc before command trials
  -- a try had the quantisers that were selected, and the mean scale of the command's frame
  pub selected : AreSelected enc tables passes before before.log trials
  pub scaled : AreScaled (frame_of (picture_at before) command) scales told.scales now.scales
  pub alike : map (λ trial. trial.mean_scale) trials ≡ take (length trials) scales
  pub taken : IsTaken {T = T} {O = O} (flat_map (handed_at before) trials) trials [] told.coder now.coder
  -- where it tells its first failing call ahead, it is this one
  pub reached : FailsBehind told.coder.fails_after (length trials)
  pub rose : Rose told.coder.faults now.coder.faults
  -- the detector is left alone
  pub unasked : now.detector ≡ told.detector

-- a call that failed: a receive because of the coder, or any for want of memory, which has no cause that is told
abbrev pub Fails : {T O : Type 0} → EncoderConfig → Tables → Passes → Call T O → Moment T O → Heard T → Heard T → SessionFault → Type 0
Fails enc tables passes call before told now (Coder number) =
    (call ≡ Receive) × IsCoderFault enc tables passes before told now number
Fails enc tables passes call before told now OutOfMemory = ⊤
Fails enc tables passes call before told now (PassData refusal) = ⊥
