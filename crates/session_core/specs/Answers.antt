-- When a session answers other than Ok.
use Rattle.std.specs.Prelude.{◌≡◌, ℕ, ℤ, ◌++◌, List, map, length, take, Some, None}
use Rattle.std.specs.List.{slice_get}
use Rattle.av1_settings.specs.declared.encoder.EncoderConfig.{EncoderConfig}
use Rattle.coding_base.specs.Faults.{Rose}
use Rattle.pyramid.specs.declared.command.Command.{Command}
use Rattle.pyramid.specs.Display.{empty_slots}
use Rattle.quantizers.specs.Tables.{Tables}
use Rattle.session_core.specs.declared.call.Call.{Call}
use Rattle.session_core.specs.declared.call.Call.TheVariants.{Receive}
use Rattle.session_core.specs.declared.fault.SessionFault.{SessionFault}
use Rattle.session_core.specs.declared.fault.SessionFault.TheVariants.{Coder, OutOfMemory, PassData}
use Rattle.session_core.specs.declared.session.SessionError.{SessionError}
use Rattle.session_core.specs.declared.session.SessionError.TheVariants.{CoderFault, OutOfMemory as NoMemory, PassData as RefusedData}
use Rattle.session_core.specs.declared.transcript.Decision.{Decision}
use Rattle.session_log.specs.Passes.{no_passes}
use Rattle.session_log.specs.declared.entry.LogEntry.{LogEntry}
use Rattle.session_core.specs.declared.transcript.Turn.{Turn}
use Rattle.session_core.specs.Moments.{Moment, plan_at}
use Rattle.session_core.specs.Questions.{IsAsked}
use Rattle.session_core.specs.Quantisers.{AreSelected}
use Rattle.session_core.specs.Scales.{AreScaled, frame_of, frames_of, scales_of}
use Rattle.session_core.specs.Sessions.{AreQuantised, AreTurns, AreKeyDecisions, moment_after, accepted_in, entries_of, commands_of, handed_entries, packets_of, picture_sent}
use Rattle.session_core.specs.Taken.{IsTaken}
use Rattle.session_core.specs.Told.{FailsBehind, Heard}
use Rattle.session_core.specs.Turns.{BeginTrials, held_back}

-- a receive at this moment codes the command of this number
pub record Codes {T O : Type 0} (enc : EncoderConfig) (moment : Moment T O) (number : ℕ) (command : Command) : Type 0 where
  pub due : held_back enc moment ≡ None
  pub next : moment.commands ≡ number
  pub command_of : slice_get (plan_at enc moment) number ≡ Some command

-- the coder failed in the receive behind these calls, which codes command number `number`: the calls were answered as the table
-- says, and the coder took what they coded, which is the plan's first commands, and what was tried for this command
pub record IsStopped {T O : Type 0} (enc : EncoderConfig) (calls : List (Call T O)) (turns : List (Turn T O)) (decisions : List Decision) (command : Command) (trials : List LogEntry) (before after : Heard T) (number : ℕ) : Type 0 where
  pub answered : AreTurns enc decisions calls turns
  pub decided : decisions ≡ (moment_after enc decisions calls turns).decisions
  pub keys : AreKeyDecisions (accepted_in calls turns) decisions
  pub asked : IsAsked enc (accepted_in calls turns) decisions before after
  pub due : Codes enc (moment_after enc decisions calls turns) number command
  pub coded : length (commands_of turns) ≡ number
  pub first : commands_of turns ≡ take number (plan_at enc (moment_after enc decisions calls turns))
  pub tried : BeginTrials enc (moment_after enc decisions calls turns) command trials
  -- the mean scale was asked for the command's frame too
  pub scales : List ℤ
  pub scaled : AreScaled
      (frames_of (picture_sent (accepted_in calls turns)) (entries_of turns)
      ++ frame_of (picture_sent (accepted_in calls turns)) command)
      (scales_of (entries_of turns) ++ scales) before.scales after.scales
  pub alike : map (λ trial. trial.mean_scale) trials ≡ take (length trials) scales
  pub taken : IsTaken
      (handed_entries (accepted_in calls turns) empty_slots (entries_of turns ++ trials))
      (entries_of turns ++ trials) (packets_of turns) before.coder after.coder
  -- where it tells its first failing call ahead, it is this one
  pub reached : FailsBehind before.coder.fails_after (length (entries_of turns ++ trials))
  pub rose : Rose before.coder.faults after.coder.faults

-- the coder failed in one of these calls, in one pass
pub record FailsAt {T O : Type 0} (enc : EncoderConfig) (tables : Tables) (calls : List (Call T O)) (before after : Heard T) (number : ℕ) : Type 0 where
  pub done : ℕ
  pub turns : List (Turn T O)
  pub decisions : List Decision
  pub command : Command
  pub trials : List LogEntry
  pub at_receive : slice_get calls done ≡ Some Receive
  pub stopped : IsStopped enc (take done calls) turns decisions command trials before after number
  -- the quantisers, a try's too, are those selected
  pub quantised : AreQuantised enc tables decisions (take done calls) turns
  pub selected : AreSelected enc tables no_passes (moment_after enc decisions (take done calls) turns) (entries_of turns) trials

-- the error of a list of calls, for the fault of one of them
abbrev pub error_of : SessionFault → SessionError
error_of (Coder command) = CoderFault command
error_of OutOfMemory = NoMemory
error_of (PassData refusal) = RefusedData refusal
