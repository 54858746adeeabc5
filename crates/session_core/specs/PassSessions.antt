-- What a whole session in two passes promises, and when it answers other than Ok.
use Rattle.std.specs.Prelude.{◌≡◌, ℕ, if◌then◌else◌, false, List, take, Option, Some}
use Rattle.std.specs.List.{slice_get}
use Rattle.av1_settings.specs.declared.config.Config.{Config}
use Rattle.av1_settings.specs.declared.encoder.EncoderConfig.{EncoderConfig}
use Rattle.av1_settings.specs.declared.invalid.InvalidConfig.{InvalidConfig}
use Rattle.av1_settings.specs.declared.invalid.InvalidConfig.TheVariants.{RateControlConfigurationMismatch}
use Rattle.av1_settings.specs.declared.level.LevelTables.{LevelTables}
use Rattle.av1_settings.specs.declared.rate_control.RateControlConfig.{RateControlConfig}
use Rattle.av1_settings.specs.Checks.{asks_passes, pixel_refusal}
use Rattle.pass_data.specs.declared.error.PassDataError.{PassDataError}
use Rattle.pyramid.specs.declared.command.Command.{Command}
use Rattle.quantizers.specs.Tables.{Tables}
use Rattle.session_log.specs.Passes.{packet_sent}
use Rattle.session_log.specs.declared.entry.LogEntry.{LogEntry}
use Rattle.session_core.specs.declared.call.Call.TheVariants.{Receive}
use Rattle.session_core.specs.declared.pass_transcript.PassCall.{PassCall}
use Rattle.session_core.specs.declared.pass_transcript.PassCall.TheVariants.{Call as Plain, Give}
use Rattle.session_core.specs.declared.pass_transcript.PassTranscript.{PassTranscript}
use Rattle.session_core.specs.declared.pass_transcript.PassTurn.{PassTurn}
use Rattle.session_core.specs.declared.transcript.Decision.{Decision}
use Rattle.session_core.specs.declared.transcript.Transcript.{Transcript}
use Rattle.session_core.specs.Answers.{IsStopped}
use Rattle.session_core.specs.PassTurns.{ArePassTurns, awaits_data, calls_answered, pass_moment_after, turns_answered}
use Rattle.session_core.specs.Quantisers.{AreSelected}
use Rattle.session_core.specs.Sessions.{IsPlayed}
use Rattle.session_core.specs.Told.{Heard}

-- why a session in two passes is refused: first because there is only one, as pass data isn't asked for and no summary is set
abbrev pub passes_refusal : ℕ → LevelTables → Config → Option InvalidConfig
passes_refusal bits levels config =
    if asks_passes config then pixel_refusal bits levels config else Some RateControlConfigurationMismatch

-- what was answered is the run of a session in one pass, but for its quantisers
abbrev pub IsPassPlayed : {T O : Type 0} → EncoderConfig → List (PassCall T O) → List (PassTurn T O) → List Decision → Heard T → Heard T → Type 0
IsPassPlayed {T} {O} enc calls turns decisions before after =
    let transcript : Transcript T O = record { turns = turns_answered calls turns; decisions = decisions } in
    IsPlayed enc (calls_answered calls turns) transcript before after

-- a session's run in two passes: its calls, its transcript, and what those outside told before and after
pub record IsPassSessionRun {T O : Type 0} (enc : EncoderConfig) (tables : Tables) (control : RateControlConfig) (calls : List (PassCall T O)) (transcript : PassTranscript T O) (before after : Heard T) : Type 0 where
  -- the reply table of two passes, with each turn's quantisers, its reservoir, and the pass data
  pub turns : ArePassTurns enc tables control transcript.decisions calls transcript.turns
  -- the headline, and what stands beside it, of what was answered
  pub played : IsPassPlayed enc calls transcript.turns transcript.decisions before after

-- the coder failed in one of these calls, a receive that didn't wait and that codes command number `number`
pub record PassFailsAt {T O : Type 0} (enc : EncoderConfig) (tables : Tables) (control : RateControlConfig) (calls : List (PassCall T O)) (before after : Heard T) (number : ℕ) : Type 0 where
  pub done : ℕ
  pub turns : List (PassTurn T O)
  pub decisions : List Decision
  pub command : Command
  pub trials : List LogEntry
  pub at_receive : slice_get calls done ≡ Some (Plain Receive)
  pub answered : ArePassTurns enc tables control decisions (take done calls) turns
  pub goes_on : awaits_data enc (pass_moment_after enc tables control decisions (take done calls) turns) Receive ≡ false
  pub stopped : IsStopped enc (calls_answered (take done calls) turns) (turns_answered (take done calls) turns)
      decisions command trials before after number
  -- a try's quantisers are those selected
  pub selected : (let at = pass_moment_after enc tables control decisions (take done calls) turns in
      AreSelected enc tables at.passes at.moment at.moment.log trials)

-- a call gives these bytes
abbrev pub IsGiving : {T O : Type 0} → Option (PassCall T O) → List ℕ → Type 0
IsGiving (Some (Give message)) bytes = message.items ≡ bytes
IsGiving call bytes = ⊥

-- pass data that one of these calls gives is refused; the calls before it were answered
pub record IsRefusedAt {T O : Type 0} (enc : EncoderConfig) (tables : Tables) (control : RateControlConfig) (calls : List (PassCall T O)) (before after : Heard T) (refusal : PassDataError) : Type 0 where
  pub done : ℕ
  pub turns : List (PassTurn T O)
  pub decisions : List Decision
  pub message : List ℕ
  pub at_give : IsGiving (slice_get calls done) message
  pub answered : ArePassTurns enc tables control decisions (take done calls) turns
  pub played : IsPassPlayed enc (take done calls) turns decisions before after
  pub refused : (let at = pass_moment_after enc tables control decisions (take done calls) turns in
      (packet_sent enc at.passes at.moment.log message).refused ≡ Some refusal)
