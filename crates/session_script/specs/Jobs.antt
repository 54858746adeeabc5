-- What the program says of the jobs of a script, which were coded side by side.
use Rattle.std.specs.Prelude.{⊤, ℕ, Bool, true, false, min, List, count_by, replicate, Some}
use Rattle.std.specs.List.{reduce}
use Rattle.av1_frame.specs.declared.frame.Frame.{Frame}
use Rattle.gop_board.specs.Encoding.{IsJobFault, IsWhole}
use Rattle.gop_board.specs.Makers.{MakerTold}
use Rattle.script_lines.specs.declared.line.Action.TheVariants.{Send}
use Rattle.script_lines.specs.declared.line.ScriptCall.{ScriptCall}
use Rattle.script_lines.specs.declared.line.ScriptCall.TheVariants.{Act}
use Rattle.script_lines.specs.declared.script.Script.{Script}
use Rattle.script_lines.specs.SettingLines.{encoder_of}
use Rattle.scripted.specs.declared.coder.ScriptedCoder.{ScriptedCoder}
use Rattle.scripted.specs.CoderLog.{coder_told, scripted_next_from}
use Rattle.scripted.specs.DetectorLog.{asked_first}
use Rattle.scripted.specs.ScalesLog.{scale_from}
use Rattle.scripted.specs.ScriptedTables.{scripted_tables}
use Rattle.session_core.specs.declared.packet.Packet.{Packet}
use Rattle.session_core.specs.Told.{DetectorTold}
use Rattle.session_script.specs.Calls.{own_picture}
use Rattle.session_script.specs.Carried.{IsValidScript}

-- what is told ahead of a job, whose frames are the script's from number `first` on: the bytes that its coder gives them and the
-- mean scales that they have are those that the script sets, and the first call of its own coder that fails is that of the least
-- fault number
abbrev pub told_ahead : Script → ℕ → ℕ → MakerTold ℕ
told_ahead script job first = record {
  gives = Some (scripted_next_from first script.byte_counts);
  fails_after = Some (reduce min script.faults);
  answers = Some (scale_from first script.scales);
}

abbrev pub is_send : ScriptCall → Bool
is_send (Act Send) = true
is_send call = false

-- the frames that a script sends, all of them one picture
abbrev pub frames_of : Script → List (Frame ℕ)
frames_of script = replicate (count_by is_send script.calls) (own_picture (encoder_of script.settings))

-- these are the packets of all jobs of a script's frames: the detector answers yes at exactly the cuts, and the sessions of the
-- jobs have the script's configuration and the program's tables
pub record JobsCarryOut (script : Script) (packets : List (Packet ℕ ⊤)) : Type 0 where
  pub valid : IsValidScript script
  pub asked : DetectorTold ℕ
  pub whole : IsWhole (encoder_of script.settings) scripted_tables (told_ahead script) (frames_of script)
      (asked_first script.cuts) asked packets

-- the coder of this job failed, behind so many commands, and those of the jobs before it didn't
pub record JobStops (script : Script) (job command : ℕ) : Type 0 where
  pub valid : IsValidScript script
  pub asked : DetectorTold ℕ
  pub coder : ScriptedCoder
  pub fault : IsJobFault (encoder_of script.settings) scripted_tables (told_ahead script) coder_told (frames_of script)
      (asked_first script.cuts) asked job command coder
