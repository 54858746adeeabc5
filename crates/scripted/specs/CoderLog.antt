-- What the scripted coder tells of what it keeps, and of what it will do.
use Rattle.std.specs.Prelude.{ℕ, ◌-◌, Bool, false, nat_le, min, List, [], length, map, Option, None, Some}
use Rattle.std.specs.List.{reduce}
use Rattle.std.specs.Option.{option_map, option_map_or}
use Rattle.av1_settings.specs.Stats.{no_stats}
use Rattle.pyramid.specs.declared.command.Command.{Command}
use Rattle.pyramid.specs.declared.command.Command.TheVariants.{Show}
use Rattle.session_core.specs.Told.{CoderTold, Gave, Handed, ToCode, ToShow, Told}
use Rattle.scripted.specs.declared.coder.Given.{Given}
use Rattle.scripted.specs.declared.coder.Given.TheVariants.{Coded, Shown}
use Rattle.scripted.specs.declared.coder.ScriptedCoder.{ScriptedCoder}
use Rattle.scripted.specs.ScriptedBytes.{counted_from, scripted_bytes}

-- bytes alone: no picture, and every count 0
abbrev pub gave_bytes : List ℕ → Gave ℕ
gave_bytes bytes = record { bytes = bytes; rec = None; stats = no_stats }

abbrev pub told_of : Given → Told ℕ
told_of (Coded command trial quant picture t35 bytes) = record {
  handed = ToCode (record {
    command = command;
    trial = trial;
    quant = Some quant;
    picture = picture.value;
    t35 = t35.value;
  });
  gave = gave_bytes bytes;
}
told_of (Shown slot frame bytes) =
    record { handed = ToShow (record { slot = slot; frame = frame }); gave = gave_bytes bytes }

abbrev pub calls_of : ScriptedCoder → Option (List (Told ℕ))
calls_of coder = Some (map told_of coder.log)

abbrev pub command_of : Handed ℕ → Command
command_of (ToCode job) = job.command
command_of (ToShow show) = Show show.slot

-- whatever it gave before, it gives the bytes of the command
abbrev pub scripted_next : List (ℕ × ℕ) → List (Told ℕ) → Handed ℕ → Gave ℕ
scripted_next counts calls handed = gave_bytes (scripted_bytes counts (command_of handed))

-- the same, by counts that speak of frame 0 by this number, and of those that follow by the numbers that follow
abbrev pub scripted_next_from : ℕ → List (ℕ × ℕ) → List (Told ℕ) → Handed ℕ → Gave ℕ
scripted_next_from first counts calls handed =
    gave_bytes (scripted_bytes counts (counted_from first (command_of handed)))

-- how many further calls give bytes before the first that fails, if one does
abbrev pub calls_left : ScriptedCoder → Option ℕ
calls_left coder = option_map (λ first. first - length coder.log) coder.first_fault

abbrev pub coder_told : ScriptedCoder → CoderTold ℕ
coder_told coder = record {
  calls = calls_of coder;
  gives = Some (scripted_next_from coder.first coder.byte_counts);
  fails_after = Some (calls_left coder);
  faults = coder.faults;
}

-- what a coder by these rules tells first: no call; its first call that fails is that of the least number
abbrev pub told_first : List (ℕ × ℕ) → List ℕ → CoderTold ℕ
told_first counts faults = record {
  calls = Some [];
  gives = Some (scripted_next counts);
  fails_after = Some (reduce min faults);
  faults = 0;
}

-- the same, by counts that speak of frame 0 by this number
abbrev pub told_first_from : ℕ → List (ℕ × ℕ) → List ℕ → CoderTold ℕ
told_first_from first counts faults =
    record (told_first counts faults) { gives = Some (scripted_next_from first counts) }

-- the next call is to fail
abbrev pub is_due : ScriptedCoder → Bool
is_due coder = option_map_or (λ first. nat_le first (length coder.log)) coder.first_fault false
