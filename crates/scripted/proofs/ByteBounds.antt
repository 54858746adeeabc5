-- How many bytes the program's coder gives.
use Rattle.std.proofs.Common.{◌<◌, ◌^◌, ◌%◌, ℕ, List, length, max, min, Option, Some, None, arith}
use Rattle.std.specs.Option.{option_map_or}
use Rattle.std.proofs.lemmas.List.{length-replicate}
use Rattle.av1_settings.specs.declared.frame_type.FrameType.{FrameType}
use Rattle.av1_settings.specs.declared.frame_type.FrameType.TheVariants.{KEY, INTER, INTRA_ONLY, SWITCH}
use Rattle.pyramid.specs.declared.command.Command.{Command}
use Rattle.pyramid.specs.declared.command.Command.TheVariants.{Code, Show}
use Rattle.scripted.specs.ScriptedBytes.{byte_count, plain_count, scripted_bytes, set_count}
use Rattle.scripted.specs.declared.coder.TheConstants.{MOST_BYTES}

abbrev pub Within : ℕ → Type 0
Within n = (0 < n) × (n < 2 ^ 48)

plain_within : (kind : FrameType) → Within (plain_count kind)
plain_within KEY = (omega arith, omega arith)
plain_within INTER = (omega arith, omega arith)
plain_within INTRA_ONLY = (omega arith, omega arith)
plain_within SWITCH = (omega arith, omega arith)

set_within : (kind : FrameType) (count : Option ℕ) → Within (option_map_or (λ count. max (min count MOST_BYTES) 1) count (plain_count kind))
set_within kind None = plain_within kind
set_within kind (Some count) = (omega arith, omega arith)

pub count_within : (counts : List (ℕ × ℕ)) (frame : ℕ) (kind : FrameType) → (0 < byte_count counts frame kind) × (byte_count counts frame kind < 2 ^ 48)
count_within counts frame kind = set_within kind (set_count counts frame)

pub byte_bounds : (counts : List (ℕ × ℕ)) (command : Command) → Within (length (scripted_bytes counts command))
unfolding scripted_bytes
byte_bounds counts (Code frame kind refs refresh shown) = rw (length-replicate (byte_count counts frame kind) (frame % 256)) (count_within counts frame kind)
byte_bounds counts (Show slot) = (omega arith, omega arith)
