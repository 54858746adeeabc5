-- The numbers of refusals.
use Rattle.std.specs.Prelude.{ℕ}
use Rattle.pass_data.specs.declared.error.PassDataError.{PassDataError}
use Rattle.pass_data.specs.declared.error.PassDataError.TheVariants.{Corrupted, BadPacket, TooManyFrames, NotNeeded, WrongSize, OutOfMemory}

abbrev pub number_of : PassDataError → ℕ
number_of (Corrupted why) = 1
number_of (BadPacket invalid) = 2
number_of TooManyFrames = 3
number_of NotNeeded = 4
number_of (WrongSize length) = 5
number_of OutOfMemory = 6
