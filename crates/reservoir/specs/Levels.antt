-- How much a reservoir of bits can hold.
use Rattle.std.specs.Prelude.{int_div, ◌^◌, Option, Some, None, ℤ, pos, ◌+ℤ◌, ◌-ℤ◌, ◌*ℤ◌}
use Rattle.std.specs.Int.{int_shr, int_min, int_max}

-- the nearest number to z from lo to hi
abbrev pub between : ℤ → ℤ → ℤ → ℤ
between lo hi z = int_min (int_max z lo) hi

-- the bits of a temporal unit, without the 16 that its delimiter takes
abbrev pub bits_per_tu_of : ℤ → ℤ → ℤ → ℤ
bits_per_tu_of bitrate framerate_num framerate_den =
    between (pos 40) (pos (2 ^ 46)) (int_div (bitrate *ℤ framerate_den) framerate_num) -ℤ pos 16

-- over how many temporal units the reservoir is to be evened out
abbrev pub reservoir_delay_of : Option ℤ → ℤ → ℤ
reservoir_delay_of (Some delay) max_interval = delay
reservoir_delay_of None max_interval =
    int_max (int_min (int_shr (pos 3 *ℤ max_interval) 1) (pos 240)) (pos 12)

-- the greatest reservoir, and half of it, rounded up
abbrev pub reservoir_most : ℤ → ℤ → ℤ
reservoir_most bits_per_tu delay = bits_per_tu *ℤ delay

abbrev pub reservoir_target : ℤ → ℤ
reservoir_target most = int_shr (most +ℤ pos 1) 1
