-- The base quantiser near the one before, and a quantiser from its power.
use Rattle.std.specs.Prelude.{int_div, ℕ, ◌/◌, Option, Some, None, ℤ, pos, ◌+ℤ◌, ◌-ℤ◌, ◌*ℤ◌}
use Rattle.std.specs.Int.{int_min, int_max, saturate_signed, w64}

-- how far the base may move from that of the coded frame before
abbrev pub MOST_MOVE : ℕ
MOST_MOVE = 0xA4_D3C2_5E68_DC58

abbrev pub near_base : ℤ → ℤ → ℤ
near_base previous q = int_min (int_max q (previous -ℤ pos MOST_MOVE)) (previous +ℤ pos MOST_MOVE)

abbrev pub near_previous : Option ℤ → ℤ → ℤ
near_previous None q = q
near_previous (Some previous) q = near_base previous q

-- the quantiser whose power with the exponent has this logarithm
abbrev pub target_of_power : ℤ → ℕ → ℤ
target_of_power power exponent =
    saturate_signed w64 (int_div (power +ℤ pos (exponent / 2)) (pos exponent) *ℤ pos 64)
