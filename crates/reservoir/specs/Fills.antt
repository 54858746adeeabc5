-- What a reservoir holds, and the quantiser that it asks for where it would run over or dry.
use Rattle.std.specs.Prelude.{int_div, ℕ, ◌^◌, Bool, ◌&&◌, Option, ℤ, pos, ◌+ℤ◌, ◌-ℤ◌, ◌*ℤ◌, ◌≤ℤ◌, int_lt, is_none, if◌then◌else◌}
use Rattle.std.specs.Int.{int_shr, int_min, saturate_signed, w64}
use Rattle.fixed_log.specs.Logarithm.{blog64}
use Rattle.fixed_log.specs.Within.{IsWithin}
use Rattle.rate_model.specs.Search.{power_log}
use Rattle.reservoir.specs.Powers.{target_of_power}

-- the bits that it holds, those that it can hold, and those of a temporal unit
pub record Fill : Type 0 where
  pub bits : ℤ
  pub most : ℤ
  pub bits_per_tu : ℤ

-- what the code keeps of it
pub record IsFill (fill : Fill) : Type 0 where
  pub within : IsWithin (2 ^ 96) fill.bits
  pub most_low : pos 1 ≤ℤ fill.most
  pub most_high : fill.most ≤ℤ pos (2 ^ 78)
  pub bits_low : pos 24 ≤ℤ fill.bits_per_tu
  pub bits_high : fill.bits_per_tu ≤ℤ pos (2 ^ 46)

-- ---- a reservoir that runs over asks for more bits

-- the last 32nd of the reservoir
abbrev pub margin : Fill → ℤ
margin fill = int_shr (fill.most +ℤ pos 31) 5

-- how far the reservoir would reach into it if the frame took no bits
abbrev pub overflow : Fill → ℤ
overflow fill = fill.bits +ℤ fill.bits_per_tu -ℤ (fill.most -ℤ margin fill)

-- the part of the margin that is reached, of scale 2^32
abbrev pub overflow_part : Fill → ℤ
overflow_part fill = int_div (int_min (margin fill) (overflow fill) *ℤ pos (2 ^ 32)) (margin fill)

abbrev pub overflow_log : Fill → ℤ
overflow_log fill = blog64 (saturate_signed w64 (overflow fill))

-- the frame would take fewer bits than would run over; log_bits is the logarithm of its bits at quantiser 1, and power that by which its
-- quantiser makes them fall
abbrev pub runs_over : Fill → ℤ → ℤ → Bool
runs_over fill log_bits power = int_lt (pos 0) (overflow fill) && int_lt (log_bits -ℤ power) (overflow_log fill)

-- the power moves towards the one with which the frame takes what would run over, by the part of the margin that is reached
abbrev pub power_against_overflow : Fill → ℤ → ℤ → ℤ
power_against_overflow fill log_bits power =
    power +ℤ int_shr (log_bits -ℤ overflow_log fill -ℤ power) 32 *ℤ overflow_part fill

unfoldable pub target_against_overflow : Fill → ℤ → ℕ → ℤ → ℤ
target_against_overflow fill log_bits exponent target =
    let power = power_log target exponent in
    if runs_over fill log_bits power then target_of_power (power_against_overflow fill log_bits power) exponent
    else saturate_signed w64 target

-- ---- a frame may not take more than the reservoir holds, unless a greatest index keeps quantisers low

abbrev pub held : Fill → ℤ
held fill = fill.bits +ℤ int_shr fill.bits_per_tu 1

abbrev pub held_log : Fill → ℤ
held_log fill = blog64 (saturate_signed w64 (held fill))

abbrev pub runs_dry : Fill → Option ℕ → ℤ → ℤ → Bool
runs_dry fill greatest log_bits power = is_none greatest && int_lt (held_log fill) (log_bits -ℤ power)

unfoldable pub target_against_underflow : Fill → Option ℕ → ℤ → ℕ → ℤ → ℤ
target_against_underflow fill greatest log_bits exponent target =
    if runs_dry fill greatest log_bits (power_log target exponent) then target_of_power (log_bits -ℤ held_log fill) exponent else target
