-- The exponential, by hyperbolic CORDIC: each turn takes an angle off a logarithm, and scales a number to match.
use Rattle.std.specs.Prelude.{◌≡◌, ℕ, zero, suc, ◌+◌, ◌-◌, ◌*◌, ◌/◌, ◌%◌, ◌^◌, nat_lt, nat_le, not, ℤ, pos, negsuc, ◌+ℤ◌, ◌*ℤ◌, ◌≤ℤ◌, ◌<ℤ◌, if◌then◌else◌}
use Rattle.std.specs.Int.{int_shr, is_negative, saturate_signed, w64}
use Rattle.fixed_log.specs.Table.{angle_of, stepped, turns_from}

-- where the turns stand: the number, of scale 2^61, and what is left of the logarithm, of scale 2^62 and doubled with the turns
pub record ExpState : Type 0 where
  pub value : ℤ
  pub left : ℤ

-- one turn: the value gains, and what is left of the logarithm falls by the angle; where that is negative, both go back
abbrev pub turned : ℤ → ℤ → ExpState → ExpState
turned gain angle s = record {
  value = stepped (is_negative s.left) s.value gain;
  left = stepped (not (is_negative s.left)) s.left angle;
}

abbrev pub doubled : ExpState → ExpState
doubled s = record { value = s.value; left = pos 2 *ℤ s.left }

-- turn i, which scales the value by 1 + 2^-(i + 1) or 1 - 2^-(i + 1)
abbrev pub exp_turn : ℕ → ExpState → ExpState
exp_turn i s = turned (int_shr s.value (i + 1)) (pos (angle_of i)) s

abbrev pub doubling_turn : ℕ → ExpState → ExpState
doubling_turn i s = doubled (exp_turn i s)

-- turns 0 to 3, 3 to 12 and 12 to 31: the turn that ends the first and the second run does not double
unfoldable pub exp_runs : ExpState → ExpState
exp_runs s = turns_from doubling_turn 12 20 (exp_turn 12 (turns_from doubling_turn 3 9 (exp_turn 3 (turns_from doubling_turn 0 3 s))))

-- turn i for the low bits of a value, whose high bits a turn past 31 leaves alone
abbrev pub low_turn : ℤ → ℕ → ExpState → ExpState
low_turn high i s = turned (int_shr high i) (pos (angle_of i)) s

abbrev pub doubling_low_turn : ℤ → ℕ → ExpState → ExpState
doubling_low_turn high i s = doubled (low_turn high i s)

-- turns 32 to 39 and 39 to 60: the turn that ends the first run does not double
unfoldable pub low_runs : ℤ → ExpState → ExpState
low_runs high s = turns_from (doubling_low_turn high) 39 22 (low_turn high 39 (turns_from (doubling_low_turn high) 32 7 s))

-- 2^61 over the product of sqrt(1 - 4^-(i + 1)) over all turns, but for 8 in the last place
abbrev pub START : ℕ
START = 0x26A3_D0E4_01DD_846D

-- the low bits, which matter only for a whole part above 30
unfoldable pub low_bits : ℕ → ExpState → ℤ
low_bits whole s = if nat_lt 30 whole then (low_runs s.value (record { value = pos 0; left = s.left })).value else pos 0

-- 2^62 times 2 to a fraction of scale 2^57
unfoldable pub mantissa : ℕ → ℕ → ℤ
mantissa whole zero = pos (2 ^ 62)
mantissa whole (suc f) =
    let s = exp_runs (record { value = pos START; left = pos (32 * suc f) }) in
    pos 2 *ℤ s.value +ℤ low_bits whole s

-- a number of scale 2^62 times 2^whole, rounded to a whole number
unfoldable pub scaled : ℕ → ℤ → ℤ
scaled whole w = if nat_lt whole 62 then int_shr (int_shr w (61 - whole) +ℤ pos 1) 1 else w

-- 2 to the power of a number of scale 2^57, rounded: 0 below 0, and the greatest i64 from 63 on
unfoldable pub bexp64 : ℤ → ℤ
bexp64 (pos v) =
    if nat_le 63 (v / 2 ^ 57) then pos (2 ^ 63 - 1)
    else saturate_signed w64 (scaled (v / 2 ^ 57) (mantissa (v / 2 ^ 57) (v % 2 ^ 57)))
bexp64 (negsuc v) = pos 0

-- the state fits its type, with room for a doubling where bits is 62
pub record IsSmall (bits : ℕ) (s : ExpState) : Type 0 where
  pub value_low : negsuc (2 ^ 63 - 1) ≤ℤ s.value
  pub value_high : s.value <ℤ pos (2 ^ 63)
  pub left_low : negsuc (2 ^ bits - 1) ≤ℤ s.left
  pub left_high : s.left <ℤ pos (2 ^ bits)

-- what the turns from 32 on can begin with: at most twice the last angle is left, and a little more
pub record HasLittleLeft (s : ExpState) : Type 0 where
  pub low : negsuc 0x5C8A_0000_0000_0000 ≤ℤ s.left
  pub high : s.left ≤ℤ pos 0x5C8A_0000_0000_0000

-- what the first turn begins with
pub record IsStart (s : ExpState) : Type 0 where
  pub value : s.value ≡ pos START
  pub low : pos 0 ≤ℤ s.left
  pub high : s.left <ℤ pos (2 ^ 62)
