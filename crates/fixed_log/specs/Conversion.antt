-- Fixed-point numbers of the scales 2^57 and 2^24.
use Rattle.std.specs.Prelude.{◌-◌, ◌*◌, ◌^◌, ℤ, pos, negsuc, ◌+ℤ◌, ◌*ℤ◌, int_lt, if◌then◌else◌}
use Rattle.std.specs.Int.{int_shr, int_min, saturate_signed, w64}
use Rattle.fixed_log.specs.Exponential.{bexp64}

-- v as a number of scale 2^57
abbrev pub q57 : ℤ → ℤ
q57 v = v *ℤ pos (2 ^ 57)

-- from the scale 2^57 to 2^24, rounded
abbrev pub q57_to_q24 : ℤ → ℤ
q57_to_q24 v = int_shr (int_shr v 32 +ℤ pos 1) 1

-- from the scale 2^24 to 2^57
abbrev pub q24_to_q57 : ℤ → ℤ
q24_to_q57 v = saturate_signed w64 (v *ℤ pos (2 ^ 33))

-- 2 to the power of a number of scale 2^24, itself of scale 2^24: 0 below 2^-64, and at most 2^47 - 1, which stands from 2^23 on
unfoldable pub bexp_q24 : ℤ → ℤ
bexp_q24 s =
    if int_lt s (pos (23 * 2 ^ 24)) then
    (if int_lt s (negsuc (64 * 2 ^ 24 - 1)) then pos 0
    else int_min (bexp64 (s *ℤ pos (2 ^ 33) +ℤ q57 (pos 24))) (pos (2 ^ 47 - 1)))
    else pos (2 ^ 47 - 1)
