-- The logarithm, by hyperbolic CORDIC: each turn takes a hyperbolic angle nearer to 0, and the angles add up to it.
use Rattle.std.specs.Prelude.{◌≡◌, ℕ, zero, suc, ◌+◌, ◌-◌, ◌*◌, ◌/◌, ◌^◌, ◌==◌, not, ℤ, pos, negsuc, ◌+ℤ◌, ◌-ℤ◌, ◌≤ℤ◌, ◌<ℤ◌, FitsSigned, if◌then◌else◌}
use Rattle.std.specs.Int.{int_shr, is_negative, leading_zeros, saturate_signed, w32, w64}
use Rattle.fixed_log.specs.Table.{angle_of, stepped, turns_from}

-- where the turns stand: cosh and sinh of what is left, and twice the angle so far over log(2), all of scale 2^61
pub record LogState : Type 0 where
  pub cosh : ℤ
  pub sinh : ℤ
  pub log : ℤ

-- turn i: a rotation that takes sinh towards 0, and adds to the logarithm or takes off what it turned by
abbrev pub log_turn : ℕ → LogState → LogState
log_turn i s = record {
  cosh = stepped (not (is_negative s.sinh)) s.cosh (int_shr s.sinh (i + 1));
  sinh = stepped (not (is_negative s.sinh)) s.sinh (int_shr s.cosh (i + 1));
  log = stepped (is_negative s.sinh) s.log (pos (angle_of i / 2 ^ i));
}

-- turns 0 to 3, 3 to 12, 12 to 39 and 39 to 61
unfoldable pub log64_runs : LogState → LogState
log64_runs s = turns_from log_turn 39 23 (turns_from log_turn 12 28 (turns_from log_turn 3 10 (turns_from log_turn 0 4 s)))

-- turns 0 to 3, 3 to 12 and 12 to 29
unfoldable pub log32_runs : LogState → LogState
log32_runs s = turns_from log_turn 12 18 (turns_from log_turn 3 10 (turns_from log_turn 0 4 s))

-- log2(w / 2^61) is twice the hyperbolic angle whose tangent is (w - 2^61) / (w + 2^61)
abbrev pub log_start : ℕ → LogState
log_start w = record { cosh = pos (w + 2 ^ 61); sinh = pos w -ℤ pos (2 ^ 61); log = pos 0 }

-- the place of the highest set bit
unfoldable pub highest_bit : ℕ → ℕ
highest_bit n = 63 - leading_zeros w64 n

-- n, shifted so that its highest set bit stands at 61
unfoldable pub aligned : ℕ → ℕ
aligned n = n * 2 ^ 61 / 2 ^ highest_bit n

-- the logarithm of w / 2^61, which lies from 1 to 2, of scale 2^57 and 2^24, rounded
unfoldable pub fraction_64 : ℕ → ℤ
fraction_64 w = int_shr ((log64_runs (log_start w)).log +ℤ pos 8) 4

unfoldable pub fraction_32 : ℕ → ℤ
fraction_32 w = int_shr ((log32_runs (log_start w)).log +ℤ pos (2 ^ 36)) 37

-- the base-2 logarithm of a positive n, of scale 2^57 and 2^24: a power of two has no fraction
unfoldable pub positive_log64 : ℕ → ℤ
positive_log64 n =
    if aligned n == 2 ^ 61 then pos (highest_bit n * 2 ^ 57)
    else saturate_signed w64 (pos (highest_bit n * 2 ^ 57) +ℤ fraction_64 (aligned n))

unfoldable pub positive_log32 : ℕ → ℤ
positive_log32 n =
    if aligned n == 2 ^ 61 then pos (highest_bit n * 2 ^ 24)
    else saturate_signed w32 (pos (highest_bit n * 2 ^ 24) +ℤ fraction_32 (aligned n))

-- the same of any n, and -1 where n has no logarithm
unfoldable pub blog64 : ℤ → ℤ
blog64 (negsuc m) = negsuc 0
blog64 (pos zero) = negsuc 0
blog64 (pos (suc m)) = positive_log64 (suc m)

unfoldable pub blog32 : ℕ → ℤ
blog32 zero = negsuc 0
blog32 (suc m) = positive_log32 (suc m)

-- the state fits its type
pub record IsFit (s : LogState) : Type 0 where
  pub cosh : FitsSigned w64 s.cosh
  pub sinh : FitsSigned w64 s.sinh
  pub log : FitsSigned w64 s.log

-- what the first turn begins with
pub record IsLogStart (s : LogState) : Type 0 where
  pub cosh_low : pos (2 ^ 62) ≤ℤ s.cosh
  pub cosh_high : s.cosh <ℤ pos (3 * 2 ^ 61)
  pub sinh_low : pos 0 ≤ℤ s.sinh
  pub sinh_high : s.sinh <ℤ pos (2 ^ 61)
  pub log : s.log ≡ pos 0
