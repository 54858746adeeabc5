-- How large what is counted can get.
use Rattle.std.proofs.Common.{◌≡◌, ℕ, suc, ◌-◌, ◌*◌, ◌/◌, ◌%◌, ◌≤◌, ◌^◌, Bool, true, false, cond, nat_le, List, [], ◌∷◌, length, map, arith, int_lt, ℤ, pos, negsuc, ◌+ℤ◌, ◌≤ℤ◌}
use Rattle.std.specs.List.{filter}
use Rattle.std.specs.Int.{int_min, saturate_signed, w32, w64}
use Rattle.std.proofs.lemmas.Int.{ints, clamps}
use Rattle.fixed_log.specs.Within.{IsWithin}
use Rattle.fixed_log.specs.Conversion.{bexp_q24}
use Rattle.fixed_log.specs.Exponential.{bexp64, scaled, mantissa}
use Rattle.pass_stats.specs.declared.metrics.RCFrameMetrics.{RCFrameMetrics}
use Rattle.metrics_window.specs.Tallies.{FAR, not_far, scale_of, sum_of, is_of, is_shown, shown_of, total}

pub fits_32 : (z : ℤ) → negsuc (2 ^ 31 - 1) ≤ℤ z → z ≤ℤ pos (2 ^ 31 - 1) → saturate_signed w32 z ≡ z
fits_32 (pos n) low high = omega (arith, ints)
fits_32 (negsuc n) low high = omega (arith, ints)

pub near_is : (z : ℤ) → IsWithin FAR z → not_far z ≡ z
near_is z h =
    let a = h.low in
    let b = h.high in
    omega (arith, ints, clamps)

saturated_within : (z : ℤ) → IsWithin (2 ^ 63) (saturate_signed w64 z)
saturated_within (pos n) = record { low = omega (arith, ints); high = omega (arith, ints) }
saturated_within (negsuc n) = record { low = omega (arith, ints); high = omega (arith, ints) }

one_of : (b : Bool) (x y : ℤ) (m : ℕ) → IsWithin m x → IsWithin m y → IsWithin m (cond b x y)
one_of true x y m p q = p
one_of false x y m p q = q

exponential_within : (v : ℤ) → IsWithin (2 ^ 63) (bexp64 v)
unfolding bexp64
exponential_within (pos v) =
    one_of (nat_le 63 (v / 2 ^ 57)) (pos (2 ^ 63 - 1)) (saturate_signed w64 (scaled (v / 2 ^ 57) (mantissa (v / 2 ^ 57) (v % 2 ^ 57)))) (2 ^ 63)
    (record { low = omega (arith, ints); high = omega (arith, ints) }) (saturated_within _)
exponential_within (negsuc v) = record { low = omega (arith, ints); high = omega (arith, ints) }

lesser_within : (x : ℤ) → IsWithin (2 ^ 63) x → IsWithin (2 ^ 63) (int_min x (pos (2 ^ 47 - 1)))
lesser_within x h =
    let a = h.low in
    let b = h.high in
    record { low = omega (arith, ints, clamps); high = omega (arith, ints, clamps) }

pub scale_within : (s : ℤ) → IsWithin (2 ^ 63) (bexp_q24 s)
unfolding bexp_q24
scale_within s =
    one_of (int_lt s (pos (23 * 2 ^ 24))) _ (pos (2 ^ 47 - 1)) (2 ^ 63)
    (one_of (int_lt s (negsuc (64 * 2 ^ 24 - 1))) (pos 0) _ (2 ^ 63) (record { low = omega (arith, ints); high = omega (arith, ints) }) (lesser_within _ (exponential_within _)))
    (record { low = omega (arith, ints); high = omega (arith, ints) })

pub length-filter : (p : RCFrameMetrics → Bool) (xs : List RCFrameMetrics) → length (filter p xs) ≤ length xs
length-filter p [] = omega arith
length-filter p (x ∷ xs) =
    let rest = length-filter p xs in
    elim (p x) as (λ b. length (cond b (x ∷ filter p xs) (filter p xs)) ≤ suc (length xs)) [ true ↦ omega arith | false ↦ omega arith ]

plus_within : (n : ℕ) (x z : ℤ) → IsWithin (2 ^ 63) x → IsWithin (2 ^ 63 * n) z → IsWithin (2 ^ 63 * suc n) (x +ℤ z)
plus_within n x z h k =
    let a = h.low in
    let b = h.high in
    let c = k.low in
    let d = k.high in
    record { low = omega (arith, ints); high = omega (arith, ints) }

more_within : (n : ℕ) (z : ℤ) → IsWithin (2 ^ 63 * n) z → IsWithin (2 ^ 63 * suc n) z
more_within n z k =
    let c = k.low in
    let d = k.high in
    record { low = omega (arith, ints); high = omega (arith, ints) }

pub sum_within : (k : ℕ) (xs : List RCFrameMetrics) → IsWithin (2 ^ 63 * length xs) (sum_of k xs)
sum_within k [] = record { low = omega (arith, ints); high = omega (arith, ints) }
sum_within k (x ∷ xs) =
    let rest = sum_within k xs in
    elim (is_of k x) as (λ b. IsWithin (2 ^ 63 * suc (length xs)) (total (map scale_of (cond b (x ∷ filter (is_of k) xs) (filter (is_of k) xs))))) [
      | true ↦ plus_within (length xs) (scale_of x) (sum_of k xs) (scale_within x.log_scale_q24) rest
      | false ↦ more_within (length xs) (sum_of k xs) rest
    ]

pub shown_low : (xs : List RCFrameMetrics) → pos 0 ≤ℤ shown_of xs
shown_low xs = omega (arith, ints)

pub shown_high : (xs : List RCFrameMetrics) → length xs ≤ 2 ^ 19 → shown_of xs ≤ℤ pos (2 ^ 19)
shown_high xs h =
    let k = length-filter is_shown xs in
    omega (arith, ints)
