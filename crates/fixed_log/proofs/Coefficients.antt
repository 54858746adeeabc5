-- Bounds on what the filter's coefficients are made of.
use Rattle.std.proofs.Common.{ℕ, ◌+◌, ◌*◌, ◌/◌, ◌<◌, ◌≤◌, ◌^◌, arith, pos, ◌-ℤ◌, ◌*ℤ◌, ◌⊎◌, inl, inr, unsigned_abs}
use Rattle.std.proofs.Math.Nat.{div-mul-le_self, mul-le-mul_left, mul-le-mul_right}
use Rattle.std.proofs.lemmas.Nat.{le-div, mul-le, mul-lt, div_below}
use Rattle.std.proofs.lemmas.Bool.{cases_lt}
use Rattle.std.proofs.lemmas.Int.{ints, unsigned_abs-mul}
use Rattle.fixed_log.proofs.Products.{abs_within, within_abs}
use Rattle.fixed_log.specs.Bessel.{squared, divisor, gain, inverse}
use Rattle.fixed_log.specs.Within.{IsWithin}

pub record InBounds (n : ℕ) : Type 0 where
  pub low : 1 ≤ n
  pub high : n < 2 ^ 46

pub squared_bounds : (w : ℕ) → 1 ≤ w → w < 2 ^ 22 → InBounds (squared w)
squared_bounds w a b =
    let least = mul-le 1 1 w w a a in
    let most = mul-lt w w (2 ^ 22) (2 ^ 22) b b in
    record { low = omega arith; high = omega arith }

-- n / d is at most m where n is at most m * d
quotient_high : (n d m : ℕ) → 0 < d → n ≤ m * d → n / d ≤ m
quotient_high n d m p h =
    let below : n / d < m + 1 = div_below n d (m + 1) p (omega arith) in
    omega arith

pub gain_high : (s d : ℕ) → 2 ^ 15 ≤ d → s ≤ 2 ^ 9 * d → s * 2 ^ 23 / d ≤ 2 ^ 32
gain_high s d a b = quotient_high (s * 2 ^ 23) d (2 ^ 32) (omega arith) (omega arith)

-- a product of two quotients, of and by one number
product_high : (A I s d : ℕ) → 2 ^ 15 ≤ d → A * d ≤ s * 2 ^ 23 → I * s ≤ 2 ^ 48 → A * I ≤ 2 ^ 56
product_high A I s d b over under =
    let h1 : (A * I) * 2 ^ 15 ≤ (A * I) * d = mul-le-mul_left (A * I) b in
    let h2 : (A * d) * I ≤ (s * 2 ^ 23) * I = mul-le-mul_right I over in
    let h3 : (I * s) * 2 ^ 23 ≤ 2 ^ 48 * 2 ^ 23 = mul-le-mul_right (2 ^ 23) under in
    omega arith

divisor_low : (w : ℕ) → 2 ^ 15 ≤ divisor w
unfolding divisor
divisor_low w = le-div (2 ^ 15) _ (2 ^ 9) (omega arith) (omega arith)

pub gain_inverse : (w : ℕ) → gain w * inverse w ≤ 2 ^ 56
unfolding gain inverse
gain_inverse w =
    product_high (squared w * 2 ^ 23 / divisor w) (2 ^ 48 / squared w) (squared w) (divisor w) (divisor_low w)
    (div-mul-le_self (squared w * 2 ^ 23) (divisor w)) (div-mul-le_self (2 ^ 48) (squared w))

-- two natural numbers differ by no more than the larger of them
difference_within : (a b m : ℕ) → a ≤ m → b ≤ m → IsWithin m (pos a -ℤ pos b)
difference_within a b m p q = record { low = omega (arith, ints); high = omega (arith, ints) }

feedback_abs : (A I d : ℕ) → A ≤ 2 ^ 32 → A * I ≤ 2 ^ 56 → (d ≤ I) ⊎ (d ≤ 2 ^ 24) → 2 * A * d ≤ 2 ^ 57
feedback_abs A I d p q (inl h) = omega (arith, mul-le-mul_left A h)
feedback_abs A I d p q (inr h) = omega (arith, mul-le-mul_left A h)

difference_cases : (I : ℕ) → (unsigned_abs (pos I -ℤ pos (2 ^ 24)) ≤ I) ⊎ (unsigned_abs (pos I -ℤ pos (2 ^ 24)) ≤ 2 ^ 24)
difference_cases I = elim (cases_lt I (2 ^ 24)) [
  | inl below ↦ inr (abs_within _ (2 ^ 24) (difference_within I (2 ^ 24) (2 ^ 24) (omega arith) (omega arith)))
  | inr above ↦ inl (abs_within _ I (difference_within I (2 ^ 24) I (omega arith) above))
]

pub feedback_within : (w : ℕ) → gain w ≤ 2 ^ 32 → IsWithin (2 ^ 57) (pos (2 * gain w) *ℤ (pos (inverse w) -ℤ pos (2 ^ 24)))
feedback_within w h =
    let d = pos (inverse w) -ℤ pos (2 ^ 24) in
    within_abs _ (2 ^ 57) (rw (unsigned_abs-mul (pos (2 * gain w)) d)
    (feedback_abs (gain w) (inverse w) (unsigned_abs d) h (gain_inverse w) (difference_cases (inverse w))))
