-- Products of signed numbers.
use Rattle.std.proofs.Common.{◌≡◌, ℕ, zero, suc, ◌+◌, ◌/◌, refl, ◌≤ℤ◌, int_div, neg_ℤ, ◌*◌, ◌≤◌, ◌<◌, ◌^◌, arith, ℤ, pos, negsuc, ◌*ℤ◌, unsigned_abs, FitsSigned}
use Rattle.std.specs.Int.{w128}
use Rattle.std.proofs.lemmas.Int.{ints, unsigned_abs-mul}
use Rattle.std.proofs.Math.Nat.{mul-le-mul_left}
use Rattle.std.proofs.lemmas.Nat.{mul-le, div_below}
use Rattle.fixed_log.specs.Within.{IsWithin}

pub abs_within : (z : ℤ) (m : ℕ) → IsWithin m z → unsigned_abs z ≤ m
abs_within (pos n) m h = let high = h.high in omega (arith, ints)
abs_within (negsuc n) m h = let low = h.low in omega (arith, ints)

pub within_abs : (z : ℤ) (m : ℕ) → unsigned_abs z ≤ m → IsWithin m z
within_abs (pos n) m h = record { low = omega (arith, ints); high = omega (arith, ints) }
within_abs (negsuc n) m h = record { low = omega (arith, ints); high = omega (arith, ints) }

pub product_within : (a b : ℤ) (m n : ℕ) → IsWithin m a → IsWithin n b → IsWithin (m * n) (a *ℤ b)
product_within a b m n h k =
    let product = mul-le (unsigned_abs a) (unsigned_abs b) m n (abs_within a m h) (abs_within b n k) in
    within_abs (a *ℤ b) (m * n) (rw (unsigned_abs-mul a b) product)

pub fits_128 : (m : ℕ) (z : ℤ) → m < 2 ^ 127 → IsWithin m z → FitsSigned w128 z
fits_128 m z small h = record { sfits = grind (arith, ints, abs_within z m h) }

-- a quotient is as small as the divisor is great
abs_neg : (n : ℕ) → unsigned_abs (neg_ℤ (pos n)) ≡ n
abs_neg zero = refl
abs_neg (suc n) = refl

quotient_small : (a b m k : ℕ) → 0 < b → k ≤ b → a ≤ m * k → a / b ≤ m
quotient_small a b m k p above h =
    let most : m * k ≤ m * b = mul-le-mul_left m above in
    let below : a / b < m + 1 = div_below a b (m + 1) p (omega arith) in
    omega arith

abs_quot : (a : ℤ) (b : ℕ) → unsigned_abs (int_div a (pos b)) ≡ unsigned_abs a / b
abs_quot (pos a) b = refl
abs_quot (negsuc a) b = abs_neg (suc a / b)

pub quotient_within : (a b : ℤ) (m k : ℕ) → pos 1 ≤ℤ b → pos k ≤ℤ b → IsWithin (m * k) a → IsWithin m (int_div a b)
quotient_within a (pos b) m k p above h =
    within_abs (int_div a (pos b)) m
    (rw (abs_quot a b) (quotient_small (unsigned_abs a) b m k (omega (arith, ints)) (omega (arith, ints)) (abs_within a (m * k) h)))
quotient_within a (negsuc b) m k p above h = absurd (omega (arith, ints))
