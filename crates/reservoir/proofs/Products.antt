-- Products and quotients of signed numbers.
use Rattle.std.proofs.Common.{◌≡◌, ℕ, zero, suc, ◌+◌, ◌/◌, refl, ◌≤ℤ◌, ◌<ℤ◌, int_div, neg_ℤ, ◌*◌, ◌≤◌, ◌<◌, ◌^◌, arith, ℤ, pos, negsuc, ◌*ℤ◌, unsigned_abs}
use Rattle.std.specs.Int.{int_min}
use Rattle.std.proofs.lemmas.Int.{ints, clamps}
use Rattle.std.proofs.Math.Nat.{mul-le-mul_left}
use Rattle.std.proofs.lemmas.Nat.{mul-le, div_below}
use Rattle.fixed_log.specs.Within.{IsWithin}

abs_within : (z : ℤ) (m : ℕ) → IsWithin m z → unsigned_abs z ≤ m
abs_within (pos n) m h = let high = h.high in omega (arith, ints)
abs_within (negsuc n) m h = let low = h.low in omega (arith, ints)

within_abs : (z : ℤ) (m : ℕ) → unsigned_abs z ≤ m → IsWithin m z
within_abs (pos n) m h = record { low = omega (arith, ints); high = omega (arith, ints) }
within_abs (negsuc n) m h = record { low = omega (arith, ints); high = omega (arith, ints) }

-- a quotient is as small as the divisor is great
abs_neg : (n : ℕ) → unsigned_abs (neg_ℤ (pos n)) ≡ n
abs_neg zero = refl
abs_neg (suc n) = refl

quotient_small : (a b m k : ℕ) → 0 < b → k ≤ b → a ≤ m * k → a / b ≤ m
quotient_small a b m k p above h =
    let most : m * k ≤ m * b = mul-le-mul_left m above in
    let below : a / b < m + 1 = div_below a b (m + 1) p (omega arith) in
    omega arith

abs_quot : (a : ℤ) (b : ℕ) → unsigned_abs (int_div a (pos b)) ≡ unsigned_abs a / b
abs_quot (pos a) b = refl
abs_quot (negsuc a) b = abs_neg (suc a / b)

quotient_within : (a b : ℤ) (m k : ℕ) → pos 1 ≤ℤ b → pos k ≤ℤ b → IsWithin (m * k) a → IsWithin m (int_div a b)
quotient_within a (pos b) m k p above h =
    within_abs (int_div a (pos b)) m
    (rw (abs_quot a b) (quotient_small (unsigned_abs a) b m k (omega (arith, ints)) (omega (arith, ints)) (abs_within a (m * k) h)))
quotient_within a (negsuc b) m k p above h = absurd (omega (arith, ints))

pub product_positive : (a b : ℤ) → pos 1 ≤ℤ a → pos 1 ≤ℤ b → pos 1 ≤ℤ (a *ℤ b)
product_positive (pos a) (pos b) h k = let least = mul-le 1 1 a b (omega (arith, ints)) (omega (arith, ints)) in omega (arith, ints)
product_positive (negsuc a) b h k = absurd (omega (arith, ints))
product_positive (pos a) (negsuc b) h k = absurd (omega (arith, ints))

-- the lesser of two numbers over the first of them, of scale 2^32
pub part_within : (part whole : ℤ) → pos 0 <ℤ part → pos 1 ≤ℤ whole → IsWithin (2 ^ 32) (int_div (int_min whole part *ℤ pos (2 ^ 32)) whole)
part_within part (pos k) p q =
    let least : pos 0 ≤ℤ int_min (pos k) part = omega (arith, ints, clamps) in
    let most : int_min (pos k) part ≤ℤ pos k = omega (arith, ints, clamps) in
    quotient_within (int_min (pos k) part *ℤ pos (2 ^ 32)) (pos k) (2 ^ 32) k q (omega (arith, ints))
    (record { low = omega (arith, ints); high = omega (arith, ints) })
part_within part (negsuc k) p q = absurd (omega (arith, ints))
