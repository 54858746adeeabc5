-- Products of signed numbers.
use Rattle.std.proofs.Common.{ℕ, ◌*◌, ◌≤◌, arith, ℤ, pos, negsuc, ◌*ℤ◌, unsigned_abs}
use Rattle.std.proofs.lemmas.Int.{ints, unsigned_abs-mul}
use Rattle.std.proofs.lemmas.Nat.{mul-le}
use Rattle.fixed_log.specs.Within.{IsWithin}

pub abs_within : (z : ℤ) (m : ℕ) → IsWithin m z → unsigned_abs z ≤ m
abs_within (pos n) m h = let high = h.high in omega (arith, ints)
abs_within (negsuc n) m h = let low = h.low in omega (arith, ints)

pub within_abs : (z : ℤ) (m : ℕ) → unsigned_abs z ≤ m → IsWithin m z
within_abs (pos n) m h = record { low = omega (arith, ints); high = omega (arith, ints) }
within_abs (negsuc n) m h = record { low = omega (arith, ints); high = omega (arith, ints) }

pub product_within : (a b : ℤ) (m n : ℕ) → IsWithin m a → IsWithin n b → IsWithin (m * n) (a *ℤ b)
product_within a b m n h k =
    let product = mul-le (unsigned_abs a) (unsigned_abs b) m n (abs_within a m h) (abs_within b n k) in
    within_abs (a *ℤ b) (m * n) (rw (unsigned_abs-mul a b) product)
