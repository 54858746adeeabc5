-- Products of signed numbers.
use Rattle.std.proofs.Common.{◌≡◌, ℕ, ◌*◌, ◌≤◌, ◌^◌, arith, ℤ, pos, negsuc, ◌*ℤ◌, unsigned_abs, FitsSigned, to_z, of_z}
use Rattle.std.specs.Int.{Width, w128}
use Rattle.std.proofs.lemmas.Int.{ints, to_z-of_z, unsigned_abs-mul}
use Rattle.std.proofs.lemmas.Nat.{mul-le}
use Rattle.fixed_log.specs.Within.{IsWithin}

pub abs_within : (z : ℤ) (m : ℕ) → IsWithin m z → unsigned_abs z ≤ m
abs_within (pos n) m h = let high = h.high in omega (arith, ints)
abs_within (negsuc n) m h = let low = h.low in omega (arith, ints)

pub within_abs : (z : ℤ) (m : ℕ) → unsigned_abs z ≤ m → IsWithin m z
within_abs (pos n) m h = record { low = omega (arith, ints); high = omega (arith, ints) }
within_abs (negsuc n) m h = record { low = omega (arith, ints); high = omega (arith, ints) }

pub product_within : (n t : ℤ) (p q : ℕ) → IsWithin p n → IsWithin q t → IsWithin (p * q) (n *ℤ t)
product_within n t p q a b =
    let product = mul-le (unsigned_abs n) (unsigned_abs t) p q (abs_within n p a) (abs_within t q b) in
    within_abs (n *ℤ t) (p * q) (rw (unsigned_abs-mul n t) product)

pub product_kept : (w : Width) (n t : ℤ) → FitsSigned w n → FitsSigned w t → FitsSigned w (n *ℤ t)
    → to_z w (of_z w (to_z w (of_z w n) *ℤ to_z w (of_z w t))) ≡ n *ℤ t
product_kept w n t a b d =
    let e : to_z w (of_z w n) ≡ n = to_z-of_z w n a in
    let f : to_z w (of_z w t) ≡ t = to_z-of_z w t b in
    rw (e, f) (to_z-of_z w (n *ℤ t) d)

pub kept : (w : Width) (z : ℤ) → FitsSigned w z → to_z w (of_z w z) ≡ z
kept w z h = to_z-of_z w z h

pub fits_128 : (m : ℕ) (z : ℤ) → m ≤ 2 ^ 66 → IsWithin m z → FitsSigned w128 z
fits_128 m z small h =
    let low = h.low in
    let high = h.high in
    omega (arith, ints)
