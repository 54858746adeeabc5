-- How large the results of the operators in 128 bits can be.
use Rattle.std.proofs.Common.{◌≡◌, refl, subst, max, ◌-◌, neg_ℤ, ℕ, zero, suc, ◌+◌, ◌*◌, ◌/◌, ◌<◌, ◌≤◌, ◌^◌, arith, ℤ, pos, negsuc, ◌+ℤ◌, ◌-ℤ◌, ◌*ℤ◌, ◌≤ℤ◌, FitsSigned, unsigned_abs}
use Rattle.std.specs.Int.{int_shr, w128}
use Rattle.std.specs.Prelude.{int_div}
use Rattle.std.proofs.Math.Nat.{mul-le-mul_left, pow-le-pow_right}
use Rattle.std.proofs.lemmas.Int.{ints}
use Rattle.std.proofs.lemmas.Nat.{div_below, pow_pos, pow-add}
use Rattle.fixed_log.specs.Within.{IsWithin}
use Rattle.fixed_log.proofs.Products.{product_within, abs_within, within_abs}

twice : (k : ℕ) → 2 ^ (k + 1) ≡ 2 ^ k + 2 ^ k
twice k = let sum = pow-add 2 k 1 in omega arith

power_mono : (i j : ℕ) → i ≤ j → 2 ^ i ≤ 2 ^ j
power_mono i j h = pow-le-pow_right {n = 2} (omega arith) {i = i} {j = j} h

pub sum_of_powers : (a b : ℤ) (i j : ℕ) → IsWithin (2 ^ i) a → IsWithin (2 ^ j) b → IsWithin (2 ^ (max i j + 1)) (a +ℤ b)
sum_of_powers a b i j p q =
    let first = power_mono i (max i j) (omega arith) in
    let second = power_mono j (max i j) (omega arith) in
    rw (twice (max i j)) (record { low = omega (arith, ints, p.low, q.low); high = omega (arith, ints, p.high, q.high) })

pub difference_of_powers : (a b : ℤ) (i j : ℕ) → IsWithin (2 ^ i) a → IsWithin (2 ^ j) b → IsWithin (2 ^ (max i j + 1)) (a -ℤ b)
difference_of_powers a b i j p q =
    let first = power_mono i (max i j) (omega arith) in
    let second = power_mono j (max i j) (omega arith) in
    rw (twice (max i j)) (record { low = omega (arith, ints, p.low, q.high); high = omega (arith, ints, p.high, q.low) })

-- a power of two in two parts
parts : (i j : ℕ) → j ≤ i → 2 ^ i ≡ 2 ^ (i - j) * 2 ^ j
parts i j h =
    let whole : i - j + j ≡ i = omega arith in
    let P : ℕ → Type 0 = λ k. 2 ^ k ≡ 2 ^ (i - j) * 2 ^ j in
    subst P whole (pow-add 2 (i - j) j)

-- a quotient of at most m * d is at most m
quotient_most : (a d m : ℕ) → 0 < d → a ≤ m * d → a / d ≤ m
quotient_most a d m p h =
    let below : a / d < m + 1 = div_below a d (m + 1) p (omega arith) in
    omega arith

-- and one of less than m * d is less than m
quotient_less : (a d m : ℕ) → 0 < d → suc a ≤ m * d → suc (a / d) ≤ m
quotient_less a d m p h =
    let below : a / d < m = div_below a d m p (omega arith) in
    omega arith

shifted_within : (a : ℤ) (m k : ℕ) → IsWithin (m * 2 ^ k) a → IsWithin m (int_shr a k)
shifted_within (pos n) m k h =
    let high = h.high in
    let most : n / 2 ^ k ≤ m = quotient_most n (2 ^ k) m (pow_pos k) (omega (arith, ints)) in
    record { low = omega (arith, ints); high = omega (arith, ints) }
shifted_within (negsuc n) m k h =
    let low = h.low in
    let most : suc (n / 2 ^ k) ≤ m = quotient_less n (2 ^ k) m (pow_pos k) (omega (arith, ints)) in
    record { low = omega (arith, ints); high = omega (arith, ints) }

unsigned_abs-neg : (n : ℕ) → unsigned_abs (neg_ℤ (pos n)) ≡ n
unsigned_abs-neg zero = refl
unsigned_abs-neg (suc n) = refl

quotient_abs : (a : ℤ) (d : ℕ) → unsigned_abs (int_div a (pos d)) ≡ unsigned_abs a / d
quotient_abs (pos n) d = refl
quotient_abs (negsuc n) d = unsigned_abs-neg (suc n / d)

quotient_within : (a d : ℤ) (m n : ℕ) → 0 < n → pos n ≤ℤ d → IsWithin (m * n) a → IsWithin m (int_div a d)
quotient_within a (pos d) m n p least h =
    let least_of : n ≤ d = omega (arith, ints) in
    let wide : m * n ≤ m * d = mul-le-mul_left m least_of in
    let size = abs_within a (m * n) h in
    within_abs (int_div a (pos d)) m (rw (quotient_abs a d) (quotient_most (unsigned_abs a) d m (omega arith) (omega arith)))
quotient_within a (negsuc d) m n p least h = absurd (omega (arith, ints))

pub shifted_power : (a : ℤ) (i k : ℕ) → k ≤ i → IsWithin (2 ^ i) a → IsWithin (2 ^ (i - k)) (int_shr a k)
shifted_power a i k h size =
    let P : ℕ → Type 0 = λ m. IsWithin m a in
    shifted_within a (2 ^ (i - k)) k (subst P (parts i k h) size)

pub quotient_of_powers : (a d : ℤ) (i j : ℕ) → j ≤ i → IsWithin (2 ^ i) a → pos (2 ^ j) ≤ℤ d → IsWithin (2 ^ (i - j)) (int_div a d)
quotient_of_powers a d i j h size least =
    let P : ℕ → Type 0 = λ m. IsWithin m a in
    quotient_within a d (2 ^ (i - j)) (2 ^ j) (pow_pos j) least (subst P (parts i j h) size)

-- a product of factors within powers of two
pub product_of_powers : (a b : ℤ) (i j : ℕ) → IsWithin (2 ^ i) a → IsWithin (2 ^ j) b → IsWithin (2 ^ (i + j)) (a *ℤ b)
product_of_powers a b i j p q = rw (pow-add 2 i j) (product_within a b (2 ^ i) (2 ^ j) p q)

pub fits_power : (z : ℤ) (k : ℕ) → k < 127 → IsWithin (2 ^ k) z → FitsSigned w128 z
fits_power z k small h =
    let most = power_mono k 126 (omega arith) in
    let low = h.low in
    let high = h.high in
    omega (arith, ints)
