-- The place of the highest set bit, from the count of leading zeros.
use Rattle.std.proofs.Common.{◌≡◌, ℕ, ◌-◌, ◌*◌, ◌<◌, ◌≤◌, ◌^◌, arith}
use Rattle.std.specs.Int.Count.{count_leading_zeros}
use Rattle.std.proofs.Math.Nat.{pow-suc}
use Rattle.fixed_log.specs.Logarithm.{highest_bit}
use Rattle.std.proofs.lemmas.Nat.{leading_top}

pub record Top (n k : ℕ) : Type 0 where
  pub below : k < 64
  pub least : 2 ^ k ≤ n
  pub most : n < 2 * 2 ^ k

pub top_from_zeros : (n : ℕ) → 0 < n → n < 2 ^ 64 → (count_leading_zeros 64 n ≤ 63) × Top n (63 - count_leading_zeros 64 n)
top_from_zeros n p fits =
    let t = leading_top 64 n p fits in
    let sum = t.1 in
    let e : 63 - count_leading_zeros 64 n ≡ t.0 = omega arith in
    let twice = pow-suc 2 t.0 in
    let least = t.2 in
    let most = t.3 in
    (omega arith, rw e (record { below = omega arith; least = least; most = omega arith }))

-- the highest set bit is where the powers of two say
pub highest_bit_top : (n : ℕ) → 0 < n → n < 2 ^ 64 → Top n (highest_bit n)
unfolding highest_bit
highest_bit_top n p fits = (top_from_zeros n p fits).1
