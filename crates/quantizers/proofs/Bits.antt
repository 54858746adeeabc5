-- The logarithms of 16 bits.
use Rattle.std.proofs.Common.{ℕ, ◌<◌, ◌^◌, inl, inr, arith}
use Rattle.std.proofs.Math.Nat.{pow-le-pow_right}
use Rattle.std.proofs.lemmas.Nat.{leading_top}
use Rattle.std.proofs.lemmas.Bool.{cases_lt}
use Rattle.fixed_log.specs.Logarithm.{highest_bit}

-- the highest bit of a number of 16 bits is one of them
pub highest_bit_short : (n : ℕ) → 0 < n → n < 2 ^ 16 → highest_bit n < 16
unfolding highest_bit
highest_bit_short n p short =
    let t = leading_top 64 n p (omega arith) in
    let sum = t.1 in
    let least = t.2 in
    elim (cases_lt t.0 16) [
      | inl below ↦ omega arith
      | inr above ↦ let power = pow-le-pow_right {n = 2} (omega arith) {i = 16} {j = t.0} above in absurd (omega arith)
    ]
