-- Bounds on the steps of Horner's rule.
use Rattle.std.proofs.Common.{ℕ, ◌*◌, ◌≤◌, ◌^◌, arith}
use Rattle.std.proofs.lemmas.Nat.{mul-le}
use Rattle.fixed_log.specs.Polynomial.{horner}
use Rattle.fixed_log.proofs.Quotients.{div_mono}

pub horner_bounds : (n t c m : ℕ) → n ≤ 16368 → t ≤ m → horner n t c ≤ horner 16368 m c
horner_bounds n t c m a b = omega (arith, div_mono (n * t) (16368 * m) (2 ^ 15) (omega arith) (mul-le n t 16368 m a b))

-- the steps of two to a fraction stay small
pub record StaySmall (n : ℕ) : Type 0 where
  pub first : horner n 3548 6817 ≤ 8589
  pub second : horner n (horner n 3548 6817) 15823 ≤ 20113
  pub third : horner n (horner n (horner n 3548 6817) 15823) 22708 ≤ 32754
  pub last : horner n (horner n (horner n (horner n 3548 6817) 15823) 22708) 16384 ≤ 32745

pub exp_steps : (n : ℕ) → n ≤ 16368 → StaySmall n
exp_steps n h =
    let a = horner_bounds n 3548 6817 3548 h (omega arith) in
    let b = horner_bounds n (horner n 3548 6817) 15823 8589 h a in
    let d = horner_bounds n (horner n (horner n 3548 6817) 15823) 22708 20113 h b in
    let e = horner_bounds n (horner n (horner n (horner n 3548 6817) 15823) 22708) 16384 32754 h d in
    record { first = a; second = b; third = d; last = e }
