-- Exact powers of two, and the ends of the domains, by computing.
use Rattle.std.proofs.Common.{◌≡◌, ℕ, ◌-◌, ◌*◌, ◌<◌, ◌^◌, true, refl, pos}
use Rattle.std.specs.Ordering.{int_eq}
use Rattle.std.specs.Int.Count.{count_leading_zeros}
use Rattle.std.proofs.lemmas.Bool.{agree_below, agree_below_at}
use Rattle.std.proofs.lemmas.Bool.Decides.{Decides-int_eq}
use Rattle.fixed_log.specs.Table.{angle_of, turns_from}
use Rattle.fixed_log.specs.Exponential.{bexp64, mantissa, scaled}
use Rattle.fixed_log.specs.Logarithm.{blog64, positive_log64, fraction_64, log64_runs, aligned, highest_bit}

exp_powers : agree_below (λ k. int_eq (bexp64 (pos (k * 2 ^ 57))) (pos (2 ^ k))) (λ _. true) 63 ≡ true
unfolding bexp64 mantissa scaled
exp_powers = refl

pub bexp64-power : (k : ℕ) → k < 63 → bexp64 (pos (k * 2 ^ 57)) ≡ pos (2 ^ k)
bexp64-power k h =
    (Decides-int_eq _ _).0 (agree_below_at (λ n. int_eq (bexp64 (pos (n * 2 ^ 57))) (pos (2 ^ n))) (λ _. true) 63 k exp_powers h)

log_powers : agree_below (λ k. int_eq (blog64 (pos (2 ^ k))) (pos (k * 2 ^ 57))) (λ _. true) 63 ≡ true
unfolding blog64 positive_log64 aligned highest_bit count_leading_zeros
log_powers = refl

pub blog64-power : (k : ℕ) → k < 63 → blog64 (pos (2 ^ k)) ≡ pos (k * 2 ^ 57)
blog64-power k h =
    (Decides-int_eq _ _).0 (agree_below_at (λ n. int_eq (blog64 (pos (2 ^ n))) (pos (n * 2 ^ 57))) (λ _. true) 63 k log_powers h)

pub blog64-greatest : blog64 (pos (2 ^ 63 - 1)) ≡ pos (63 * 2 ^ 57)
unfolding blog64 positive_log64 fraction_64 log64_runs aligned highest_bit count_leading_zeros turns_from angle_of
blog64-greatest = refl

pub ruleset exponential_laws = (bexp64-power)

pub ruleset logarithm_laws = (blog64-power, blog64-greatest)
