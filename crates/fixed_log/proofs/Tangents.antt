-- The table of tangents rises.
use Rattle.std.proofs.Common.{◌≡◌, ℕ, ◌+◌, ◌<◌, ◌≤◌, ◌^◌, true, nat_le, get_or, refl, arith}
use Rattle.std.proofs.lemmas.Bool.{agree_below, agree_below_at, leb-true}
use Rattle.fixed_log.specs.Bessel.{tangents, tangent}
use Rattle.fixed_log.proofs.Angles.{get_or_below}

pub tangent_small : (i : ℕ) → get_or tangents i 0 < 2 ^ 16
tangent_small i = get_or_below (2 ^ 16) (omega arith) tangents refl i

pub tangent_is : (i : ℕ) → get_or tangents i 0 ≡ tangent i
unfolding tangent
tangent_is i = refl

rises : agree_below (λ i. nat_le (tangent i) (tangent (i + 1))) (λ i. true) 17 ≡ true
unfolding tangent
rises = refl

pub tangent_rises : (i : ℕ) → i ≤ 16 → tangent i ≤ tangent (i + 1)
tangent_rises i h = leb-true _ _ (agree_below_at (λ i. nat_le (tangent i) (tangent (i + 1))) (λ i. true) 17 i rises (omega arith))
