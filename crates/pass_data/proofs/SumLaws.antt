-- Sums of scales are not negative.
use Rattle.std.proofs.Common.{◌≡◌, ℕ, zero, suc, Bool, true, false, ◌||◌, List, [], ◌∷◌, refl, arith, ℤ, pos, negsuc, ◌≤ℤ◌, IsFalse}
use Rattle.std.proofs.lemmas.Int.{ints}
use Rattle.std.proofs.lemmas.Bool.{true≢false}
use Rattle.std.specs.Int.{is_negative}
use Rattle.pass_stats.specs.Grammar.{any_negative}
use Rattle.metrics_window.specs.Tallies.{number_at}

both_false : (a b : Bool) → (a || b) ≡ false → (a ≡ false) × (b ≡ false)
both_false true b e = absurd (true≢false e)
both_false false b e = (refl, e)

not_below : (z : ℤ) → is_negative z ≡ false → pos 0 ≤ℤ z
not_below (pos n) e = omega (arith, ints)
not_below (negsuc n) e = absurd (true≢false e)

pub not_negative : (xs : List ℤ) (i : ℕ) → IsFalse (any_negative xs) → pos 0 ≤ℤ number_at xs i
not_negative [] i none = omega (arith, ints)
not_negative (x ∷ xs) zero none = not_below x (both_false (is_negative x) (any_negative xs) none).0
not_negative (x ∷ xs) (suc i) none = not_negative xs i (both_false (is_negative x) (any_negative xs) none).1

pub ruleset sum_laws = (not_negative)
