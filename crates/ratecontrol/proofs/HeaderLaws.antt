-- What a header is known to hold.
use Rattle.std.proofs.Common.{◌≡◌, ℕ, zero, suc, ◌<◌, ◌≤◌, ◌==◌, Bool, true, false, ◌||◌, List, [], ◌∷◌, length, slice_index, refl, arith, IsFalse}
use Rattle.std.proofs.lemmas.Bool.{true≢false}
use Rattle.std.proofs.lemmas.Bool.Decides.{nat_tests}
use Rattle.pass_stats.specs.Grammar.{any_zero}

both_false : (a b : Bool) → (a || b) ≡ false → (a ≡ false) × (b ≡ false)
both_false true b e = absurd (true≢false e)
both_false false b e = (refl, e)

above_zero : (n : ℕ) → (n == 0) ≡ false → 1 ≤ n
above_zero n e = grind (arith, nat_tests)

-- no exponent is 0
pub exponents_positive : (exp : List ℕ) (j : ℕ) → IsFalse (any_zero exp) → j < length exp → 1 ≤ slice_index exp j
exponents_positive [] j none below = absurd (omega arith)
exponents_positive (e ∷ es) zero none below = above_zero e (both_false (e == 0) (any_zero es) none).0
exponents_positive (e ∷ es) (suc j) none below = exponents_positive es j (both_false (e == 0) (any_zero es) none).1 (omega arith)
