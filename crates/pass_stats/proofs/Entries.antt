-- A summary with one entry changed. For callers: name `one_entry` by `using(..)` on a function that changes an entry of a summary's lists.
use Rattle.std.proofs.Common.{◌≡◌, ℕ, zero, suc, ◌<◌, ◌==◌, Bool, false, ℤ, pos, ◌≤ℤ◌, List, [], ◌∷◌, slice_set, refl, arith}
use Rattle.std.proofs.lemmas.Int.{ints}
use Rattle.std.proofs.lemmas.Bool.Decides.{nat_tests}
use Rattle.std.specs.Prelude.{IsFalse}
use Rattle.std.specs.Int.{is_negative}
use Rattle.std.specs.List.{list_any}
use Rattle.pass_stats.specs.Grammar.{any_negative, any_zero}
use Rattle.pass_stats.proofs.Causes.{either_false}

none-set : {A : Type 0} (p : A → Bool) (xs : List A) (i : ℕ) (y : A) → list_any p xs ≡ false → p y ≡ false → list_any p (slice_set xs i y) ≡ false
none-set p [] i y none not_y = refl
none-set p (x ∷ xs) zero y none not_y =
    let both = either_false (p x) (list_any p xs) none in
    rw not_y both.1
none-set p (x ∷ xs) (suc i) y none not_y =
    let both = either_false (p x) (list_any p xs) none in
    rw both.0 (none-set p xs i y both.1 not_y)

pub exponent_set : (exps : List ℕ) (i e : ℕ) → IsFalse (any_zero exps) → 0 < e → IsFalse (any_zero (slice_set exps i e))
exponent_set exps i e none above =
    let other : (e == 0) ≡ false = grind (arith, nat_tests) in
    none-set (λ b. b == 0) exps i e none other

pub number_set : (xs : List ℤ) (i : ℕ) (z : ℤ) → IsFalse (any_negative xs) → pos 0 ≤ℤ z → IsFalse (any_negative (slice_set xs i z))
number_set xs i z none above =
    let other : is_negative z ≡ false = grind (arith, ints) in
    none-set is_negative xs i z none other

pub ruleset one_entry = (exponent_set, number_set)
