-- What the first element that passes a test has to do with a filter and with counts.
use Rattle.std.proofs.Common.{◌≡◌, ℕ, ◌+◌, ◌≤◌, Bool, true, false, cond, eqb, ltb, not, List, [], ◌∷◌, length, drop, filter, None, Some, refl, sym, ap, ◌∙◌, inl, inr, arith}
use Rattle.std.specs.List.{find, count_by, sum_by, slice_get}
use Rattle.std.proofs.lemmas.Bool.{cases_Bool, cond-true, cond-false}
use Rattle.std.proofs.lemmas.Bool.Decides.{nat_tests}
use Rattle.std.proofs.lemmas.List.Filters.{sum_by-filter_both}
use Rattle.std.proofs.lemmas.List.Sums.{length-filter, sum_by-cons}

-- it is the first that the filter keeps
find-first : {X : Type 0} (p : X → Bool) (xs : List X) → find p xs ≡ slice_get (filter p xs) 0
find-first p [] = refl
find-first {X} p (x ∷ xs) =
    elim (p x) as (λ b. cond b (Some x) (find p xs) ≡ slice_get (cond b (x ∷ filter p xs) (filter p xs)) 0) [
      | true ↦ refl
      | false ↦ find-first p xs
    ]

pub find_passes : {X : Type 0} (p : X → Bool) (xs : List X) (x : X) → find p xs ≡ Some x → p x ≡ true
find_passes p [] x found = absurd (cc)
find_passes {X} p (y ∷ ys) x found =
    elim (cases_Bool (p y)) [
      | inl passes ↦
          let same : y ≡ x = cc (sym (cond-true (p y) (Some y) (find p ys) passes)) in
          ap p (sym same) ∙ passes
      | inr fails ↦ find_passes p ys x (sym (cond-false (p y) (Some y) (find p ys) fails) ∙ found)
    ]

-- a list of at most one element with this first element is this element
only : {X : Type 0} (xs : List X) (x : X) → slice_get xs 0 ≡ Some x → length xs ≤ 1 → xs ≡ x ∷ []
only [] x first short = absurd (cc)
only {X} (y ∷ []) x first short = let same : y ≡ x = cc in ap (λ z. z ∷ []) same
only (y ∷ z ∷ zs) x first short = absurd (omega arith)

-- without the one element that passes, a sum is less by what that element adds
pub sum_by-without : {X : Type 0} (p : X → Bool) (f : X → ℕ) (xs : List X) (x : X) → find p xs ≡ Some x → count_by p xs ≤ 1 → sum_by f (filter (λ y. not (p y)) xs) + f x ≡ sum_by f xs
sum_by-without {X} p f xs x found few =
    let one : filter p xs ≡ x ∷ [] = only (filter p xs) x (sym (find-first p xs) ∙ found) (omega (arith, length-filter p xs)) in
    let kept : sum_by f (filter p xs) ≡ 0 + f x = ap (sum_by f) one in
    omega (arith, kept, sum_by-filter_both p (λ y. not (p y)) (λ _. refl) f xs)

-- where none passes the count is 0
pub count_by-none : {X : Type 0} (p : X → Bool) (xs : List X) → find p xs ≡ None → count_by p xs ≡ 0
count_by-none p xs nowhere = sym (length-filter p xs) ∙ empty (filter p xs) (sym (find-first p xs) ∙ nowhere)
  where
    empty : {X : Type 0} (ys : List X) → slice_get ys 0 ≡ None → length ys ≡ 0
    empty [] first = refl
    empty (y ∷ ys) first = absurd (cc)

-- where one passes the count isn't
pub count_by-some : {X : Type 0} (p : X → Bool) (xs : List X) (x : X) → find p xs ≡ Some x → 1 ≤ count_by p xs
count_by-some p xs x found = omega (arith, length-filter p xs, some (filter p xs) (sym (find-first p xs) ∙ found))
  where
    some : {X : Type 0} {x : X} (ys : List X) → slice_get ys 0 ≡ Some x → 1 ≤ length ys
    some [] first = absurd (cc)
    some (y ∷ ys) first = omega arith

-- the first element and the others
pub sum_by-first : {X : Type 0} (f : X → ℕ) (xs : List X) (x : X) → slice_get xs 0 ≡ Some x → f x + sum_by f (drop 1 xs) ≡ sum_by f xs
sum_by-first f [] x first = absurd (cc)
sum_by-first f (y ∷ ys) x first = let same : y ≡ x = cc in ap (λ z. f z + sum_by f ys) (sym same) ∙ sym (sum_by-cons f y ys)

-- 1 where a test passes
abbrev pub one_if : Bool → ℕ
one_if b = cond b 1 0

-- one number more below the next number
pub below_next : (job next : ℕ) → one_if (ltb job (next + 1)) ≡ one_if (ltb job next) + one_if (eqb next job)
below_next job next = grind (arith, nat_tests)

pub at_most_one : (b : Bool) → one_if b ≤ 1
at_most_one true = omega arith
at_most_one false = omega arith
