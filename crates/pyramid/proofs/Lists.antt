-- Filters, counts and sorted copies of lists.
use Rattle.std.proofs.Common.{◌≡◌, ℕ, ◌+◌, ◌<◌, Bool, true, false, cond, eqb, leb, ◌&&◌, List, [], ◌∷◌, ◌++◌, filter, refl, sym, ap, ap₂, ◌∙◌, inl, inr, arith, zero, suc}
use Rattle.std.specs.List.{list_all, count_by, range_with_len}
use Rattle.std.proofs.lemmas.Bool.{and_parts, and_from, cases_Bool, cond-true, cond-false, eqb-true}
use Rattle.std.proofs.lemmas.List.Sums.{sum_by-append, sum_by-cons}

-- 1 where a test passes
abbrev pub digit : Bool → ℕ
digit b = cond b 1 0

pub count-cons : {X : Type 0} (p : X → Bool) (x : X) (xs : List X) → count_by p (x ∷ xs) ≡ cond (p x) 1 0 + count_by p xs
count-cons p x xs = sum_by-cons (λ y. cond (p y) 1 0) x xs

pub count-append : {X : Type 0} (p : X → Bool) (xs ys : List X) → count_by p (xs ++ ys) ≡ count_by p xs + count_by p ys
count-append p xs ys = sum_by-append (λ y. cond (p y) 1 0) xs ys

pub count_same : {X : Type 0} (p q : X → Bool) → ((x : X) → p x ≡ q x) → (xs : List X) → count_by p xs ≡ count_by q xs
count_same p q same [] = refl
count_same p q same (x ∷ xs) =
    let one : digit (p x) ≡ digit (q x) = ap digit (same x) in
    omega (arith, one, count_same p q same xs, count-cons p x xs, count-cons q x xs)

-- what passes one test passes another
pub all_weaker : {X : Type 0} (p q : X → Bool) → ((x : X) → p x ≡ true → q x ≡ true) → (xs : List X) → list_all p xs ≡ true → list_all q xs ≡ true
all_weaker p q h [] all = refl
all_weaker p q h (x ∷ xs) all =
    let parts = and_parts (p x) (list_all p xs) all in
    and_from (q x) (list_all q xs) (h x parts.0) (all_weaker p q h xs parts.1)

pub all-filter : {X : Type 0} (p q : X → Bool) (xs : List X) → list_all p xs ≡ true → list_all p (filter q xs) ≡ true
all-filter p q [] h = refl
all-filter {X} p q (x ∷ xs) h =
    let parts = and_parts (p x) (list_all p xs) h in
    let rest = all-filter p q xs parts.1 in
    elim (cases_Bool (q x)) [
      | inl passes ↦ ap (list_all p) (cond-true (q x) (x ∷ filter q xs) (filter q xs) passes) ∙ and_from (p x) (list_all p (filter q xs)) parts.0 rest
      | inr fails ↦ ap (list_all p) (cond-false (q x) (x ∷ filter q xs) (filter q xs) fails) ∙ rest
    ]

pub all-append : {X : Type 0} (p : X → Bool) (xs ys : List X) → list_all p (xs ++ ys) ≡ (list_all p xs && list_all p ys)
all-append p [] ys = refl
all-append p (x ∷ xs) ys = ap (λ b. p x && b) (all-append p xs ys) ∙ and_assoc (p x) (list_all p xs) (list_all p ys)
  where
    and_assoc : (a b c : Bool) → (a && (b && c)) ≡ (a && b && c)
    and_assoc true b c = refl
    and_assoc _ b c = refl

-- two tests that agree where a third passes
pub filter_same : {X : Type 0} (t p q : X → Bool) → ((x : X) → t x ≡ true → p x ≡ q x) → (xs : List X) → list_all t xs ≡ true → filter p xs ≡ filter q xs
filter_same t p q same [] all = refl
filter_same {X} t p q same (x ∷ xs) all =
    let parts = and_parts (t x) (list_all t xs) all in
    ap₂ (λ (b : Bool) (rest : List X). cond b (x ∷ rest) rest) (same x parts.0) (filter_same t p q same xs parts.1)

pub filter_all : {X : Type 0} (p : X → Bool) (xs : List X) → list_all p xs ≡ true → filter p xs ≡ xs
filter_all p [] all = refl
filter_all {X} p (x ∷ xs) all =
    let parts = and_parts (p x) (list_all p xs) all in
    ap₂ (λ (b : Bool) (rest : List X). cond b (x ∷ rest) rest) parts.0 (filter_all p xs parts.1)

pub all-passes : {X : Type 0} (p : X → Bool) (xs : List X) → list_all p (filter p xs) ≡ true
all-passes p [] = refl
all-passes p (x ∷ xs) = elim (cases_Bool (p x)) [
  | inl passes ↦ ap (list_all p) (cond-true (p x) (x ∷ filter p xs) (filter p xs) passes) ∙ and_from (p x) (list_all p (filter p xs)) passes (all-passes p xs)
  | inr fails ↦ ap (list_all p) (cond-false (p x) (x ∷ filter p xs) (filter p xs) fails) ∙ all-passes p xs
]

-- a test that passes on a range, at each of its numbers
pub all_range : (p : ℕ → Bool) (low count : ℕ) → list_all p (range_with_len low count) ≡ true → (k : ℕ) → k < count → p (low + k) ≡ true
all_range p low zero all k h = absurd (omega arith)
all_range p low (suc count) all zero h =
    let e : low + zero ≡ low = omega arith in
    ap p e ∙ (and_parts (p low) (list_all p (range_with_len (low + 1) count)) all).0
all_range p low (suc count) all (suc k) h =
    let e : low + suc k ≡ low + 1 + k = omega arith in
    ap p e ∙ all_range p (low + 1) count (and_parts (p low) (list_all p (range_with_len (low + 1) count)) all).1 k (omega arith)

-- whether two lists of numbers are one
abbrev pub same_list : List ℕ → List ℕ → Bool
same_list [] [] = true
same_list (x ∷ xs) (y ∷ ys) = eqb x y && same_list xs ys
same_list _ _ = false

pub same_list-same : (xs ys : List ℕ) → same_list xs ys ≡ true → xs ≡ ys
same_list-same [] [] h = refl
same_list-same [] (y ∷ ys) h = absurd (cc)
same_list-same (x ∷ xs) [] h = absurd (cc)
same_list-same (x ∷ xs) (y ∷ ys) h =
    let parts = and_parts (eqb x y) (same_list xs ys) h in
    ap₂ (λ (a : ℕ) (s : List ℕ). a ∷ s) (eqb-true x y parts.0) (same_list-same xs ys parts.1)

-- the same numbers in rising order
abbrev insert : ℕ → List ℕ → List ℕ
insert x [] = x ∷ []
insert x (y ∷ ys) = cond (leb x y) (x ∷ y ∷ ys) (y ∷ insert x ys)

abbrev pub sorted : List ℕ → List ℕ
sorted [] = []
sorted (x ∷ xs) = insert x (sorted xs)

count-insert : (p : ℕ → Bool) (x : ℕ) (xs : List ℕ) → count_by p (insert x xs) ≡ count_by p (x ∷ xs)
count-insert p x [] = refl
count-insert p x (y ∷ ys) = elim (cases_Bool (leb x y)) [
  | inl passes ↦ ap (count_by p) (cond-true (leb x y) (x ∷ y ∷ ys) (y ∷ insert x ys) passes)
  | inr fails ↦
      let rest = count-insert p x ys in
      let swapped : count_by p (y ∷ insert x ys) ≡ count_by p (x ∷ y ∷ ys) = omega (arith, rest, count-cons p y (insert x ys), count-cons p x (y ∷ ys), count-cons p y ys, count-cons p x ys) in
      ap (count_by p) (cond-false (leb x y) (x ∷ y ∷ ys) (y ∷ insert x ys) fails) ∙ swapped
]

pub count-sorted : (p : ℕ → Bool) (xs : List ℕ) → count_by p (sorted xs) ≡ count_by p xs
count-sorted p [] = refl
count-sorted p (x ∷ xs) =
    count-insert p x (sorted xs) ∙ count-cons p x (sorted xs) ∙ ap (λ (n : ℕ). cond (p x) 1 0 + n) (count-sorted p xs) ∙ sym (count-cons p x xs)
