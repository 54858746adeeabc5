-- Lists that begin others, and the elements before the first that fails a test.
use Rattle.std.proofs.Common.{◌≡◌, ℕ, ◌+◌, ◌<◌, ◌≤◌, Bool, true, false, List, [], ◌∷◌, ◌++◌, map, refl, sym, ap, ap₂, ◌∙◌, subst, inl, inr, append_assoc, append-nil, arith, zero, suc}
use Rattle.std.specs.Prelude.{take_while}
use Rattle.std.specs.List.{flat_map, list_all, range_with_len}
use Rattle.std.proofs.lemmas.Bool.{cases_Bool, cond-true, cond-false, and_parts, and_from}
use Rattle.std.proofs.lemmas.List.Sums.{take_while-cons}
use Rattle.pyramid.specs.Begins.{Begins}

pub begins_nothing : {X : Type 0} (all : List X) → Begins [] all
begins_nothing all = (all, refl)

pub begins_same : {X : Type 0} (all : List X) → Begins all all
begins_same all = ([], sym (append-nil all))

pub begins_then : {X : Type 0} (a b c : List X) → Begins a b → Begins b c → Begins a c
begins_then a b c ab bc = (ab.0 ++ bc.0, bc.1 ∙ ap (λ s. s ++ bc.0) ab.1 ∙ append_assoc a ab.0 bc.0)

pub begins_more : {X : Type 0} (front all more : List X) → Begins front all → Begins front (all ++ more)
begins_more front all more b = (b.0 ++ more, ap (λ s. s ++ more) b.1 ∙ append_assoc front b.0 more)

pub begins_behind : {X : Type 0} (xs front all : List X) → Begins front all → Begins (xs ++ front) (xs ++ all)
begins_behind xs front all b = (b.0, ap (λ s. xs ++ s) b.1 ∙ sym (append_assoc xs front b.0))

pub flat_map-append : {X A : Type 0} (f : X → List A) (xs ys : List X) → flat_map f (xs ++ ys) ≡ flat_map f xs ++ flat_map f ys
flat_map-append f [] ys = refl
flat_map-append f (x ∷ xs) ys = ap (λ s. f x ++ s) (flat_map-append f xs ys) ∙ sym (append_assoc (f x) (flat_map f xs) (flat_map f ys))

pub begins_joined : {X A : Type 0} (f : X → List A) (front all : List X) → Begins front all → Begins (flat_map f front) (flat_map f all)
begins_joined f front all b = (flat_map f b.0, ap (flat_map f) b.1 ∙ flat_map-append f front b.0)

pub take_while-yes : {X : Type 0} (p : X → Bool) (x : X) (xs : List X) → p x ≡ true → take_while p (x ∷ xs) ≡ x ∷ take_while p xs
take_while-yes p x xs h = take_while-cons p x xs ∙ cond-true (p x) (x ∷ take_while p xs) [] h

pub take_while-no : {X : Type 0} (p : X → Bool) (x : X) (xs : List X) → p x ≡ false → take_while p (x ∷ xs) ≡ []
take_while-no p x xs h = take_while-cons p x xs ∙ cond-false (p x) (x ∷ take_while p xs) [] h

pub take_while-begins : {X : Type 0} (p : X → Bool) (xs : List X) → Begins (take_while p xs) xs
take_while-begins p [] = begins_nothing []
take_while-begins p (x ∷ xs) = elim (cases_Bool (p x)) [
  | inl passes ↦
      let rest = take_while-begins p xs in
      let here : Begins (x ∷ take_while p xs) (x ∷ xs) = (rest.0, ap (λ s. x ∷ s) rest.1) in
      subst (λ front. Begins front (x ∷ xs)) (sym (take_while-yes p x xs passes)) here
  | inr fails ↦ subst (λ front. Begins front (x ∷ xs)) (sym (take_while-no p x xs fails)) (begins_nothing (x ∷ xs))
]

pub take_while-passes : {X : Type 0} (p : X → Bool) (xs : List X) → list_all p (take_while p xs) ≡ true
take_while-passes p [] = refl
take_while-passes p (x ∷ xs) = elim (cases_Bool (p x)) [
  | inl passes ↦ ap (list_all p) (take_while-yes p x xs passes) ∙ and_from (p x) (list_all p (take_while p xs)) passes (take_while-passes p xs)
  | inr fails ↦ ap (list_all p) (take_while-no p x xs fails)
]

-- what begins a list, and passes, begins what passes of the list
pub passing-begins : {X : Type 0} (p : X → Bool) (front all : List X) → list_all p front ≡ true → Begins front all → Begins front (take_while p all)
passing-begins p [] all passes b = begins_nothing (take_while p all)
passing-begins {X} p (x ∷ front) all passes b =
    let parts = and_parts (p x) (list_all p front) passes in
    let rest = passing-begins p front (front ++ b.0) parts.1 (b.0, refl) in
    let here : Begins (x ∷ front) (x ∷ take_while p (front ++ b.0)) = (rest.0, ap (λ s. x ∷ s) rest.1) in
    subst (λ (s : List X). Begins (x ∷ front) s) (sym (ap (take_while p) b.1 ∙ take_while-yes p x (front ++ b.0) parts.0)) here

-- what passes of two lists with one front
pub passing-behind : {X : Type 0} (p : X → Bool) (xs rest all : List X) → Begins (take_while p rest) all → Begins (take_while p (xs ++ rest)) (xs ++ all)
passing-behind p [] rest all b = b
passing-behind {X} p (x ∷ xs) rest all b = elim (cases_Bool (p x)) [
  | inl passes ↦
      let later = passing-behind p xs rest all b in
      let here : Begins (x ∷ take_while p (xs ++ rest)) (x ∷ (xs ++ all)) = (later.0, ap (λ s. x ∷ s) later.1) in
      subst (λ (front : List X). Begins front (x ∷ (xs ++ all))) (sym (take_while-yes p x (xs ++ rest) passes)) here
  | inr fails ↦ subst (λ (front : List X). Begins front (x ∷ (xs ++ all))) (sym (take_while-no p x (xs ++ rest) fails)) (begins_nothing (x ∷ (xs ++ all)))
]

-- where nothing of the rest passes
pub passing-stops : {X : Type 0} (p : X → Bool) (xs rest : List X) → take_while p rest ≡ [] → take_while p (xs ++ rest) ≡ take_while p xs
passing-stops p [] rest h = h
passing-stops p (x ∷ xs) rest h = elim (cases_Bool (p x)) [
  | inl passes ↦ take_while-yes p x (xs ++ rest) passes ∙ ap (λ s. x ∷ s) (passing-stops p xs rest h) ∙ sym (take_while-yes p x xs passes)
  | inr fails ↦ take_while-no p x (xs ++ rest) fails ∙ sym (take_while-no p x xs fails)
]

-- what passes of a range's images begins another range's, where what passes is there, and the same
pub passing-range : {X : Type 0} (p : X → Bool) (f g : ℕ → X) (low count other : ℕ) → ((k : ℕ) → low ≤ k → k < low + count → p (f k) ≡ true → (k < low + other) × (f k ≡ g k)) → Begins (take_while p (map f (range_with_len low count))) (map g (range_with_len low other))
passing-range p f g low zero other same = begins_nothing (map g (range_with_len low other))
passing-range p f g low (suc count) zero same = elim (cases_Bool (p (f low))) [
  | inl passes ↦ absurd (let here = same low (omega arith) (omega arith) passes in omega (arith, here.0))
  | inr fails ↦ subst (λ front. Begins front []) (sym (take_while-no p (f low) (map f (range_with_len (low + 1) count)) fails)) (begins_nothing [])
]
passing-range {X} p f g low (suc count) (suc other) same =
    let all = g low ∷ map g (range_with_len (low + 1) other) in
    elim (cases_Bool (p (f low))) [
      | inl passes ↦
          let here = same low (omega arith) (omega arith) passes in
          let rest = passing-range p f g (low + 1) count other (λ k above below pass. let there = same k (omega arith) (omega arith) pass in (omega (arith, there.0), there.1)) in
          let both : Begins (f low ∷ take_while p (map f (range_with_len (low + 1) count))) all = (rest.0, ap₂ (λ (x : X) (s : List X). x ∷ s) (sym here.1) rest.1) in
          subst (λ (front : List X). Begins front all) (sym (take_while-yes p (f low) (map f (range_with_len (low + 1) count)) passes)) both
      | inr fails ↦ subst (λ (front : List X). Begins front all) (sym (take_while-no p (f low) (map f (range_with_len (low + 1) count)) fails)) (begins_nothing all)
    ]
