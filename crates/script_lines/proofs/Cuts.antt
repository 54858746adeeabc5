-- A text that is cut at its first such byte.
use Rattle.std.proofs.Common.{◌≡◌, ℕ, ◌+◌, ◌<◌, ◌≤◌, Bool, true, false, cond, not, ltb, List, [], ◌∷◌, length, take, drop, Some, None, refl, arith}
use Rattle.std.specs.List.{slice_split, onto_first, position, position_or_len}
use Rattle.std.proofs.lemmas.Bool.Decides.{nat_tests}
use Rattle.std.proofs.lemmas.List.Quantifiers.{position-Some}
use Rattle.std.proofs.lemmas.List.Sums.{position_or_len_is}
use Rattle.std.proofs.lemmas.List.Splits.{slice_split_first}

pub split_found : (p : ℕ → Bool) (xs : List ℕ) (i : ℕ) → position p xs ≡ Some i →
    slice_split p xs ≡ take i xs ∷ slice_split p (drop (i + 1) xs)
split_found p xs i e =
    let facts = position-Some p xs i 0 e in
    let same : position_or_len p xs ≡ i = position_or_len_is p xs i 0 (omega arith) facts.2 (λ _. facts.1) in
    let within : position_or_len p xs < length xs = omega arith in
    rw same at (slice_split_first p xs 0 within)

far : (a b : ℕ) → cond (ltb a b) (Some a) None ≡ None → b ≤ a
far a b e = grind (arith, nat_tests)

far_step : (b : Bool) (x n : ℕ) (xs : List ℕ) (rest : List (List ℕ)) → length (x ∷ xs) ≤ cond (not b) (1 + n) 0 →
    (length xs ≤ n → rest ≡ xs ∷ []) → cond b ([] ∷ rest) (onto_first x rest) ≡ (x ∷ xs) ∷ []
far_step true x n xs rest h k = absurd (omega arith)
far_step false x n xs rest h k = rw (k (omega arith))

split_far : (p : ℕ → Bool) (xs : List ℕ) → length xs ≤ position_or_len p xs → slice_split p xs ≡ xs ∷ []
split_far p [] h = refl
split_far p (x ∷ xs) h = far_step (p x) x (position_or_len p xs) xs (slice_split p xs) h (split_far p xs)

pub split_missing : (p : ℕ → Bool) (xs : List ℕ) → position p xs ≡ None → slice_split p xs ≡ xs ∷ []
split_missing p xs e = split_far p xs (far (position_or_len p xs) (length xs) e)
