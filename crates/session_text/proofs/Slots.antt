-- The slots of a command, one after another.
use Rattle.std.proofs.Common.{◌≡◌, ℕ, zero, suc, ◌+◌, ◌<◌, ◌≤◌, List, [], ◌∷◌, ◌++◌, length, get_or, take, refl, sym, append-nil, add-one, codes, arith}
use Rattle.std.specs.Fmt.{decimal}
use Rattle.std.proofs.lemmas.List.{flat_map_more, take_more}
use Rattle.session_text.specs.CommandLines.{slots_text}

pub no_slots : (xs : List ℕ) → length xs ≡ 0 → slots_text xs ≡ codes "-"
unfolding slots_text
no_slots [] e = refl
no_slots (x ∷ xs) e = absurd (omega arith)

pub one_slot : (xs : List ℕ) → 0 < length xs → slots_text (take 1 xs) ≡ decimal (get_or xs 0 0)
unfolding slots_text
one_slot [] h = absurd (omega arith)
one_slot (x ∷ xs) h = append-nil (decimal x)

pub more_slots : (xs : List ℕ) (i : ℕ) → 1 ≤ i → i < length xs →
    slots_text (take (i + 1) xs) ≡ slots_text (take i xs) ++ 32 ∷ decimal (get_or xs i 0)
unfolding slots_text
more_slots [] i h lt = absurd (omega arith)
more_slots (x ∷ xs) zero h lt = absurd (omega arith)
more_slots (x ∷ xs) (suc i) h lt =
    let f : ℕ → List ℕ = λ next. 32 ∷ decimal next in
    let one : take (suc i + 1) (x ∷ xs) ≡ x ∷ take (i + 1) xs = simp add-one in
    rw (one, take_more xs i 0 (omega arith)) (sym (flat_map_more f (decimal x) (take i xs) (get_or xs i 0)))
