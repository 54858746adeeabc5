-- Lists of four.
use Rattle.std.proofs.Common.{◌≡◌, List, [], ◌∷◌, length, map, get_or, refl, arith}

pub map_four : {A B : Type 0} (f : A → B) (d : A) (xs : List A) → length xs ≡ 4
    → map f xs ≡ (f (get_or xs 0 d) ∷ f (get_or xs 1 d) ∷ f (get_or xs 2 d) ∷ f (get_or xs 3 d) ∷ [])
map_four f d [] h = absurd (omega arith)
map_four f d (a ∷ []) h = absurd (omega arith)
map_four f d (a ∷ b ∷ []) h = absurd (omega arith)
map_four f d (a ∷ b ∷ c ∷ []) h = absurd (omega arith)
map_four f d (a ∷ b ∷ c ∷ e ∷ []) h = refl
map_four f d (a ∷ b ∷ c ∷ e ∷ g ∷ xs) h = absurd (omega arith)

pub is_four : {A : Type 0} (d : A) (xs : List A) → length xs ≡ 4 → {a b c e : A} → get_or xs 0 d ≡ a → get_or xs 1 d ≡ b → get_or xs 2 d ≡ c → get_or xs 3 d ≡ e
    → xs ≡ (a ∷ b ∷ c ∷ e ∷ [])
is_four d [] h p q r s = absurd (omega arith)
is_four d (w ∷ []) h p q r s = absurd (omega arith)
is_four d (w ∷ x ∷ []) h p q r s = absurd (omega arith)
is_four d (w ∷ x ∷ y ∷ []) h p q r s = absurd (omega arith)
is_four d (w ∷ x ∷ y ∷ z ∷ []) h p q r s = rw (p, q, r, s) refl
is_four d (w ∷ x ∷ y ∷ z ∷ v ∷ xs) h p q r s = absurd (omega arith)
