-- A frame is put into slots, place by place.
use Rattle.std.proofs.Common.{◌≡◌, ℕ, ◌+◌, ◌/◌, ◌%◌, ◌<◌, ◌≤◌, cond, eqb, [], ◌∷◌, ◌++◌, length, get_or, set, take, drop, Option, None, Some, sym, ap, ◌∙◌, append_assoc, arith}
use Rattle.std.proofs.lemmas.List.{append-nil, at_drop_more, drop-set-lt, take_all, take_more_set}
use Rattle.std.proofs.Math.ListN.{drop_of_length-le}
use Rattle.pyramid.specs.Display.{Slots, refreshed}

-- once place i holds what it is to hold, one place more is done
pub refreshed-more : (slots after : Slots) (i left frame : ℕ) (here : Option ℕ) (all : Slots) → i < length slots → here ≡ cond (eqb (left % 2) 1) (Some frame) (get_or slots i None) → after ≡ set slots i here → take i slots ++ refreshed left frame (drop i slots) ≡ all → take (i + 1) after ++ refreshed (left / 2) frame (drop (i + 1) after) ≡ all
refreshed-more slots after i left frame here all within is written so_far =
    let rest : Slots = refreshed (left / 2) frame (drop (i + 1) slots) in
    let place : refreshed left frame (drop i slots) ≡ here ∷ rest = at_drop_more (refreshed left frame) slots i None within ∙ ap (λ h. h ∷ rest) (sym is) in
    ap (λ s. take (i + 1) s ++ refreshed (left / 2) frame (drop (i + 1) s)) written
    ∙ ap (λ t. t ++ refreshed (left / 2) frame (drop (i + 1) (set slots i here))) (take_more_set slots i here within)
    ∙ ap (λ d. (take i slots ++ here ∷ []) ++ refreshed (left / 2) frame d) (drop-set-lt (i + 1) slots i here (omega arith))
    ∙ append_assoc (take i slots) (here ∷ []) rest
    ∙ ap (λ r. take i slots ++ r) (sym place)
    ∙ so_far

-- once all places are done, the slots are refreshed
pub refreshed-done : (slots : Slots) (i left frame : ℕ) (all : Slots) → length slots ≤ i → take i slots ++ refreshed left frame (drop i slots) ≡ all → slots ≡ all
refreshed-done slots i left frame all past so_far =
    sym (take_all i slots past) ∙ sym (append-nil (take i slots)) ∙ ap (λ d. take i slots ++ refreshed left frame d) (sym (drop_of_length-le slots past)) ∙ so_far
