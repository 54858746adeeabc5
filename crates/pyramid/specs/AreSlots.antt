-- Which lists are reference slots.
use Rattle.std.specs.Prelude.{ℕ, Bool, true, not, ◌==◌, ◌&&◌, nat_le, List, [], ◌∷◌, length}
use Rattle.std.specs.List.{list_all, list_any}

-- no two slots are equal
abbrev pub is_distinct : List ℕ → Bool
is_distinct [] = true
is_distinct (slot ∷ slots) = not (list_any (λ other. other == slot) slots) && is_distinct slots

-- at most three slots, each of the eight, and no two equal
abbrev pub are_slots : List ℕ → Bool
are_slots slots =
    nat_le (length slots) 3 && list_all (λ slot. nat_le slot 7) slots && is_distinct slots
