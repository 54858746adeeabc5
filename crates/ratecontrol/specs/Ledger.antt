-- The reservoir as a ledger: what it holds after frames, as a minimum over the moments at which it was full.
use Rattle.std.specs.Prelude.{List, [], ◌∷◌, map, ℤ, pos, ◌+ℤ◌}
use Rattle.std.specs.List.{fold}
use Rattle.std.specs.Int.{int_min}

abbrev pub total : List ℤ → ℤ
total [] = pos 0
total (x ∷ xs) = x +ℤ total xs

-- the changes after the first one, after the second, and so on
abbrev pub later_changes : List ℤ → List (List ℤ)
later_changes [] = []
later_changes (x ∷ xs) = xs ∷ later_changes xs

-- the least of what it held at the start with all changes, and, for each moment, of the most that it can hold with the changes after it
abbrev pub ledger : ℤ → ℤ → List ℤ → ℤ
ledger start most changes = fold int_min (start +ℤ total changes) (map (λ (later : List ℤ). most +ℤ total later) (later_changes changes))
