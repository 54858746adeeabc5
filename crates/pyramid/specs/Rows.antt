-- The table of a depth: the places of a group in coding order. Nothing else knows a depth.
use Rattle.std.specs.Prelude.{ℕ, ◌+◌, ◌^◌, Bool, true, false, not, ◌==◌, ◌&&◌, ◌||◌, nat_lt, nat_le, if◌then◌else◌, IsTrue, List, [], ◌∷◌, length, slice_index_or}
use Rattle.pyramid.specs.declared.rows.Row.{Row}
use Rattle.pyramid.specs.Levels.{level_of}

-- a place of a group: its index, how far its position is into the group, its level, whether it is shown, and whether
-- it shows what a slot holds
abbrev pub row : ℕ → ℕ → ℕ → Bool → Bool → Row
row index offset level shown existing =
    record { index = index; offset = offset; level = level; shown = shown; existing = existing }

-- one input in one place
abbrev pub rows_of_depth_zero : List Row
rows_of_depth_zero = row 0 1 0 true false ∷ []

-- four inputs in six places
abbrev pub rows_of_depth_two : List Row
rows_of_depth_two =
    row 0 4 0 false false
    ∷ row 1 2 1 false false
    ∷ row 2 1 2 true false
    ∷ row 3 2 1 true true
    ∷ row 4 3 2 true false
    ∷ row 5 4 0 true true
    ∷ []

-- the table of a depth, without rows where there is none
unfoldable pub rows : ℕ → List Row
rows depth = if depth == 0 then rows_of_depth_zero else if depth == 2 then rows_of_depth_two else []

-- whether there is one
abbrev pub HasTable : ℕ → Type 0
HasTable depth = IsTrue (nat_lt 0 (length (rows depth)))

-- the row of an index
abbrev pub row_at : ℕ → ℕ → Row
row_at depth index = slice_index_or (rows depth) index (row 0 0 0 false false)

-- a row of a group of this depth: a place of the group, with one of its positions, the level of that position (0 for
-- the last one alone), and a slot's frame only to show it
abbrev pub is_row : ℕ → Row → Bool
is_row depth row =
    nat_lt row.index (2 ^ depth + depth)
    && nat_lt 0 row.offset
    && nat_le row.offset (2 ^ depth)
    && row.level == level_of depth row.offset
    && (not (row.level == 0) || row.offset == 2 ^ depth)
    && (not row.existing || row.shown)
