-- Positions in a GOP, counted from its key, and the inputs that stand there.
use Rattle.std.specs.Prelude.{ℕ, ◌+◌, ◌-◌, ◌*◌, ◌/◌, ◌%◌, ◌^◌, ◌==◌, if◌then◌else◌}
use Rattle.pyramid.specs.declared.rows.Row.{Row}
use Rattle.pyramid.specs.Numbers.{Numbers, group_places}
use Rattle.pyramid.specs.Rows.{row_at}

-- the position of a row of group `number` (its order hint)
abbrev pub row_position : Numbers → ℕ → Row → ℕ
row_position numbers number row = 2 ^ numbers.depth * number + row.offset

-- the position of row `index` of group `number`
abbrev pub position_at : Numbers → ℕ → ℕ → ℕ
position_at numbers number index = row_position numbers number (row_at numbers.depth index)

-- the index in its group of place `place` of a GOP, where place 0 is the key
abbrev pub index_of : Numbers → ℕ → ℕ
index_of numbers place = (place - 1) % group_places numbers

-- the position of row `index` of the group of place `place`
abbrev pub position_of : Numbers → ℕ → ℕ → ℕ
position_of numbers place index = position_at numbers ((place - 1) / group_places numbers) index

-- the input of a place, in the GOP whose key is input `start`
abbrev pub input_of : Numbers → ℕ → ℕ → ℕ
input_of numbers place start =
    if place == 0 then start else start + position_of numbers place (index_of numbers place)
