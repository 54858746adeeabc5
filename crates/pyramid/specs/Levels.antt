-- The level of a position in its GOP, and the slot of its frame.
use Rattle.std.specs.Prelude.{ℕ, ◌+◌, ◌-◌, ◌/◌, ◌%◌, ◌^◌, ◌==◌, if◌then◌else◌}
use Rattle.std.specs.Int.Count.{count_trailing_zeros}

-- the level of a position: the depth without the position's trailing zero bits, so 0 at each whole group, and one more
-- for each halving of the distance
abbrev pub level_of : ℕ → ℕ → ℕ
level_of depth position = depth - count_trailing_zeros depth position

-- the slot of a frame of this level at this position
abbrev pub slot_at : ℕ → ℕ → ℕ → ℕ
slot_at depth level position = if level == 0 then position / 2 ^ depth % 4 else 3 + level

-- the slot of a position
abbrev pub slot_of : ℕ → ℕ → ℕ
slot_of depth position = slot_at depth (level_of depth position) position
