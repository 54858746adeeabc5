-- The numbers that settings give a pyramid.
use Rattle.std.specs.Prelude.{ℕ, ◌+◌, ◌^◌, Bool}

-- depth of the pyramid; whether a frame of level 0 names two references; interval of switch frames in places, 0 for none
pub record Numbers : Type 0 where
  pub depth : ℕ
  pub multiref : Bool
  pub switch_interval : ℕ

-- inputs of a group
abbrev pub group_inputs : Numbers → ℕ
group_inputs numbers = 2 ^ numbers.depth

-- places of a group: one for each input, and one more for each hidden frame
abbrev pub group_places : Numbers → ℕ
group_places numbers = 2 ^ numbers.depth + numbers.depth

-- how far ahead of the first frame of a group the next key is to be known
abbrev pub keyframe_distance : Numbers → ℕ
keyframe_distance numbers = 2 ^ numbers.depth + 1

-- how many inputs after a position have come when it is decided whether it is a key
abbrev pub ahead : Numbers → ℕ
ahead numbers = 2 ^ numbers.depth + 2
