-- What a table of quantisers must be, and the first place at which it isn't.
use Rattle.std.specs.Prelude.{ℕ, ◌-◌, ◌==◌, nat_lt, nat_le, not, Bool, ◌&&◌, ◌||◌, List, Option, slice_index, if◌then◌else◌}
use Rattle.std.specs.List.{find, range_with_len}

-- the quantisers of the AC and of the DC coefficients, by index
pub record Tables : Type 0 where
  pub ac : List ℕ
  pub dc : List ℕ

-- a value is bad if it is 0, or if it may not follow the one before
abbrev pub is_bad : (ℕ → ℕ → Bool) → List ℕ → ℕ → Bool
is_bad may_follow values i =
    (slice_index values i == 0) || (nat_lt 0 i && not (may_follow (slice_index values (i - 1)) (slice_index values i)))

-- AC values rise, and DC values don't fall
abbrev pub is_bad_place : List ℕ → List ℕ → ℕ → Bool
is_bad_place ac dc place = if nat_lt place 256 then is_bad nat_lt ac place else is_bad nat_le dc (place - 256)

-- the places of the AC values are 0 to 255, and those of the DC values 256 to 511
abbrev pub first_bad : List ℕ → List ℕ → Option ℕ
first_bad ac dc = find (is_bad_place ac dc) (range_with_len 0 512)
