-- How a frame moves the reservoir, and the count of coded frames.
use Rattle.std.specs.Prelude.{ℕ, ◌-◌, ◌^◌, Bool, not, ◌&&◌, ℤ, pos, negsuc, ◌+ℤ◌, ◌-ℤ◌, int_lt, if◌then◌else◌}
use Rattle.std.specs.Int.{int_min}
use Rattle.reservoir.specs.Levels.{between}

-- counts of frames stop here
abbrev pub LAST_COUNT : ℤ
LAST_COUNT = pos (2 ^ 62)

abbrev pub FAR : ℕ
FAR = 2 ^ 96

abbrev pub not_far : ℤ → ℤ
not_far z = between (negsuc (FAR - 1)) (pos FAR) z

-- the reservoir after a frame: it never holds more than it can
abbrev pub reservoir_after : ℤ → ℤ → ℤ → Bool → ℤ → ℤ
reservoir_after bits_per_tu most bits shown reservoir =
    int_min (reservoir -ℤ bits +ℤ (if shown then bits_per_tu else pos 0)) most

-- one more, up to the last count
abbrev pub next_count : ℤ → ℤ
next_count n = int_min (n +ℤ pos 1) LAST_COUNT

-- neither trials nor frames without bits count
abbrev pub coded_after : ℤ → Bool → ℤ → ℤ
coded_after bits trial coded = if not trial && int_lt (pos 0) bits then next_count coded else coded
