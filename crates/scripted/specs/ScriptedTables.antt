-- Quantiser tables for programs and tests.
use Rattle.std.specs.Prelude.{ℕ, ◌+◌, ◌*◌, List, map}
use Rattle.std.specs.List.{range_with_len}
use Rattle.quantizers.specs.Tables.{Tables}

-- 8 at index 0, and 8 more at each further one
abbrev pub steps_of_eight : List ℕ
steps_of_eight = map (λ index. 8 * (index + 1)) (range_with_len 0 256)

-- the AC and the DC coefficients have the same
abbrev pub scripted_tables : Tables
scripted_tables = record { ac = steps_of_eight; dc = steps_of_eight }
