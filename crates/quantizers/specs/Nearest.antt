-- The index of the table value that is nearest to a quantiser, by ratio.
use Rattle.std.specs.Prelude.{ℕ, zero, suc, ◌*◌, nat_le, Bool, List, length, slice_index, ℤ, pos, ◌*ℤ◌, int_lt, if◌then◌else◌}
use Rattle.std.specs.List.{prefix_len}

-- how many values lie below q, which is the least index of a value that doesn't
abbrev pub count_below : List ℕ → ℤ → ℕ
count_below values q = prefix_len (λ v. int_lt (pos v) q) values

-- of u < q <= v, q is nearer to u where it lies below their geometric mean; v itself never does
abbrev pub is_nearer_below : ℕ → ℤ → ℕ → Bool
is_nearer_below u q v = int_lt (q *ℤ q) (pos (u * v))

-- the nearest index, where k is the least index of a value that isn't below q
abbrev pub nearest_from : List ℕ → ℤ → ℕ → ℕ
nearest_from values q zero = 0
nearest_from values q (suc k) =
    if nat_le (length values) (suc k) then k else
    (if is_nearer_below (slice_index values k) q (slice_index values (suc k)) then k else suc k)

-- the least index whose value is q; else 0 below the first value and the last index above the last; else, between the values u and v
-- at neighbouring places, the place of u or of v
unfoldable pub nearest : List ℕ → ℤ → ℕ
nearest values q = nearest_from values q (count_below values q)
