-- How many values of a table lie below a number.
use Rattle.std.proofs.Common.{◌≡◌, ℕ, ◌≤◌, List, length, true, false, int_lt, ℤ, pos, arith}
use Rattle.std.specs.List.Sorted.{IsNonDecreasing, IsPartitionedBy, IsPartitionPoint}
use Rattle.std.proofs.lemmas.Int.{ints}
use Rattle.std.proofs.lemmas.List.Sums.{prefix_len_is}
use Rattle.quantizers.specs.Nearest.{count_below}

pub is_parted : (values : List ℕ) (q : ℤ) → IsNonDecreasing values → IsPartitionedBy (λ v. int_lt (pos v) q) values
is_parted values q rises i j d le l below = let h = rises i j d le l in grind (arith, ints)

pub count_from_point : (values : List ℕ) (q : ℤ) (n : ℕ) → n ≤ length values
    → IsPartitionPoint (λ v. int_lt (pos v) q ≡ true) (λ v. int_lt (pos v) q ≡ false) values n → count_below values q ≡ n
count_from_point values q n bound point =
    prefix_len_is (λ v. int_lt (pos v) q) values n 0 bound (λ k l. point.0 k 0 (omega arith) l) (λ l. point.1 n 0 (omega arith) l)
