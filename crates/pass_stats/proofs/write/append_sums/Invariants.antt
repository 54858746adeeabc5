use Rattle.std.proofs.Common.{◌≡◌, ℕ, ◌*◌, ◌+◌, ◌<◌, ◌++◌, length, take, slice_index_or, pos, FitsSigned, w64}
use Rattle.std.specs.List.{flat_map}
use Rattle.pass_stats.specs.Bytes.{i64_bytes}
use Rattle.pass_stats.proofs.write.append_sums.Given as goal

abbrev pub invariant-loop-sum : goal.invariant-loop-sum
invariant-loop-sum l = record {
  items : l.bytes.items ≡ l.initial.bytes.items ++ flat_map i64_bytes (take l.sum-index l.sums);
  len : length l.bytes.items ≡ length l.initial.bytes.items + 8 * l.sum-index;
  fit : (k : ℕ) → k < l.sum-index → FitsSigned w64 (slice_index_or l.sums k (pos 0));
}
