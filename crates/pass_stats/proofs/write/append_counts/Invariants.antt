use Rattle.std.proofs.Common.{◌≡◌, ℕ, ◌*◌, ◌+◌, ◌<◌, ◌++◌, length, take, slice_index_or, pos, FitsSigned, w32}
use Rattle.std.specs.List.{flat_map}
use Rattle.pass_stats.specs.Bytes.{i32_bytes}
use Rattle.pass_stats.proofs.write.append_counts.Given as goal

abbrev pub invariant-loop-count : goal.invariant-loop-count
invariant-loop-count l = record {
  items : l.bytes.items ≡ l.initial.bytes.items ++ flat_map i32_bytes (take l.count-index l.counts);
  len : length l.bytes.items ≡ length l.initial.bytes.items + 4 * l.count-index;
  fit : (k : ℕ) → k < l.count-index → FitsSigned w32 (slice_index_or l.counts k (pos 0));
}
