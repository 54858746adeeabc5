use Rattle.std.proofs.Common.{◌≡◌, ◌*◌, take, pos, ◌+ℤ◌, neg_ℤ, ◌≤ℤ◌, fold}
use Rattle.pass_stats.proofs.parse.count_frames.Given as goal

abbrev pub invariant-loop-count : goal.invariant-loop-count
invariant-loop-count l =
    (l.total ≡ fold ◌+ℤ◌ (pos 0) (take l.count-index l.counts)) × (neg_ℤ (pos (0x8000_0000 * l.count-index)) ≤ℤ l.total) × (l.total ≤ℤ pos (0x8000_0000 * l.count-index))
