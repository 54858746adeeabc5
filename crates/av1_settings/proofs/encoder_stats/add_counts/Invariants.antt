use Rattle.std.proofs.Common.{◌≡◌, length, ◌++◌, take, drop}
use Rattle.av1_settings.specs.Stats.{counts_sum}
use Rattle.av1_settings.proofs.encoder_stats.add_counts.Given as goal

abbrev pub invariant-loop-i : goal.invariant-loop-i
invariant-loop-i l =
    (l.counts ≡ counts_sum (take l.i l.initial.counts) (take l.i l.more) ++ drop l.i l.initial.counts)
    × (length l.more ≡ length l.initial.counts)
