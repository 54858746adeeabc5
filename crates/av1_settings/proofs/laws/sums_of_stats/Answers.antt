use Rattle.std.proofs.Common.{◌≡◌, ◌∙◌}
use Rattle.av1_settings.specs.Stats.{no_stats, stats_sum}
use Rattle.av1_settings.proofs.StatsLemmas.{stats_sum-assoc, stats_sum-comm}
use Rattle.av1_settings.proofs.laws.sums_of_stats.Goals as goal

pub returns-clause-commutative : goal.returns-clause-commutative
returns-clause-commutative c = stats_sum-comm

pub returns-clause-associative : goal.returns-clause-associative
returns-clause-associative c = stats_sum-assoc

pub returns-clause-unit : goal.returns-clause-unit
returns-clause-unit c =
    let same : stats_sum c.args.a no_stats ≡ c.args.a = λ i. record {
      block_size_counts = c.keeps_counts.ensures i;
      skip_block_count = c.keeps_count.ensures i;
      tx_type_counts = c.keeps_counts-2.ensures i;
      luma_pred_mode_counts = c.keeps_counts-3.ensures i;
      chroma_pred_mode_counts = c.keeps_counts-4.ensures i;
    } in (same, stats_sum-comm no_stats c.args.a ∙ same)
