use Rattle.std.proofs.Math.Facts.{Fits-lt-pow}
use Rattle.av1_settings.proofs.StatsLemmas.{counts_sum-zeros}
use Rattle.av1_settings.proofs.laws.keeps_slice.Goals as goal

pub returns : goal.returns
returns c = counts_sum-zeros c.args.counts.now (λ i. Fits-lt-pow (c.type_inv.counts i))
