use Rattle.ratecontrol.proofs.KeptLaws.{set_up_starts}
use Rattle.ratecontrol.proofs.laws.a_summary_sets_up_a_start.Goals as goal

pub returns : goal.returns
returns c = λ header passes none rate begun not_first not_second low high. set_up_starts header passes none rate begun not_first not_second low high
