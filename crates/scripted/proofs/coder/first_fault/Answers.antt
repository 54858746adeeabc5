use Rattle.std.proofs.Common.{◌∙◌}
use Rattle.std.proofs.lemmas.Iterator.{YieldsList-from_slice}
use Rattle.std.proofs.lemmas.Iterator.Consumers.{min_from_yields_List}
use Rattle.scripted.proofs.coder.first_fault.Goals as goal

pub returns : goal.returns
returns c = c.copied.ensures ∙ min_from_yields_List _ c.min.result c.min.ensures.ran (YieldsList-from_slice c.args.faults.now cc)
