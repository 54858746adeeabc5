use Rattle.session_core.proofs.Calling.{held-fresh}
use Rattle.session_core.proofs.context_inner.ContextInner.new.Goals as goal

pub invariant_of-result : goal.invariant_of-result
invariant_of-result g c = held-fresh _ c.in-Ok.state _ c.in_default.ensures.valid c.in-Ok.ensures.moment c.in-Ok.ensures.kept
