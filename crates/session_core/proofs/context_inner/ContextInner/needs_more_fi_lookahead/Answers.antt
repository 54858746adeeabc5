use Rattle.std.proofs.Common.{rules, ◌≡◌, None}
use Rattle.session_core.proofs.context_inner.ContextInner.needs_more_fi_lookahead.Goals as goal

pub needs_more_data-requires : goal.needs_more_data-requires
needs_more_data-requires g c =
    let none : c.self.inside.failure ≡ None = search rules in
    record { kept = c.self.invariant.kept none }
