use Rattle.std.proofs.Common.{◌≤◌, sym, ap, ◌∙◌, subst}
use Rattle.gop_board.proofs.Handed.{held, held-once, merges}
use Rattle.gop_board.specs.declared.job_queue.Part.{Part}
use Rattle.gop_board.specs.Handing.{given, times}
use Rattle.gop_board.proofs.job_queue.JobQueue.absorb.Goals as goal

pub absorb-requires-clause-rule : goal.absorb-requires-clause-rule
absorb-requires-clause-rule c = merges _ _ _ _ c.pass.invariant.live c.other.invariant.live

pub learn_as-requires-clause-rule : goal.learn_as-requires-clause-rule
learn_as-requires-clause-rule c = held _ _ (ap (λ (p : Part). p.live) c.absorb.ensures.rule ∙ c.pass.invariant.live)

pub returns-clause-once : goal.returns-clause-once
returns-clause-once c = λ number.
    subst (λ (p : Part). times number (given p) ≤ 1) (sym c.learn_as.ensures.queue.1) (held-once _ _ _ c.learn_as.ensures.rule.1 number)
