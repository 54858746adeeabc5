use Rattle.std.proofs.Common.{◌≡◌, ap, ◌∙◌, to_z, of_z, w64, rules}
use Rattle.fixed_log.specs.Exponential.{bexp64}
use Rattle.fixed_log.proofs.Laws.{bexp64-power}
use Rattle.fixed_log.proofs.exponential.bexp64.Goals as goal

pub returns-clause-powers : goal.returns-clause-powers
unfolding bexp64
returns-clause-powers c =
    let value : to_z w64 (of_z w64 c.saturated.result) ≡ bexp64 c.args.logq57 = search rules in
    λ k below is. value ∙ (ap bexp64 is ∙ bexp64-power k below)
