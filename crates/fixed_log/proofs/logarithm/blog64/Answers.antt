use Rattle.std.proofs.Common.{◌≡◌, ap, ◌∙◌, to_z, of_z, w64, rules}
use Rattle.fixed_log.specs.Logarithm.{blog64}
use Rattle.fixed_log.proofs.Laws.{blog64-power}
use Rattle.fixed_log.proofs.logarithm.blog64.Goals as goal

pub returns-else-n-le0-clause-powers : goal.returns-else-n-le0-clause-powers
unfolding blog64
returns-else-n-le0-clause-powers c =
    let value : to_z w64 (of_z w64 c.positive_log64.result) ≡ blog64 c.args.n = search rules in
    λ k below is. value ∙ (ap blog64 is ∙ blog64-power k below)
