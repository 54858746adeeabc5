use Rattle.std.proofs.Common.{◌≡◌, ◌∙◌, rules, to_z, of_z}
use Rattle.std.specs.Int.{w128}
use Rattle.rate_model.specs.Search.{rounded_of}
use Rattle.rate_model.proofs.Rounding.{same_rounded}
use Rattle.rate_model.proofs.search.bits_at.Goals as goal

pub returns-then-are_rounded_alike : goal.returns-then-are_rounded_alike
returns-then-are_rounded_alike c =
    let is : to_z w128 (of_z w128 c.args.last.bits) ≡ c.args.last.bits = search rules in
    let alike : rounded_of c.args.last.base ≡ rounded_of c.args.base = search rules in
    is ∙ (c.requires ∙ same_rounded c.args.model.now c.args.last.base c.args.base alike)
