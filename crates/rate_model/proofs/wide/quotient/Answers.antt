use Rattle.std.proofs.Common.{◌≡◌, rules, to_z, of_z, int_div}
use Rattle.std.specs.Int.{w128}
use Rattle.rate_model.proofs.Products.{quotient_within}
use Rattle.rate_model.proofs.wide.quotient.Goals as goal

pub returns-clause-within : goal.returns-clause-within
returns-clause-within c =
    let e : to_z w128 (of_z w128 (int_div (to_z w128 (of_z w128 c.args.a)) (to_z w128 (of_z w128 c.args.b)))) ≡ int_div c.args.a c.args.b = search rules in
    λ m k above h. rw e (quotient_within c.args.a c.args.b m k c.requires above h)
