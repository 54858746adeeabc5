use Rattle.std.proofs.Common.{◌^◌, ap, ◌∙◌, arith}
use Rattle.std.proofs.lemmas.Nat.{pow_pos}
use Rattle.pyramid.proofs.DepthFacts.{shallow, few_inputs, shifted_one}
use Rattle.pyramid.proofs.inter_config.InterConfig.group_inputs.Goals as goal

pub overflow_shl-result : goal.overflow_shl-result
overflow_shl-result c = omega (arith, shallow c.self.inside.depth c.self.invariant)

pub returns-clause-value : goal.returns-clause-value
returns-clause-value c = shifted_one c.self.inside.depth (shallow c.self.inside.depth c.self.invariant) ∙ ap (λ n. 2 ^ n.depth) c.self.view_is

pub returns-clause-some : goal.returns-clause-some
returns-clause-some c =
    let small = shallow c.self.inside.depth c.self.invariant in
    omega (arith, shifted_one c.self.inside.depth small, pow_pos c.self.inside.depth)

pub returns-clause-few : goal.returns-clause-few
returns-clause-few c =
    let small = shallow c.self.inside.depth c.self.invariant in
    omega (arith, shifted_one c.self.inside.depth small, few_inputs c.self.inside.depth small)

pub returns-clause-shallow : goal.returns-clause-shallow
returns-clause-shallow c = omega (arith, shallow c.self.inside.depth c.self.invariant, ap (λ n. n.depth) c.self.view_is)
