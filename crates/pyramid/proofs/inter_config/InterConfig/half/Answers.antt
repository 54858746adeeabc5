use Rattle.std.proofs.Common.{◌≡◌, ℕ, ◌-◌, ◌^◌, ◌≤◌, ap, ◌∙◌, arith}
use Rattle.pyramid.proofs.DepthFacts.{shallow, few_inputs, shifted_one}
use Rattle.pyramid.proofs.inter_config.InterConfig.half.Goals as goal

pub overflow_shl-result : goal.overflow_shl-result
overflow_shl-result c = omega (arith, c.from.ensures, shallow c.self.inside.depth c.self.invariant)

pub returns-clause-value : goal.returns-clause-value
returns-clause-value c =
    let small = shallow c.self.inside.depth c.self.invariant in
    let same : c.from.result ≡ c.args.self.now.depth = c.from.ensures ∙ ap (λ n. n.depth) c.self.view_is in
    shifted_one (c.from.result - c.args.level) (omega (arith, c.from.ensures)) ∙ ap (λ (d : ℕ). 2 ^ (d - c.args.level)) same

pub returns-clause-few : goal.returns-clause-few
returns-clause-few c =
    let small = shallow c.self.inside.depth c.self.invariant in
    let power = c.from.result - c.args.level in
    let low : power ≤ 4 = omega (arith, c.from.ensures) in
    omega (arith, shifted_one power low, few_inputs power low)
