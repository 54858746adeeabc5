use Rattle.std.proofs.Common.{◌≡◌, refl, rules, ◌+ℤ◌, ◌-ℤ◌, to_z, of_z}
use Rattle.std.specs.Int.{w128}
use Rattle.reservoir.specs.Moves.{not_far, reservoir_after}
use Rattle.ratecontrol.proofs.state.RCState.charge.Goals as goal

pub returns : goal.returns
returns c =
    let reservoir_is : to_z w128 (of_z w128 c.next_reservoir-self-inside.result)
    ≡ not_far (reservoir_after c.self.inside.bits_per_tu c.self.inside.most c.args.bits c.args.shown c.self.inside.reservoir) = search rules in
    let bias_is : to_z w128 (of_z w128 c.next_bias-self-inside.result)
    ≡ not_far (c.self.inside.bias +ℤ (c.args.estimate -ℤ c.args.bits)) = search rules in
    rw (← c.self.view_is, reservoir_is, bias_is) refl
