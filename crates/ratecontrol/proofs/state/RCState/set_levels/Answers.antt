use Rattle.std.proofs.Common.{◌≡◌, refl, rules, to_z, of_z, w32}
use Rattle.std.specs.Int.{w128}
use Rattle.reservoir.specs.Levels.{reservoir_most, reservoir_target}
use Rattle.ratecontrol.proofs.state.RCState.set_levels.Goals as goal

pub returns : goal.returns
returns c =
    let ntus : to_z w32 (of_z w32 c.args.header.now.ntus) ≡ c.args.header.now.ntus = search rules in
    let most : to_z w128 (of_z w128 c.reservoir_most-most.result) ≡ reservoir_most c.self.inside.bits_per_tu c.args.header.now.ntus = search rules in
    let target : to_z w128 (of_z w128 c.reservoir_target-target.result) ≡ reservoir_target (to_z w128 (of_z w128 c.reservoir_most-most.result)) = search rules in
    rw (← c.self.view_is, ntus, target, most) refl
