use Rattle.std.proofs.Common.{◌≡◌, refl, rules, to_z, of_z, w32}
use Rattle.std.specs.Int.{int_min}
use Rattle.ratecontrol.proofs.state.RCState.cut_delay.Goals as goal

pub returns : goal.returns
returns c =
    let delay : to_z w32 (of_z w32 c.shorter_delay-self-inside.result) ≡ int_min c.self.inside.reservoir_delay c.args.header.now.ntus = search rules in
    rw (← c.self.view_is, delay) refl
