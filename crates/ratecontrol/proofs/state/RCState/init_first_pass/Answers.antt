use Rattle.std.proofs.Common.{◌≡◌, refl, rules, to_z, of_z, w64}
use Rattle.std.specs.Option.{unwrap_or}
use Rattle.ratecontrol.proofs.state.RCState.init_first_pass.Goals as goal

pub returns : goal.returns
returns c =
    let base : to_z w64 (of_z w64 c.base_or-self-inside.result) ≡ unwrap_or c.args.base c.self.inside.first_base = search rules in
    rw (← c.self.view_is, base) refl
