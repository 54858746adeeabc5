use Rattle.std.proofs.Common.{◌≡◌, rules, ap, ◌∙◌, to_z, of_z, w32}
use Rattle.std.specs.Int.{w128}
use Rattle.pass_data.specs.Given.{Given}
use Rattle.ratecontrol.specs.Rate.{Rate}
use Rattle.ratecontrol.specs.Passes.{commands}
use Rattle.ratecontrol.proofs.state.RCState.take_bytes.Goals as goal

pub returns-clause-given : goal.returns-clause-given
returns-clause-given c =
    let rate = c.args.self.now in
    let count : to_z w128 (of_z w128 c.commands-commands.result) ≡ commands rate = search rules in
    let kept : to_z w32 (of_z w32 c.self.inside.reservoir_delay) ≡ c.self.inside.reservoir_delay = search rules in
    let delay : c.self.inside.reservoir_delay ≡ rate.reservoir_delay = ap (λ (r : Rate). r.reservoir_delay) c.self.view_is in
    let own : c.self.inside.given ≡ rate.given = ap (λ (r : Rate). r.given) c.self.view_is in
    let given = rw (count, kept, delay, own) at c.give.ensures.taken in
    (ap (λ (r : Rate). record r { given = c.give.new.self }) c.self.view_is ∙ ap (λ (g : Given). record rate { given = g }) given.0, given.1)
