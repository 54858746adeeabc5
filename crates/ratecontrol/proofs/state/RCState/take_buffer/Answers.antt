use Rattle.std.proofs.Common.{◌≡◌, rules}
use Rattle.ratecontrol.specs.Passes.{room_for}
use Rattle.ratecontrol.specs.contracts.state.RCState.{the_view}
use Rattle.ratecontrol.proofs.PassLaws.{window_taken, window_wanted}
use Rattle.ratecontrol.proofs.state.RCState.take_buffer.Goals as goal

pub returns-in-Some-clause-state : goal.returns-in-Some-clause-state
returns-in-Some-clause-state c =
    let room : c.room_for.result ≡ room_for c.in-Some.delay = search rules in
    rw (← c.self.view_is) (window_taken c.take_window.result (the_view c.self.inside) c.take_window.new.self c.in-Some.delay c.room_for.result c.in-Some.is room c.take_window.ensures)

pub returns-in-Some-clause-window : goal.returns-in-Some-clause-window
returns-in-Some-clause-window c =
    rw (← c.self.view_is) (window_wanted c.take_window.result c.self.inside.set_delay c.in-Some.delay c.in-Some.is)
