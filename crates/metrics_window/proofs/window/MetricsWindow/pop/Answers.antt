use Rattle.metrics_window.proofs.WindowLaws.{popped_window}
use Rattle.metrics_window.proofs.window.MetricsWindow.pop.Goals as goal

pub invariant_of-self : goal.invariant_of-self
invariant_of-self c =
    let e = c.in-Some.ensures in
    popped_window c.self.inside.held.items _ c.in-Some.m _ _ _ _ _ c.self.invariant e.items c.pop_front.ensures.capacity c.take_off.ensures
