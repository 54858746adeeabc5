use Rattle.std.proofs.Common.{◌≡◌, ◌<◌, [], ◌∷◌, ◌++◌, length}
use Rattle.metrics_window.proofs.WindowLaws.{pushed_window}
use Rattle.metrics_window.proofs.window.MetricsWindow.push.Goals as goal

pub invariant_of-self : goal.invariant_of-self
invariant_of-self c =
    let items : c.push_back.new.self.items ≡ c.self.inside.held.items ++ c.args.m ∷ [] = rw c.unwrap.ensures at c.push_back.ensures.items in
    let free : length c.self.inside.held.items < c.self.inside.capacity = rw (← c.self.view_is) at c.requires.room in
    pushed_window c.self.inside.held.items _ c.args.m _ _ _ _ _ c.self.invariant c.requires.known free items c.push_back.ensures.capacity c.add.ensures
