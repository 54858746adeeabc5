use Rattle.std.proofs.Common.{◌≡◌, ◌∙◌, ap, arith, rules, to_z, of_z, w32}
use Rattle.metrics_window.specs.Tallies.{shown_of}
use Rattle.metrics_window.specs.Window.{Window}
use Rattle.metrics_window.proofs.Bounds.{shown_low, shown_high}
use Rattle.metrics_window.proofs.WindowLaws.{shown_is}
use Rattle.metrics_window.proofs.window.MetricsWindow.shown.Goals as goal

pub returns : goal.returns
returns c =
    let held = c.self.inside.held.items in
    let is : c.self.inside.tally.shown ≡ shown_of held = shown_is c.self.inside.tally held c.self.invariant.tally_is in
    let z : to_z w32 (of_z w32 c.self.inside.tally.shown) ≡ c.self.inside.tally.shown = search rules in
    let fits = c.self.invariant.fits in
    let small = c.self.invariant.small in
    record {
      value = z ∙ (is ∙ ap (λ (w : Window). shown_of w.held) c.self.view_is);
      low = rw (z, is) (shown_low held);
      high = rw (z, is) (shown_high held (omega arith));
    }
