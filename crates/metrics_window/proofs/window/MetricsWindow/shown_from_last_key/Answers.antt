use Rattle.std.proofs.Common.{◌≡◌, ◌∙◌, ◌≤ℤ◌, pos, refl, arith, rules, to_z, of_z, w32, ◌^◌}
use Rattle.std.proofs.lemmas.Int.{ints, to_z-of_z}
use Rattle.metrics_window.specs.Tallies.{shown_of}
use Rattle.metrics_window.specs.Cut.{before_last_key, from_last_key}
use Rattle.metrics_window.proofs.Bounds.{shown_low}
use Rattle.metrics_window.proofs.WindowLaws.{behind_is, shown_split, small_fits}
use Rattle.metrics_window.proofs.window.MetricsWindow.shown_from_last_key.Goals as goal

pub overflow_sub-result : goal.overflow_sub-result
overflow_sub-result c =
    let xs = c.args.self.now.held in
    let all : to_z w32 (of_z w32 c.shown.result) ≡ c.shown.result = search rules in
    let front : to_z w32 (of_z w32 c.before_last_key.result.shown) ≡ c.before_last_key.result.shown = search rules in
    let is = behind_is _ _ c.before_last_key.result xs (all ∙ c.shown.ensures.value) c.before_last_key.ensures front in
    let split = shown_split xs in
    let high = c.shown.ensures.high in
    let value = c.shown.ensures.value in
    let some = shown_low (before_last_key xs) in
    rw is (small_fits (shown_of (from_last_key xs)) (shown_low (from_last_key xs)) (omega (arith, ints)))

pub returns : goal.returns
returns c =
    let xs = c.args.self.now.held in
    let all : to_z w32 (of_z w32 c.shown.result) ≡ c.shown.result = search rules in
    let front : to_z w32 (of_z w32 c.before_last_key.result.shown) ≡ c.before_last_key.result.shown = search rules in
    let is = behind_is _ _ c.before_last_key.result xs (all ∙ c.shown.ensures.value) c.before_last_key.ensures front in
    let split = shown_split xs in
    let high = c.shown.ensures.high in
    let value = c.shown.ensures.value in
    let some = shown_low (before_last_key xs) in
    let least = shown_low (from_last_key xs) in
    let most : shown_of (from_last_key xs) ≤ℤ pos (2 ^ 19) = omega (arith, ints) in
    let kept : to_z w32 (of_z w32 (shown_of (from_last_key xs))) ≡ shown_of (from_last_key xs) =
    to_z-of_z w32 (shown_of (from_last_key xs)) (small_fits (shown_of (from_last_key xs)) least most) in
    rw (is, kept) (record { value = refl; low = least; high = most })
