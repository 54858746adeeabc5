use Rattle.std.proofs.Common.{◌≡◌, ◌+◌, ◌-◌, ◌==◌, ◌≤◌, ◌<◌, true, false, get_or, length, drop, sym, ◌∙◌, ap, arith, rules}
use Rattle.metrics_window.specs.Cut.{is_key, any_key}
use Rattle.metrics_window.proofs.CutLaws.{cut_at, no_cut}
use Rattle.metrics_window.proofs.window.MetricsWindow.last_key.Goals as goal

pub returns-then-index-eq-KEY-clause-cut : goal.returns-then-index-eq-KEY-clause-cut
returns-then-index-eq-KEY-clause-cut c =
    let xs = c.self.inside.held.items in
    let d = c.index.result.now in
    let i = c.loop-i.i in
    let test = c.loop-i-test.true in
    let inside = c.loop-i.invariant.within in
    let within : i - 1 < length xs = omega arith in
    let low : 1 ≤ i - 1 = omega arith in
    let up : (i - 1) + 1 ≡ i = omega arith in
    let key : is_key (get_or xs (i - 1) d) ≡ true = ap is_key (sym c.index.ensures) ∙ ap (λ n. n == 0) c.if-index-eq-KEY.true in
    let none : any_key (drop ((i - 1) + 1) xs) ≡ false = ap (λ n. any_key (drop n xs)) up ∙ c.loop-i.invariant.none in
    rw (← c.self.view_is) (cut_at xs (i - 1) d low within key none)

pub returns-clause-cut : goal.returns-clause-cut
returns-clause-cut c =
    let xs = c.self.inside.held.items in
    let all : c.len.result ≡ length xs = search rules in
    rw (← c.self.view_is, all) (no_cut xs c.loop-i.i c.loop-i-test.false c.loop-i.invariant.within c.loop-i.invariant.none)
