use Rattle.std.proofs.Common.{◌≡◌, ◌<◌, ◌≤◌, [], ◌++◌, List, length, take, drop, sym, ◌∙◌, ap, arith, rules, ◌^◌}
use Rattle.std.proofs.lemmas.List.{append-nil, take-append-drop}
use Rattle.pass_stats.specs.declared.metrics.RCFrameMetrics.{RCFrameMetrics}
use Rattle.metrics_window.specs.Tallies.{tally_of, less}
use Rattle.metrics_window.specs.Cut.{before_last_key}
use Rattle.metrics_window.proofs.WindowLaws.{known_at, less_one_more, dropped}
use Rattle.metrics_window.proofs.window.MetricsWindow.before_last_key.Goals as goal

pub loop-i-init : goal.loop-i-init
loop-i-init c = record {
  low = omega arith;
  tally = c.self.invariant.tally_is ∙ ap tally_of (sym (take-append-drop c.last_key-i.result c.self.inside.held.items));
}

pub take_off-requires : goal.take_off-requires
take_off-requires c =
    let xs = c.self.inside.held.items in
    let all : c.len-i-end.result ≡ length xs = search rules in
    let test = c.loop-i-test.true in
    let within : c.loop-i.i < length xs = omega arith in
    rw c.index.ensures (known_at xs c.loop-i.i c.index.result.now c.self.invariant.known within)

pub loop-i-preserved : goal.loop-i-preserved
loop-i-preserved c =
    let xs = c.self.inside.held.items in
    let i = c.loop-i.i in
    let k = c.last_key-i.result in
    let d = c.index.result.now in
    let all : c.len-i-end.result ≡ length xs = search rules in
    let test = c.loop-i-test.true in
    let low = c.loop-i.invariant.low in
    let fits = c.self.invariant.fits in
    let small = c.self.invariant.small in
    let within : i < length xs = omega arith in
    let short : length xs ≤ 2 ^ 19 = omega arith in
    let step = less_one_more xs k i d c.self.invariant.known low within short in
    record {
      low = omega arith;
      tally = c.take_off.ensures ∙ (ap (less d) c.loop-i.invariant.tally ∙ (ap (λ (m : RCFrameMetrics). less m (tally_of (take k xs ++ drop i xs))) c.index.ensures ∙ step));
    }

pub returns : goal.returns
returns c =
    let xs = c.self.inside.held.items in
    let k = c.last_key-i.result in
    let all : c.len-i-end.result ≡ length xs = search rules in
    let test = c.loop-i-test.false in
    let none : drop c.loop-i.i xs ≡ [] = dropped xs c.loop-i.i (omega arith) in
    let front : take k xs ++ drop c.loop-i.i xs ≡ take k xs = ap (λ (ys : List RCFrameMetrics). take k xs ++ ys) none ∙ append-nil (take k xs) in
    let cut : before_last_key xs ≡ take k xs = rw (← c.self.view_is) at c.last_key-i.ensures.cut in
    rw (← c.self.view_is) (c.loop-i.invariant.tally ∙ (ap tally_of front ∙ ap tally_of (sym cut)))
