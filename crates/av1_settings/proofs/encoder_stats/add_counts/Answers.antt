use Rattle.std.proofs.Common.{◌≡◌, ◌<◌, length, get_or, set, ap, ◌∙◌, arith}
use Rattle.av1_settings.specs.Stats.{saturated_sum}
use Rattle.av1_settings.proofs.StatsLemmas.{counts_sum-all, counts_sum-next, counts_sum-none, get_or-next}
use Rattle.av1_settings.proofs.encoder_stats.add_counts.Goals as goal

pub loop-i-init : goal.loop-i-init
loop-i-init c = (counts_sum-none c.args.counts.now c.args.more.now, c.requires)

pub loop-i-preserved : goal.loop-i-preserved
loop-i-preserved c =
    let k = c.loop-i.i in
    let xs = c.args.counts.now in
    let ys = c.args.more.now in
    let below : k < length xs = omega arith in
    let count : get_or c.loop-i.counts k 0 ≡ get_or xs k 0 =
    ap (λ zs. get_or zs k 0) c.loop-i.invariant.0 ∙ get_or-next k xs ys below c.requires in
    let sum : c.saturating_add.result ≡ saturated_sum (get_or xs k 0) (get_or ys k 0) =
    c.saturating_add.ensures ∙ ap (λ n. saturated_sum n (get_or ys k 0)) count in (
      ap (λ n. set c.loop-i.counts k n) sum
          ∙ ap (λ zs. set zs k (saturated_sum (get_or xs k 0) (get_or ys k 0))) c.loop-i.invariant.0
          ∙ counts_sum-next k xs ys below c.requires,
      c.requires,
    )

pub returns : goal.returns
returns c =
    c.loop-i.invariant.0
    ∙ counts_sum-all c.loop-i.i c.args.counts.now c.args.more.now c.loop-i-test.false c.requires
