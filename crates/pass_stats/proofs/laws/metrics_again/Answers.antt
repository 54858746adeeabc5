use Rattle.std.proofs.Common.{◌≡◌, take, arith}
use Rattle.std.proofs.lemmas.List.{take_all}
use Rattle.pass_stats.specs.Metric.{Metric}
use Rattle.pass_stats.proofs.laws.metrics_again.Goals as goal

pub returns : goal.returns
returns c =
    let items = c.write_metrics-bytes.result.items in
    let written : Metric items c.args.m.now = c.write_metrics-bytes.ensures.written in
    let whole : take 8 items ≡ items = take_all 8 items (omega (arith, written.size)) in
    let read : Metric c.chunk.result c.args.m.now = rw (c.chunk.ensures, c.as_slice.ensures.value, whole) written in
    (c.parse_metrics.ensures.accepted c.args.m.now).1 read
