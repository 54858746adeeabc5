use Rattle.std.proofs.Common.{rules, of_calls, int_lt, pos, sym}
use Rattle.std.proofs.lemmas.Fn.{always_returns_same}
use Rattle.quantizers.proofs.Below.{count_from_point, is_parted}
use Rattle.quantizers.proofs.nearest.values_below.Goals as goal

pub returns-clause-value : goal.returns-clause-value
returns-clause-value c =
    let point = c.partition_point.ensures.partitioned (λ v. int_lt (pos v) c.args.q) (always_returns_same _ _ _ (λ a r f k. search (rules, of_calls)))
    (is_parted c.args.values.now c.args.q c.requires) in
    sym (count_from_point c.args.values.now c.args.q c.partition_point.result c.partition_point.ensures.bound point)
