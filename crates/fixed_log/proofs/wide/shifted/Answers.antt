use Rattle.std.proofs.Common.{FitsSigned, rules}
use Rattle.std.specs.Int.{w128, int_shr}
use Rattle.std.proofs.lemmas.Int.{to_z-of_z}
use Rattle.fixed_log.proofs.Sizes.{shifted_power}
use Rattle.fixed_log.proofs.wide.shifted.Goals as goal

pub returns-clause-within : goal.returns-clause-within
returns-clause-within g c =
    let fits : FitsSigned w128 (int_shr c.args.a g.row.K) = search rules in
    rw (to_z-of_z w128 c.args.a c.ranges.a, to_z-of_z w128 (int_shr c.args.a g.row.K) fits)
    (shifted_power c.args.a g.row.A g.row.K c.requires.bits c.requires.a)
