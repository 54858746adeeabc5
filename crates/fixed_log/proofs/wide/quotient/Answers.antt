use Rattle.std.proofs.Common.{◌^◌, pos, ◌<ℤ◌, ◌<◌, arith}
use Rattle.std.specs.Int.{w128}
use Rattle.std.proofs.lemmas.Int.{ints, quot_is, quot_fits}
use Rattle.std.proofs.lemmas.Nat.{pow_pos}
use Rattle.fixed_log.proofs.Sizes.{quotient_of_powers}
use Rattle.fixed_log.proofs.wide.quotient.Goals as goal

pub returns-clause-within : goal.returns-clause-within
returns-clause-within g c =
    let some : 0 < 2 ^ g.row.D = pow_pos g.row.D in
    let least = c.requires.d in
    let positive : pos 0 <ℤ c.args.d = omega (arith, ints) in
    rw (quot_is w128 c.args.a c.args.d c.ranges.a c.ranges.d (quot_fits w128 c.args.a c.args.d c.ranges.a positive))
    (quotient_of_powers c.args.a c.args.d g.row.A g.row.D c.requires.bits c.requires.a c.requires.d)
