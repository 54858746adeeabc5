use Rattle.std.proofs.Common.{◌+◌, max, ◌-ℤ◌, FitsSigned, arith}
use Rattle.std.specs.Int.{w128}
use Rattle.std.proofs.lemmas.Int.{to_z-of_z}
use Rattle.fixed_log.proofs.Sizes.{difference_of_powers, fits_power}
use Rattle.fixed_log.proofs.wide.difference.Goals as goal

pub overflow_sub-result : goal.overflow_sub-result
overflow_sub-result g c =
    let fits : FitsSigned w128 (c.args.a -ℤ c.args.b) =
    fits_power (c.args.a -ℤ c.args.b) (max g.row.A g.row.B + 1) (omega arith) (difference_of_powers c.args.a c.args.b g.row.A g.row.B c.requires.a c.requires.b) in
    rw (to_z-of_z w128 c.args.a c.ranges.a, to_z-of_z w128 c.args.b c.ranges.b) fits

pub returns-clause-value : goal.returns-clause-value
returns-clause-value g c =
    let fits : FitsSigned w128 (c.args.a -ℤ c.args.b) =
    fits_power (c.args.a -ℤ c.args.b) (max g.row.A g.row.B + 1) (omega arith) (difference_of_powers c.args.a c.args.b g.row.A g.row.B c.requires.a c.requires.b) in
    rw (to_z-of_z w128 c.args.a c.ranges.a, to_z-of_z w128 c.args.b c.ranges.b) (to_z-of_z w128 (c.args.a -ℤ c.args.b) fits)

pub returns-clause-within : goal.returns-clause-within
returns-clause-within g c =
    let size = difference_of_powers c.args.a c.args.b g.row.A g.row.B c.requires.a c.requires.b in
    let fits : FitsSigned w128 (c.args.a -ℤ c.args.b) = fits_power (c.args.a -ℤ c.args.b) (max g.row.A g.row.B + 1) (omega arith) size in
    rw (to_z-of_z w128 c.args.a c.ranges.a, to_z-of_z w128 c.args.b c.ranges.b, to_z-of_z w128 (c.args.a -ℤ c.args.b) fits) size
