use Rattle.std.proofs.Common.{◌+◌, ◌*ℤ◌}
use Rattle.std.specs.Int.{w128}
use Rattle.std.proofs.lemmas.Int.{to_z-of_z}
use Rattle.fixed_log.proofs.Products.{product_kept}
use Rattle.fixed_log.proofs.Sizes.{product_of_powers, fits_power}
use Rattle.fixed_log.proofs.wide.product.Goals as goal

pub overflow_mul-result : goal.overflow_mul-result
overflow_mul-result g c =
    let size = product_of_powers c.args.a c.args.b g.row.A g.row.B c.requires.a c.requires.b in
    rw (to_z-of_z w128 c.args.a c.ranges.a, to_z-of_z w128 c.args.b c.ranges.b)
    (fits_power (c.args.a *ℤ c.args.b) (g.row.A + g.row.B) c.requires.bits size)

pub returns-clause-value : goal.returns-clause-value
returns-clause-value g c =
    let size = product_of_powers c.args.a c.args.b g.row.A g.row.B c.requires.a c.requires.b in
    product_kept w128 c.args.a c.args.b c.ranges.a c.ranges.b
    (fits_power (c.args.a *ℤ c.args.b) (g.row.A + g.row.B) c.requires.bits size)

pub returns-clause-within : goal.returns-clause-within
returns-clause-within g c =
    let size = product_of_powers c.args.a c.args.b g.row.A g.row.B c.requires.a c.requires.b in
    rw (product_kept w128 c.args.a c.args.b c.ranges.a c.ranges.b
    (fits_power (c.args.a *ℤ c.args.b) (g.row.A + g.row.B) c.requires.bits size)) size
