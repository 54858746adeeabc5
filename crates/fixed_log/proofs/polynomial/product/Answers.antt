use Rattle.std.proofs.Common.{w32, ◌^◌, ◌*ℤ◌, arith, FitsSigned}
use Rattle.std.proofs.lemmas.Int.{ints}
use Rattle.fixed_log.proofs.Products.{product_within, product_kept}
use Rattle.fixed_log.proofs.polynomial.product.Goals as goal

pub returns-clause-value : goal.returns-clause-value
returns-clause-value c =
    let within = product_within c.args.n c.args.t (2 ^ 14) (2 ^ 15) c.requires.n c.requires.t in
    product_kept w32 c.args.n c.args.t c.ranges.n c.ranges.t (let low = within.low in let high = within.high in omega (arith, ints))

pub returns-clause-within : goal.returns-clause-within
returns-clause-within c =
    let within = product_within c.args.n c.args.t (2 ^ 14) (2 ^ 15) c.requires.n c.requires.t in
    let low = within.low in let high = within.high in
    let fits : FitsSigned w32 (c.args.n *ℤ c.args.t) = omega (arith, ints) in
    rw (product_kept w32 c.args.n c.args.t c.ranges.n c.ranges.t fits) within
