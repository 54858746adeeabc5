use Rattle.std.proofs.Common.{◌≡◌, arith, rules, ◌*ℤ◌, to_z, of_z}
use Rattle.std.specs.Int.{w128}
use Rattle.std.proofs.lemmas.Int.{ints}
use Rattle.reservoir.proofs.Products.{product_positive}
use Rattle.reservoir.proofs.levels.reservoir_most.Goals as goal

pub returns-clause-low : goal.returns-clause-low
returns-clause-low c =
    let e : to_z w128 (of_z w128 c.product.result) ≡ c.args.bits_per_tu *ℤ c.args.delay = search rules in
    let bits = c.requires.bits_low in
    rw e (product_positive c.args.bits_per_tu c.args.delay (omega (arith, ints)) c.requires.delay)
