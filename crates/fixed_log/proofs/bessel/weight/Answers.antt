use Rattle.std.proofs.Common.{◌≡◌, ◌^◌, ◌*ℤ◌, arith, rules, to_z, of_z}
use Rattle.std.specs.Int.{w128}
use Rattle.std.proofs.lemmas.Int.{ints}
use Rattle.fixed_log.specs.Within.{IsWithin}
use Rattle.fixed_log.proofs.Products.{product_within}
use Rattle.fixed_log.proofs.bessel.weight.Goals as goal

pub returns-clause-within : goal.returns-clause-within
returns-clause-within c =
    let e : to_z w128 (of_z w128 c.times.result) ≡ c.args.a *ℤ c.args.b = search rules in
    let short : IsWithin (2 ^ 31) c.args.b = record { low = omega (arith, ints); high = omega (arith, ints) } in
    rw e (product_within c.args.a c.args.b (2 ^ 34) (2 ^ 31) c.requires short)
