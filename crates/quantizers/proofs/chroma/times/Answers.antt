use Rattle.std.proofs.Common.{◌≡◌, ◌^◌, ◌*ℤ◌, rules, to_z, of_z, w64}
use Rattle.std.specs.Int.{w128}
use Rattle.quantizers.proofs.Products.{product_within}
use Rattle.quantizers.proofs.chroma.times.Goals as goal

pub returns-clause-within : goal.returns-clause-within
returns-clause-within c =
    let e : to_z w128 (of_z w128 (to_z w128 (of_z w128 (to_z w64 (of_z w64 c.args.a))) *ℤ to_z w128 (of_z w128 (to_z w64 (of_z w64 c.args.b))))) ≡ c.args.a *ℤ c.args.b = search rules in
    rw e (product_within c.args.a c.args.b (2 ^ 31) (2 ^ 28) c.requires.a c.requires.b)
