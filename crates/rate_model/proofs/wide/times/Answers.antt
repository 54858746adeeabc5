use Rattle.std.proofs.Common.{◌≡◌, ◌^◌, ◌*ℤ◌, rules, arith, to_z, of_z, w64, FitsSigned}
use Rattle.std.specs.Int.{w128}
use Rattle.rate_model.proofs.Products.{product_within, fits_128}
use Rattle.rate_model.proofs.wide.times.Goals as goal

pub returns-clause-within : goal.returns-clause-within
returns-clause-within c =
    let fits_b : FitsSigned w128 c.args.b = fits_128 (2 ^ 63) c.args.b (omega arith) c.requires.b in
    let fits : FitsSigned w128 (c.args.a *ℤ c.args.b) =
    fits_128 (2 ^ 126) _ (omega arith) (product_within c.args.a c.args.b (2 ^ 63) (2 ^ 63) c.requires.a c.requires.b) in
    let e : to_z w128 (of_z w128 (to_z w128 (of_z w128 c.args.a) *ℤ to_z w128 (of_z w128 (to_z w64 (of_z w64 c.args.b))))) ≡ c.args.a *ℤ c.args.b = search rules in
    λ m n a b. rw e (product_within c.args.a c.args.b m n a b)
