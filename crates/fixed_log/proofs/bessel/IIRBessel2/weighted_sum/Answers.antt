use Rattle.std.proofs.Common.{◌≡◌, pos, ◌+ℤ◌, ◌*ℤ◌, FitsSigned, rules}
use Rattle.std.specs.Int.{w128}
use Rattle.std.proofs.lemmas.Int.{to_z-of_z}
use Rattle.fixed_log.proofs.bessel.IIRBessel2.weighted_sum.Goals as goal

pub returns : goal.returns
returns c =
    let sum : FitsSigned w128 c.sum.result = search rules in
    let fed_in : FitsSigned w128 c.weight-fed_in.result = search rules in
    let first : FitsSigned w128 c.fed_back.result = search rules in
    let second : FitsSigned w128 c.fed_back-2.result = search rules in
    let fed_in_is : c.weight-fed_in.result ≡ ((c.args.x +ℤ pos 2 *ℤ c.self.inside.x0) +ℤ c.self.inside.x1) *ℤ c.self.inside.g = search rules in
    let first_is : c.fed_back.result ≡ c.self.inside.y0 *ℤ c.self.inside.c0 = search rules in
    let second_is : c.fed_back-2.result ≡ c.self.inside.y1 *ℤ c.self.inside.c1 = search rules in
    rw (to_z-of_z w128 c.sum.result sum, c.sum.ensures, to_z-of_z w128 c.weight-fed_in.result fed_in, to_z-of_z w128 c.fed_back.result first, to_z-of_z w128 c.fed_back-2.result second, ← c.self.view_is, fed_in_is, first_is, second_is)
