use Rattle.std.proofs.Common.{◌^◌, FitsSigned, rules, arith}
use Rattle.std.specs.Int.{w128}
use Rattle.std.proofs.lemmas.Int.{to_z-of_z}
use Rattle.fixed_log.proofs.Coefficients.{feedback_within}
use Rattle.fixed_log.proofs.Products.{fits_128}
use Rattle.fixed_log.proofs.bessel.feedback_1.Goals as goal

pub times-requires : goal.times-requires
times-requires c =
    let a : FitsSigned w128 c.twice_gain.result = search rules in
    let b : FitsSigned w128 c.inverse_less_one.result = search rules in
    rw (to_z-of_z w128 c.twice_gain.result a, to_z-of_z w128 c.inverse_less_one.result b, c.twice_gain.ensures.value, c.inverse_less_one.ensures)
    (fits_128 (2 ^ 57) _ (omega arith) (feedback_within c.args.w c.twice_gain.ensures.most))

pub returns-clause-within : goal.returns-clause-within
returns-clause-within c =
    let t : FitsSigned w128 c.times.result = search rules in
    let a : FitsSigned w128 c.twice_gain.result = search rules in
    let b : FitsSigned w128 c.inverse_less_one.result = search rules in
    rw (to_z-of_z w128 c.times.result t, c.times.ensures, to_z-of_z w128 c.twice_gain.result a, to_z-of_z w128 c.inverse_less_one.result b, c.twice_gain.ensures.value, c.inverse_less_one.ensures)
    (feedback_within c.args.w c.twice_gain.ensures.most)
