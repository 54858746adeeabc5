use Rattle.std.proofs.Common.{◌^◌, arith}
use Rattle.std.proofs.lemmas.Int.{ints}
use Rattle.fixed_log.specs.Within.{IsWithin}
use Rattle.ratecontrol.proofs.state.RCState.mean_bias.Goals as goal

pub returns-clause-within : goal.returns-clause-within
returns-clause-within c =
    let bias = c.self.invariant.bias in
    let low = bias.low in
    let high = bias.high in
    let least = c.self.invariant.coded_low in
    let most = c.self.invariant.coded_high in
    let mean : IsWithin (2 ^ 90) c.quotient.result =
    c.quotient.ensures.within (2 ^ 90) (2 ^ 6) (omega (arith, ints))
    (record { low = omega (arith, ints); high = omega (arith, ints) }) in
    let mean_low = mean.low in
    let mean_high = mean.high in
    record { low = omega (arith, ints); high = omega (arith, ints) }
