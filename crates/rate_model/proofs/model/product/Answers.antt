use Rattle.std.proofs.Common.{◌^◌, arith}
use Rattle.std.proofs.lemmas.Int.{ints}
use Rattle.fixed_log.specs.Within.{IsWithin}
use Rattle.rate_model.proofs.model.product.Goals as goal

pub returns-clause-within : goal.returns-clause-within
returns-clause-within c =
    let product : IsWithin (2 ^ 94) c.times.result =
    c.times.ensures.within (2 ^ 31) (2 ^ 63)
    (record { low = omega (arith, ints); high = omega (arith, ints) })
    (record { low = omega (arith, ints); high = omega (arith, ints) }) in
    let low = product.low in
    let high = product.high in
    record { low = omega (arith, ints); high = omega (arith, ints) }
