use Rattle.std.proofs.Common.{◌≡◌, ℕ, ℤ, ◌*◌, ◌^◌, ◌+◌, ◌<◌, pos, ◌<ℤ◌, ◌≤ℤ◌, ◌+ℤ◌, ◌-ℤ◌, to_z, w64, rules, arith}
use Rattle.std.proofs.lemmas.Int.{ints, to_z_pos}
use Rattle.fixed_log.specs.Logarithm.{highest_bit}
use Rattle.fixed_log.specs.Within.{IsWithin}
use Rattle.quantizers.proofs.Bits.{highest_bit_short}
use Rattle.quantizers.proofs.flat.log_of_value.Goals as goal

within : (bit : ℕ) (a s : ℤ) → bit < 16 → pos (bit * 2 ^ 57) ≤ℤ (a +ℤ pos (2 ^ 59)) → a ≤ℤ pos (bit * 2 ^ 57 + 2 ^ 59) →
    pos (3 * 2 ^ 57) ≤ℤ s → s ≤ℤ pos (7 * 2 ^ 57) → IsWithin (2 ^ 61) (a -ℤ s)
within bit a s small low high least most = record { low = omega (arith, ints); high = omega (arith, ints) }

pub returns-clause-within : goal.returns-clause-within
returns-clause-within c =
    let n = c.args.value in
    let bit : highest_bit n < 16 = highest_bit_short n (omega arith) (omega arith) in
    let e : to_z w64 n ≡ pos n = to_z_pos w64 n (omega arith) in
    let some : pos 0 <ℤ pos n = omega (arith, ints) in
    let lows = rw e at c.blog64.ensures.low in
    let highs = rw e at c.blog64.ensures.high in
    let done : IsWithin (2 ^ 61) (c.blog64.result -ℤ c.table_scale.result) =
    within (highest_bit n) c.blog64.result c.table_scale.result bit (lows some) (highs some) c.table_scale.ensures.low c.table_scale.ensures.high in
    search rules
