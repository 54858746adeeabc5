use Rattle.std.proofs.Common.{◌≡◌, length, get_or, Some, None, sym, ◌∙◌, arith}
use Rattle.script_lines.proofs.Digits.{next_digit, digits_more, digits_stop, digits_done}
use Rattle.script_lines.proofs.number.digits.Goals as goal

pub returns-in_err-value : goal.returns-in_err-value
returns-in_err-value c =
    let i = c.loop-byte.byte-index in
    let stopped : next_digit c.loop-byte.value (get_or c.args.text.now i 0) ≡ None =
    sym c.with_digit.ensures ∙ c.in_err-value.was in
    c.from_residual.ensures ∙ sym (digits_stop c.args.text.now i c.loop-byte.value c.loop-byte-test.true c.loop-byte.invariant.value stopped)

pub loop-byte-preserved : goal.loop-byte-preserved
loop-byte-preserved c =
    let i = c.loop-byte.byte-index in
    let next : next_digit c.loop-byte.value (get_or c.args.text.now i 0) ≡ Some c.in_ok-value.value =
    sym c.with_digit.ensures ∙ c.in_ok-value.was in
    let more = digits_more c.args.text.now i c.loop-byte.value c.in_ok-value.value c.loop-byte-test.true c.loop-byte.invariant.digits c.loop-byte.invariant.value next in
    record { digits = more.0; value = more.1; small = more.2 }

pub returns : goal.returns
returns c =
    let text = c.args.text.now in
    let i = c.loop-byte.byte-index in
    let at : i ≡ length text = omega arith in
    digits_done text c.loop-byte.value (rw at at c.loop-byte.invariant.digits) (rw at at c.loop-byte.invariant.value) c.loop-byte.invariant.small
