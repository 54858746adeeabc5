use Rattle.std.proofs.Common.{◌≡◌, ◌++◌, ◌∷◌, ◌<◌, length, take, get_or, ap, ◌∙◌, append_assoc, string_bytes, arith}
use Rattle.std.specs.Fmt.{decimal}
use Rattle.std.proofs.Math.Seq.{take-length}
use Rattle.session_text.specs.CommandLines.{slots_text}
use Rattle.session_text.proofs.Slots.{no_slots, one_slot, more_slots}
use Rattle.session_text.proofs.command_lines.write_slots.Goals as goal

pub returns-then-len-eq0 : goal.returns-then-len-eq0
returns-then-len-eq0 c =
    let none : length c.args.refs.now ≡ 0 = omega arith in
    rw (no_slots c.args.refs.now none) c.in_ok-push_str.ensures.bytes

pub loop-i-init : goal.loop-i-init
loop-i-init c =
    let some : 0 < length c.args.refs.now = omega arith in
    let first : c.get-first.result ≡ get_or c.args.refs.now 0 0 = c.get-first.ensures.value in
    rw (one_slot c.args.refs.now some, ← first) c.in_ok-write.ensures.bytes

pub loop-i-preserved : goal.loop-i-preserved
loop-i-preserved c =
    let refs = c.args.refs.now in
    let i = c.loop-i.i in
    let slot : c.get-slot.result ≡ get_or refs i 0 = c.get-slot.ensures.value in
    let before = string_bytes c.args.text.now in
    rw (more_slots refs i (omega arith) (omega arith), ← slot)
    (c.in_ok-write-2.ensures.bytes ∙ ap (λ front. front ++ 32 ∷ decimal c.get-slot.result) c.loop-i.invariant ∙ append_assoc before (slots_text (take i refs)) (32 ∷ decimal c.get-slot.result))

pub returns : goal.returns
returns c =
    let refs = c.args.refs.now in
    let at : c.loop-i.i ≡ length refs = omega arith in
    rw (at, take-length refs) at c.loop-i.invariant
