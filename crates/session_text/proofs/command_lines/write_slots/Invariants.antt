use Rattle.std.proofs.Common.{◌≡◌, ◌++◌, take, string_bytes}
use Rattle.session_text.specs.CommandLines.{slots_text}
use Rattle.session_text.proofs.command_lines.write_slots.Given as goal

abbrev pub invariant-loop-i : goal.invariant-loop-i
invariant-loop-i l = string_bytes l.text ≡ string_bytes l.fn.text ++ slots_text (take l.i l.refs)
