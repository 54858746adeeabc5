use Rattle.std.proofs.Common.{append_assoc}
use Rattle.session_text.specs.CommandLines.{code_line}
use Rattle.session_text.proofs.command_lines.write_code.Goals as goal

pub returns : goal.returns
unfolding code_line
returns c = rw (c.in_ok-writeln.ensures.bytes, c.in_ok-write_slots.ensures, c.in_ok-write.ensures.bytes) (simp append_assoc)
