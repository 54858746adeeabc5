use Rattle.std.proofs.Common.{append_assoc}
use Rattle.session_text.specs.ReportLines.{turn_lines}
use Rattle.session_text.proofs.report.write_turn.Goals as goal

pub returns : goal.returns
unfolding turn_lines
returns g c =
    rw (c.in_ok-write_reservoir.ensures, c.in_ok-write_behind.ensures, c.in_ok-write_reply.ensures, c.in_ok-write_log.ensures, c.as_slice.ensures)
    (simp append_assoc)
