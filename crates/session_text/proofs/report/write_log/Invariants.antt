use Rattle.std.proofs.Common.{◌≡◌, ◌++◌, take, string_bytes}
use Rattle.session_text.specs.ReportLines.{log_lines}
use Rattle.session_text.proofs.report.write_log.Given as goal

abbrev pub invariant-loop-entry : goal.invariant-loop-entry
invariant-loop-entry l =
    string_bytes l.text ≡ string_bytes l.fn.text ++ log_lines l.options (take l.entry-index l.log)
