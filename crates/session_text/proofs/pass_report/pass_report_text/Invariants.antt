use Rattle.std.proofs.Common.{◌≡◌, take, string_bytes}
use Rattle.session_text.specs.PassLines.{pass_report}
use Rattle.session_text.proofs.pass_report.pass_report_text.Given as goal

abbrev pub invariant-loop-turn : goal.invariant-loop-turn
invariant-loop-turn g l = string_bytes l.text ≡ pass_report l.options (take l.turn-index l.turns)
