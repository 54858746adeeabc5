use Rattle.std.proofs.Common.{◌≡◌, ◌+◌, ◌≤◌, length}
use Rattle.script_lines.specs.Grammar.{script_after}
use Rattle.script_lines.specs.Lines.{lines_of}
use Rattle.script_lines.proofs.script.Draft.add_lines.Given as goal

abbrev pub invariant-loop-rest : goal.invariant-loop-rest
invariant-loop-rest l = record {
  whole : script_after l.self (l.number + 1) (lines_of l.rest) ≡ script_after l.initial.self 1 (lines_of l.text);
  count : l.number + length l.rest ≤ length l.text;
}

abbrev pub decreases-loop-rest : goal.decreases-loop-rest
decreases-loop-rest l = length l.rest
