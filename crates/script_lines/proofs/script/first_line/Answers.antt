use Rattle.std.proofs.Common.{◌≡◌, ◌∷◌}
use Rattle.script_lines.specs.Lines.{parts}
use Rattle.script_lines.proofs.Lines.{line_fed}
use Rattle.script_lines.proofs.script.first_line.Goals as goal

pub returns-in-Some-clause-lines : goal.returns-in-Some-clause-lines
returns-in-Some-clause-lines c =
    let line = c.cut.result.0.now in
    let rest = c.in-Some.rest.now in
    let split : parts 10 c.args.text.now ≡ line ∷ parts 10 rest = rw c.in-Some.is at c.cut.ensures.parts in
    line_fed c.args.text.now line rest split
