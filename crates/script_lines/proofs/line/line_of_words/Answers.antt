use Rattle.std.proofs.Common.{◌≡◌, ◌∷◌, sym}
use Rattle.script_lines.specs.Lines.{parts}
use Rattle.script_lines.proofs.LineWords.{too_many}
use Rattle.script_lines.proofs.line.line_of_words.Goals as goal

pub returns-in-Some-rest-2 : goal.returns-in-Some-rest-2
returns-in-Some-rest-2 c =
    let word = c.cut.result.0.now in
    let left = c.in-Some-rest-2.field-0.now in
    let one : parts 32 c.args.text.now ≡ word ∷ parts 32 c.in-Some.rest.now = rw c.in-Some.is at c.cut.ensures.parts in
    let two : parts 32 c.in-Some.rest.now ≡ c.cut-2.result.0.now ∷ parts 32 c.in-Some-rest.rest.now = rw c.in-Some-rest.is at c.cut-2.ensures.parts in
    let three : parts 32 c.in-Some-rest.rest.now ≡ c.cut-3.result.0.now ∷ parts 32 left = rw c.in-Some-rest-2.is at c.cut-3.ensures.parts in
    rw (one, two, three) (sym (too_many word c.cut-2.result.0.now c.cut-3.result.0.now left 32))
