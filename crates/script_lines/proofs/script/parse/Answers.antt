use Rattle.std.proofs.Common.{◌≡◌, ◌+◌}
use Rattle.std.proofs.lemmas.Result.{MatchResult-weaker}
use Rattle.script_lines.specs.declared.script.Script.{Script}
use Rattle.script_lines.specs.declared.script.ScriptError.{ScriptError}
use Rattle.script_lines.specs.Grammar.{script_after, script_at_end, script_of}
use Rattle.script_lines.specs.Lines.{lines_of}
use Rattle.script_lines.proofs.Giving.{gives_nothing}
use Rattle.script_lines.proofs.Jobs.{of_gops}
use Rattle.script_lines.proofs.script.parse.Goals as goal

pub returns-in-Ok-clause-script : goal.returns-in-Ok-clause-script
unfolding script_of
returns-in-Ok-clause-script c =
    let added : script_after c.new-draft.result 1 (lines_of c.args.text.now) ≡ script_at_end c.add_lines.new.self (c.in-Ok.count + 1) = c.in-Ok.ensures.lines in
    rw (rw c.new-draft.ensures at added) c.into_script.ensures

pub returns-in-Ok-clause-gives_nothing : goal.returns-in-Ok-clause-gives_nothing
returns-in-Ok-clause-gives_nothing c other =
    MatchResult-weaker c.into_script.result (returns-in-Ok-clause-script c)
    (λ (script : Script) read. gives_nothing c.args.dialect other c.args.text.now script read) (λ (e : ScriptError) why. tt)

pub returns-in-Ok-clause-of_gops : goal.returns-in-Ok-clause-of_gops
returns-in-Ok-clause-of_gops c is =
    MatchResult-weaker c.into_script.result (returns-in-Ok-clause-script c)
    (λ (script : Script) read. of_gops c.args.text.now script (rw is at read)) (λ (e : ScriptError) why. tt)

pub returns-in-Err-clause-script : goal.returns-in-Err-clause-script
unfolding script_of
returns-in-Err-clause-script c = rw c.new-draft.ensures at c.in-Err.ensures.lines
