use Rattle.std.proofs.Common.{◌≡◌, ◌++◌, replicate}
use Rattle.script_lines.specs.declared.line.ScriptCall.TheVariants.{Act}
use Rattle.script_lines.proofs.script.Draft.add_calls.Given as goal

abbrev pub invariant-loop-done : goal.invariant-loop-done
invariant-loop-done l =
    let before = l.initial.self.script in
    l.self ≡ record l.initial.self { script = record before { calls = before.calls ++ replicate l._done (Act l.action) } }
