use Rattle.std.proofs.Common.{◌≡◌, ◌++◌, replicate}
use Rattle.script_lines.specs.declared.line.ScriptCall.TheVariants.{Act}
use Rattle.generated_script.proofs.script.push_calls.Given as goal

abbrev pub invariant-loop-done : goal.invariant-loop-done
invariant-loop-done l = l.calls ≡ l.initial.calls ++ replicate l._done (Act l.action)
