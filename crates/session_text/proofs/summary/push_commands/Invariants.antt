use Rattle.std.proofs.Common.{◌≡◌, ◌++◌, map, take}
use Rattle.session_core.specs.Turns.{real_entries}
use Rattle.session_text.proofs.summary.push_commands.Given as goal

abbrev pub invariant-loop-entry : goal.invariant-loop-entry
invariant-loop-entry l =
    l.commands.items ≡ l.fn.commands.items ++ map (λ entry. entry.command) (real_entries (take l.entry-index l.log))
