use Rattle.std.proofs.Common.{◌≡◌, take}
use Rattle.session_core.specs.Sessions.{commands_of}
use Rattle.session_text.proofs.summary.commands.Given as goal

abbrev pub invariant-loop-turn : goal.invariant-loop-turn
invariant-loop-turn g l = l.commands.items ≡ commands_of (take l.turn-index l.turns)
