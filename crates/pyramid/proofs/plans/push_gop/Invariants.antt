use Rattle.std.proofs.Common.{◌≡◌, ◌++◌}
use Rattle.pyramid.specs.Gop.{groups}
use Rattle.pyramid.proofs.plans.push_gop.Given as goal

abbrev pub invariant-loop-number : goal.invariant-loop-number
invariant-loop-number l =
    l.commands.items ≡ l.initial.commands.items ++ groups l.cfg l.start l.length l.number
