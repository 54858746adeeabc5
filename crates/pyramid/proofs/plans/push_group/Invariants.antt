use Rattle.std.proofs.Common.{◌≡◌, ◌++◌, take}
use Rattle.pyramid.proofs.GopSteps.{group_of}
use Rattle.pyramid.proofs.plans.push_group.Given as goal

abbrev pub invariant-loop-row : goal.invariant-loop-row
invariant-loop-row l =
    l.commands.items ≡ l.initial.commands.items ++ group_of l.cfg l.start l.length l.number (take l.row-index l.rows)
