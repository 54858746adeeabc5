use Rattle.std.proofs.Common.{◌≡◌, is_some, not, drop}
use Rattle.std.specs.List.{find}
use Rattle.pyramid.specs.Display.{held}
use Rattle.slot_replay.proofs.machine.first_empty_ref.Given as goal

abbrev pub invariant-loop-i : goal.invariant-loop-i
invariant-loop-i l =
    find (λ slot. not (is_some (held l.slots slot))) (drop l.i l.refs) ≡ find (λ slot. not (is_some (held l.slots slot))) l.refs
