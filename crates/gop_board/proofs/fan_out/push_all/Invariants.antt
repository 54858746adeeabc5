use Rattle.std.proofs.Common.{◌≡◌}
use Rattle.gop_board.specs.Handing.{first_part}
use Rattle.gop_board.proofs.fan_out.push_all.Given as goal

-- so many numbers were put
abbrev pub invariant-loop : goal.invariant-loop
invariant-loop g l = (l.pass.queue ≡ l.queue) × (l.pass.part ≡ record (first_part l.jobs) { pushed = l.counter })
