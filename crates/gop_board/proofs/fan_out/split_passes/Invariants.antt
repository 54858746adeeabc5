use Rattle.std.proofs.Common.{◌≡◌, All}
use Rattle.gop_board.proofs.fan_out.split_passes.Given as goal

-- all passes are the queue's
abbrev pub invariant-loop : goal.invariant-loop
invariant-loop l = (l.pass.queue ≡ l.queue) × All (λ one. one.queue ≡ l.queue) l.passes.items
