use Rattle.std.proofs.Common.{◌≡◌}
use Rattle.session_channels.proofs.shared_queue.Shared.put.Given as goal

-- the message that waits is the one that was to be put
abbrev pub invariant-loop : goal.invariant-loop
invariant-loop g l = l.waiting ≡ l.fn.message
