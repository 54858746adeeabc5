use Rattle.std.proofs.Common.{◌≡◌}
use Rattle.tests_of_queues.proofs.job_numbers.pop_all.Given as goal

-- the pass still belongs to the queue
abbrev pub invariant-loop : goal.invariant-loop
invariant-loop g l = l.pass.queue ≡ l.queue
