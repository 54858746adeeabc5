use Rattle.std.proofs.Common.{◌≡◌, ◌-◌, ◌≤◌, length, drop}
use Rattle.pass_data.specs.Pieces.{given_bytes, further}
use Rattle.pass_data.proofs.given.GivenData.give_all.Given as goal

abbrev pub invariant-loop-taken : goal.invariant-loop-taken
invariant-loop-taken l = record {
  within : l.taken ≤ length l.bytes;
  so_far : given_bytes l.delay l.commands l.bytes l.initial.self ≡ further l.taken (given_bytes l.delay l.commands (drop l.taken l.bytes) l.self);
}

abbrev pub decreases-loop-taken : goal.decreases-loop-taken
decreases-loop-taken l = length l.bytes - l.taken
