use Rattle.std.proofs.Common.{◌≡◌, to_z, of_z, w64}
use Rattle.std.proofs.lemmas.Int.{to_z-of_z}
use Rattle.fixed_log.proofs.ExponentialRanges.{with_room}
use Rattle.fixed_log.proofs.exponential.low_turns.Goals as goal

pub one_low_turn-requires-clause-small : goal.one_low_turn-requires-clause-small
one_low_turn-requires-clause-small c =
    let e : to_z w64 (of_z w64 c.args.high) ≡ c.args.high = to_z-of_z w64 c.args.high c.ranges.high in
    rw (c.loop-k.invariant, e) (with_room _ (c.requires.small c.loop-k.k c.loop-k-test.true))
