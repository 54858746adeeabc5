use Rattle.std.proofs.Common.{◌≡◌, to_z, of_z, w64}
use Rattle.std.proofs.lemmas.Int.{to_z-of_z}
use Rattle.fixed_log.specs.Exponential.{low_runs}
use Rattle.fixed_log.proofs.ExponentialRanges.{low_small_1, low_small_2, low_small_3, low_within, high_from}
use Rattle.fixed_log.proofs.exponential.all_low_turns.Goals as goal

pub low_turns-state-requires-clause-small : goal.low_turns-state-requires-clause-small
low_turns-state-requires-clause-small c =
    let e : to_z w64 (of_z w64 c.args.high) ≡ c.args.high = to_z-of_z w64 c.args.high c.ranges.high in
    rw e (low_small_1 c.args.high c.args.state (high_from _ c.ranges.high c.requires.high) c.requires.value c.requires.left)

pub one_low_turn-state-requires-clause-small : goal.one_low_turn-state-requires-clause-small
one_low_turn-state-requires-clause-small c =
    let e : to_z w64 (of_z w64 c.args.high) ≡ c.args.high = to_z-of_z w64 c.args.high c.ranges.high in
    rw (c.low_turns-state.ensures, e) (low_small_2 c.args.high c.args.state (high_from _ c.ranges.high c.requires.high) c.requires.value c.requires.left)

pub low_turns-requires-clause-small : goal.low_turns-requires-clause-small
low_turns-requires-clause-small c =
    let e : to_z w64 (of_z w64 c.args.high) ≡ c.args.high = to_z-of_z w64 c.args.high c.ranges.high in
    rw (c.one_low_turn-state.ensures, c.low_turns-state.ensures, e) (low_small_3 c.args.high c.args.state (high_from _ c.ranges.high c.requires.high) c.requires.value c.requires.left)

pub returns-clause-state : goal.returns-clause-state
unfolding low_runs
returns-clause-state c =
    let e : to_z w64 (of_z w64 c.args.high) ≡ c.args.high = to_z-of_z w64 c.args.high c.ranges.high in
    rw (c.low_turns.ensures, c.one_low_turn-state.ensures, c.low_turns-state.ensures, e)

pub returns-clause-low : goal.returns-clause-low
returns-clause-low c =
    let e : to_z w64 (of_z w64 c.args.high) ≡ c.args.high = to_z-of_z w64 c.args.high c.ranges.high in
    rw (c.low_turns.ensures, c.one_low_turn-state.ensures, c.low_turns-state.ensures, e)
    (low_within c.args.high c.args.state (high_from _ c.ranges.high c.requires.high) c.requires.value c.requires.left).0

pub returns-clause-high : goal.returns-clause-high
returns-clause-high c =
    let e : to_z w64 (of_z w64 c.args.high) ≡ c.args.high = to_z-of_z w64 c.args.high c.ranges.high in
    rw (c.low_turns.ensures, c.one_low_turn-state.ensures, c.low_turns-state.ensures, e)
    (low_within c.args.high c.args.state (high_from _ c.ranges.high c.requires.high) c.requires.value c.requires.left).1
