use Rattle.std.proofs.Common.{◌≡◌, ◌++◌}
use Rattle.session_core.specs.Sessions.{packets_of}
use Rattle.gop_board.proofs.job_session.packets_of.Given as goal

-- the packets of the turns so far
abbrev pub invariant-loop-turn : goal.invariant-loop-turn
invariant-loop-turn g l =
    (goal.iterator-loop-turn g).can_next l.turn-iterator
    × (goal.iterator-loop-turn g).is_finite l.turn-iterator
    × (l.packets ≡ packets_of l.yielded)
    × (l.yielded ++ l.turn-iterator.rest.items ≡ l.fn.transcript.turns)
