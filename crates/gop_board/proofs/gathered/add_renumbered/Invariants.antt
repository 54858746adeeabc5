use Rattle.std.proofs.Common.{◌≡◌, ◌++◌, length}
use Rattle.gop_board.specs.Packets.{numbered_from}
use Rattle.gop_board.proofs.gathered.add_renumbered.Given as goal

-- the packets so far, numbered anew
abbrev pub invariant-loop-packet : goal.invariant-loop-packet
invariant-loop-packet g l =
    (goal.iterator-loop-packet g).can_next l.packet-iterator
    × (goal.iterator-loop-packet g).is_finite l.packet-iterator
    × (l.packets ≡ l.initial.packets ++ numbered_from (length l.initial.packets) l.yielded)
    × (l.yielded ++ l.packet-iterator.rest.items ≡ l.fn.more)
