use Rattle.std.proofs.Common.{◌≡◌, ◌++◌}
use Rattle.gop_channel.specs.Messages.{PutsPackets}
use Rattle.gop_channel.proofs.putting.put_packets.Given as goal

-- the packets so far were put
abbrev pub invariant-loop-packet : goal.invariant-loop-packet
invariant-loop-packet g l =
    (goal.iterator-loop-packet g).can_next l.packet-iterator
    × (goal.iterator-loop-packet g).is_finite l.packet-iterator
    × PutsPackets g.P.Put.contents g.P.Put.queue l.initial.queue l.queue l.yielded
    × (l.yielded ++ l.packet-iterator.rest.items ≡ l.fn.packets)
