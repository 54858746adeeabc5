use Rattle.std.proofs.Common.{◌≡◌, length, map, take}
use Rattle.session_core.specs.Sessions.{packets_of}
use Rattle.session_text.proofs.summary.packet_sizes.Given as goal

abbrev pub invariant-loop-turn : goal.invariant-loop-turn
invariant-loop-turn g l =
    l.sizes.items ≡ map (λ packet. length packet.bytes) (packets_of (take l.turn-index l.turns))
