use Rattle.std.proofs.Common.{◌≡◌, take, string_bytes}
use Rattle.session_text.specs.PacketLines.{packet_lines}
use Rattle.session_text.proofs.packet_lines.packets_text.Given as goal

abbrev pub invariant-loop-packet : goal.invariant-loop-packet
invariant-loop-packet g l = string_bytes l.text ≡ packet_lines (take l.packet-index l.packets)
