-- Packets, each as a line.
use Rattle.std.specs.Prelude.{ℕ, List, [], ◌∷◌, ◌++◌, flat_map}
use Rattle.session_core.specs.declared.packet.Packet.{Packet}
use Rattle.session_core.specs.PacketText.{packet_text}

-- a packet's line
unfoldable pub packet_line : {T O : Type 0} → Packet T O → List ℕ
packet_line packet = packet_text packet ++ 10 ∷ []

-- the lines of packets
abbrev pub packet_lines : {T O : Type 0} → List (Packet T O) → List ℕ
packet_lines packets = flat_map packet_line packets
