-- A packet as one line of text.
use Rattle.std.specs.Prelude.{ℕ, List, ◌++◌, length, codes}
use Rattle.std.specs.Fmt.{decimal}
use Rattle.av1_settings.specs.Texts.{frame_type_text}
use Rattle.session_core.specs.declared.packet.Packet.{Packet}

-- its number, its type, and how many bytes it has
abbrev pub packet_text : {T O : Type 0} → Packet T O → List ℕ
packet_text packet =
    codes "Frame "
    ++ (decimal packet.input_frameno
    ++ (codes " - " ++ (frame_type_text packet.frame_type ++ (codes " - " ++ (decimal (length packet.bytes) ++ codes " bytes")))))
