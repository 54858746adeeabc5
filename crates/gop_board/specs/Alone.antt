-- A job's packets beside those of any session over the same frames alone.
use Rattle.std.specs.Prelude.{◌≡◌, ◌≤◌, ⊤, ℕ, false, int_lt, pos, List, map, length, slice_get, All, IsTrue, Some, None, IsSome}
use Rattle.av1_frame.specs.declared.frame.Frame.{Frame}
use Rattle.av1_frame.specs.Planes.{fits}
use Rattle.av1_settings.specs.declared.encoder.EncoderConfig.{EncoderConfig}
use Rattle.quantizers.specs.Tables.{Tables}
use Rattle.session_core.specs.declared.call.Call.{Call}
use Rattle.session_core.specs.declared.packet.Packet.{Packet}
use Rattle.session_core.specs.declared.transcript.Transcript.{Transcript}
use Rattle.session_core.specs.Sessions.{IsSessionRun, accepted_in, packets_of}
use Rattle.session_core.specs.Told.{Heard}
use Rattle.session_core.specs.Turns.{accepted_of, frame_limit}
use Rattle.gop_board.specs.JobSessions.{GavePackets, IsFresh}
use Rattle.gop_board.specs.Makers.{MakerTold}

-- packets of a session with these settings that accepted just these frames, sent without parameters, with a detector that finds no
-- scene change, and a coder and mean scales as they are made that tell this ahead
pub record GaveAlone {T : Type 0} (enc : EncoderConfig) (tables : Tables) (ahead : MakerTold T) (pictures : List (Frame T))
    (packets : List (Packet T ⊤)) : Type 0 where
  pub before : Heard T
  pub after : Heard T
  pub fresh : IsFresh ahead before
  pub calls : List (Call T ⊤)
  pub transcript : Transcript T ⊤
  pub run : IsSessionRun enc tables calls transcript before after
  pub sent : accepted_in calls transcript.turns ≡ map (λ picture. accepted_of picture None) pictures
  pub packets_are : packets ≡ packets_of transcript.turns

-- without a bitrate and with frames such as a session accepts, where it is told what the coder gives and the mean scales, the packets of a job have the bytes of those of such
-- a session, packet by packet, as far as both gave some
abbrev pub PacketsHaveTheSameBytes : {T M : Type 0} → (M → ℕ → ℕ → MakerTold T) → Type 0
PacketsHaveTheSameBytes {T} {M} told =
    (enc : EncoderConfig) (tables : Tables) (maker : M) (job first : ℕ) (pictures : List (Frame T)) (packets others : List (Packet T ⊤)) →
    int_lt (pos 0) enc.bitrate ≡ false → IsSome (told maker job first).gives → IsSome (told maker job first).answers →
    All (λ picture. IsTrue (fits picture enc.width enc.height enc.chroma_sampling)) pictures → length pictures ≤ frame_limit →
    (IsTrue enc.still_picture → length pictures ≤ 1) →
    GavePackets enc tables (told maker job first) pictures packets → GaveAlone enc tables (told maker job first) pictures others →
    (place : ℕ) (one other : Packet T ⊤) → slice_get packets place ≡ Some one → slice_get others place ≡ Some other → one.bytes ≡ other.bytes
