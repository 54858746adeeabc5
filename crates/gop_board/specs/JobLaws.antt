-- What a maker that tells ahead determines.
use Rattle.std.specs.Prelude.{◌≡◌, ◌≤◌, ⊤, ℕ, List, map, length, take, All, IsTrue, Option, IsSome}
use Rattle.std.specs.Option.{option_map}
use Rattle.av1_frame.specs.declared.frame.Frame.{Frame}
use Rattle.av1_frame.specs.Planes.{fits}
use Rattle.av1_settings.specs.declared.encoder.EncoderConfig.{EncoderConfig}
use Rattle.av1_settings.specs.declared.encoder_stats.EncoderStats.{EncoderStats}
use Rattle.av1_settings.specs.declared.frame_type.FrameType.{FrameType}
use Rattle.quantizers.specs.Tables.{Tables}
use Rattle.session_core.specs.declared.packet.Packet.{Packet}
use Rattle.session_core.specs.Sessions.{commands_of}
use Rattle.session_core.specs.Told.{CoderTold}
use Rattle.session_core.specs.Turns.{frame_limit}
use Rattle.gop_board.specs.JobCalls.{job_plan}
use Rattle.gop_board.specs.JobSessions.{GavePackets, MetFault}
use Rattle.gop_board.specs.Makers.{MakerTold}

-- all of a packet, with pictures in the place of the handles on them
pub record Seen (T : Type 0) : Type 0 where
  pub bytes : List ℕ
  pub number : ℕ
  pub frame_type : FrameType
  pub qp : ℕ
  pub source : Option (Frame T)
  pub rec : Option (Frame T)
  pub stats : EncoderStats

abbrev pub seen : {T : Type 0} → Packet T ⊤ → Seen T
seen packet = record {
  bytes = packet.bytes;
  number = packet.input_frameno;
  frame_type = packet.frame_type;
  qp = packet.qp;
  source = option_map (λ source. source.value) packet.source;
  rec = option_map (λ rec. rec.value) packet.rec;
  stats = packet.enc_stats;
}

-- where a maker tells what the coder of a job gives and its mean scales, all packets that are the job's are the same
abbrev pub PacketsAreDetermined : {T M : Type 0} → (M → ℕ → ℕ → MakerTold T) → Type 0
PacketsAreDetermined {T} {M} told =
    (enc : EncoderConfig) (tables : Tables) (maker : M) (job first : ℕ) (pictures : List (Frame T)) (one other : List (Packet T ⊤)) →
    IsSome (told maker job first).gives → IsSome (told maker job first).answers →
    GavePackets enc tables (told maker job first) pictures one → GavePackets enc tables (told maker job first) pictures other →
    map seen one ≡ map seen other

-- the commands that were coded before a fault that is the job's are the first of the plan of its frames, where the first frame
-- alone is decided to be a key; the frames are such as a session accepts
abbrev pub FaultsAreOnThePlan : {T M : Type 0} → (M → ℕ → ℕ → MakerTold T) → Type 0
FaultsAreOnThePlan {T} {M} told =
    (enc : EncoderConfig) (tables : Tables) (maker : M) (job first : ℕ) (pictures : List (Frame T)) (command : ℕ) (coder : CoderTold T) →
    All (λ picture. IsTrue (fits picture enc.width enc.height enc.chroma_sampling)) pictures →
    length pictures ≤ frame_limit →
    (IsTrue enc.still_picture → length pictures ≤ 1) →
    (fault : MetFault enc tables (told maker job first) pictures command coder) →
    commands_of fault.session.fails.turns ≡ take command (job_plan enc (length pictures))
