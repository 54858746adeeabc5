-- What contracts see of a channel whose frames are coded as jobs: its ends and its worker.
use Rattle.std.specs.Prelude.{◌≡◌, ℕ, ◌*◌, min, Bool, false, Some, None}
use Rattle.coding_base.specs.Faults.{last_count}
use Rattle.av1_settings.specs.declared.config.Config.{Config}
use Rattle.av1_settings.specs.declared.encoder.EncoderConfig.{EncoderConfig}
use Rattle.av1_settings.specs.declared.level.LevelTables.{LevelTables}
use Rattle.av1_settings.specs.Checks.{session_refusal}
use Rattle.quantizers.specs.Tables.{Tables}
use Rattle.session_channels.specs.Ends.{FrameEnd, PacketEnd, new_sender}
use Rattle.session_channels.specs.Queues.{Queue, new_queue}

-- what jobs are coded with, the detector, how many jobs are coded at once, the queues of frames and of packets, and whether it
-- has run
pub record Work (D M : Type 0) : Type 0 where
  pub cfg : Config
  pub levels : LevelTables
  pub tables : Tables
  pub detector : D
  pub maker : M
  pub slots : ℕ
  pub frames : Queue
  pub packets : Queue
  pub has_run : Bool

-- what a run can rely on: settings that aren't refused for pixels of so many bits, and a queue of packets that isn't limited
pub record IsReady (bits : ℕ) (levels : LevelTables) (cfg : Config) (packets : Queue) : Type 0 where
  pub valid : session_refusal bits levels cfg ≡ None
  pub unlimited : packets.capacity ≡ None

-- the queue of frames holds four times the lookahead
abbrev pub frame_capacity : EncoderConfig → ℕ
frame_capacity enc = min (enc.speed_settings.rdo_lookahead_frames * 4) last_count

-- the end for frames, of which 2147483647 may be sent, and the end for packets
abbrev pub gop_ends : EncoderConfig → FrameEnd Queue × PacketEnd Queue
gop_ends enc = (
  record { enc = enc; sender = new_sender (new_queue (Some (frame_capacity enc))) 2147483647 },
  record { enc = enc; queue = new_queue None },
)

-- a worker that hasn't run
abbrev pub new_work : {D M : Type 0} → Config → LevelTables → Tables → D → M → ℕ → Work D M
new_work cfg levels tables detector maker slots = record {
  cfg = cfg;
  levels = levels;
  tables = tables;
  detector = detector;
  maker = maker;
  slots = slots;
  frames = new_queue (Some (frame_capacity cfg.enc));
  packets = new_queue None;
  has_run = false;
}
