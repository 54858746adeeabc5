-- A channel as it is made: its ends, its worker, and why it isn't made.
use Rattle.std.specs.Prelude.{◌≡◌, ℕ, ◌*◌, min, unsigned_abs, Bool, false, not, ◌&&◌, if◌then◌else◌, Option, Some, None, is_some, IfSome}
use Rattle.std.specs.Option.{option_map}
use Rattle.coding_base.specs.Faults.{last_count}
use Rattle.av1_settings.specs.declared.config.Config.{Config}
use Rattle.av1_settings.specs.declared.encoder.EncoderConfig.{EncoderConfig}
use Rattle.av1_settings.specs.declared.invalid.InvalidConfig.{InvalidConfig}
use Rattle.av1_settings.specs.declared.invalid.InvalidConfig.TheVariants.{RateControlConfigurationMismatch}
use Rattle.av1_settings.specs.declared.level.LevelTables.{LevelTables}
use Rattle.av1_settings.specs.declared.rate_control.RateControlConfig.{RateControlConfig}
use Rattle.av1_settings.specs.Checks.{pixel_refusal}
use Rattle.quantizers.specs.Tables.{Tables}
use Rattle.session_core.specs.Contexts.{Session, fresh}
use Rattle.session_core.specs.PassTurns.{passes_begun}
use Rattle.session_channels.specs.Drives.{IsNew}
use Rattle.session_channels.specs.Ends.{FrameEnd, PacketEnd, Sender, new_sender}
use Rattle.session_channels.specs.Queues.{Queue, new_queue}

-- ---- which passes the settings are for: a first one asks for pass data, a second one has the summary of a first

abbrev pub is_one_pass : RateControlConfig → Bool
is_one_pass control = not control.emit_data && not (is_some control.summary)

abbrev pub is_first_pass : RateControlConfig → Bool
is_first_pass control = control.emit_data && not (is_some control.summary)

abbrev pub is_second_pass : RateControlConfig → Bool
is_second_pass control = not control.emit_data && is_some control.summary

abbrev pub is_both_passes : RateControlConfig → Bool
is_both_passes control = control.emit_data && is_some control.summary

-- why a channel isn't made: first because its kind doesn't fit the settings, then because the settings are refused
abbrev pub channel_refusal : Bool → ℕ → LevelTables → Config → Option InvalidConfig
channel_refusal fits bits levels config =
    if fits then pixel_refusal bits levels config else Some RateControlConfigurationMismatch

-- ---- its ends

-- the queue of frames holds twice the lookahead
abbrev pub frame_capacity : EncoderConfig → ℕ
frame_capacity enc = min (enc.speed_settings.rdo_lookahead_frames * 2) last_count

-- the most frames that may be sent: as many temporal units as a summary counts, which is at least one
abbrev pub frame_limit : RateControlConfig → ℕ
frame_limit control = elim control.summary [ None ↦ 2147483647 | Some summary ↦ unsigned_abs summary.ntus ]

-- the most messages of pass data that may be sent: as many frames as a summary counts
abbrev pub data_limit : RateControlConfig → ℕ
data_limit control = elim control.summary [ None ↦ 0 | Some summary ↦ unsigned_abs summary.total ]

-- the end for frames and the end for packets
abbrev pub video_ends : Config → FrameEnd Queue × PacketEnd Queue
video_ends config = (
  record {
    enc = config.enc;
    sender = new_sender (new_queue (Some (frame_capacity config.enc))) (frame_limit config.rate_control);
  },
  record { enc = config.enc; queue = new_queue None },
)

-- the end for the pass data of an earlier first pass
abbrev pub data_sender : RateControlConfig → Sender Queue
data_sender control = new_sender (new_queue None) (data_limit control)

-- ---- its worker

-- the session, the queues of frames and of packets, those of pass data that comes in and that goes out, where the worker has
-- them, and whether it has run
pub record Work (T O D S C : Type 0) : Type 0 where
  pub session : Session T O D S C
  pub frames : Queue
  pub packets : Queue
  pub pass_in : Option Queue
  pub pass_out : Option Queue
  pub has_run : Bool

-- the queue of the pass data that comes in, exactly where a summary is set
abbrev pub queue_in : RateControlConfig → Option Queue
queue_in control = option_map (λ _. new_queue None) control.summary

-- the queue of the pass data that is handed on, exactly where it is asked for
abbrev pub queue_out : RateControlConfig → Option Queue
queue_out control = if control.emit_data then Some (new_queue None) else None

-- a worker that hasn't run, of this session and of a channel for these settings
abbrev pub worker_of : {T O D S C : Type 0} → Session T O D S C → Config → Work T O D S C
worker_of session config = record {
  session = session;
  frames = new_queue (Some (frame_capacity config.enc));
  packets = new_queue None;
  pass_in = queue_in config.rate_control;
  pass_out = queue_out config.rate_control;
  has_run = false;
}

-- the worker of a new channel: its session hasn't begun
abbrev pub new_worker : {T O D S C : Type 0} → Config → Tables → D → S → C → Work T O D S C
new_worker config tables detector scales coder =
    worker_of (fresh config.enc tables (passes_begun config.enc tables config.rate_control) detector scales coder) config

-- what a worker that hasn't run can rely on: its session is new, its queues of pass data are those that the session wants, and
-- the queues that it puts into have no capacity
pub record IsReady {T O D S C : Type 0} (session : Session T O D S C) (packets : Queue) (pass_in pass_out : Option Queue) : Type 0 where
  pub new : IsNew session (is_some pass_in) (is_some pass_out)
  pub packets_unlimited : packets.capacity ≡ None
  pub data_unlimited : IfSome pass_out (λ queue. queue.capacity ≡ None)
