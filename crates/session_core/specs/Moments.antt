-- What contracts see of a session at a moment, and the plan of a moment.
use Rattle.std.specs.Prelude.{ℕ, ◌-◌, Bool, false, nat_lt, ◌==◌, if◌then◌else◌, List, [], Option, None}
use Rattle.std.specs.List.{slice_get}
use Rattle.av1_frame.specs.declared.frame.Frame.{Frame}
use Rattle.av1_settings.specs.declared.encoder.EncoderConfig.{EncoderConfig}
use Rattle.av1_settings.specs.declared.frame_type.FrameType.{FrameType}
use Rattle.av1_settings.specs.declared.t35.T35.{T35}
use Rattle.pyramid.specs.declared.command.Command.{Command}
use Rattle.pyramid.specs.declared.place.Place.{Place}
use Rattle.av1_settings.specs.Settings.{interval_of}
use Rattle.pyramid.specs.Settings.{numbers_of}
use Rattle.pyramid.specs.Plan.{plan}
use Rattle.pyramid.specs.Known.{known}
use Rattle.pyramid.specs.Guess.{places_ahead as places_from_command}
use Rattle.session_core.specs.declared.transcript.Decision.{Decision}
use Rattle.session_log.specs.declared.entry.LogEntry.{LogEntry}
use Rattle.session_core.specs.Decisions.{keys_of}

-- a frame as it was accepted: its picture, whether it was sent as a key frame, and the value and the metadata sent with it
pub record Accepted (T O : Type 0) : Type 0 where
  pub picture : Frame T
  pub forced : Bool
  pub opaque : Option O
  pub t35 : List T35

-- how a frame was coded: its type, and its AC index of the luma plane
pub record Coding : Type 0 where
  pub kind : FrameType
  pub qp : ℕ

-- an accepted frame whose packet isn't given, and how it was coded, if it was
pub record Waiting (T O : Type 0) : Type 0 where
  pub frame : Accepted T O
  pub coded : Option Coding

-- a session at a moment: how many frames were accepted, whether no more come, how many commands were coded and packets
-- given, the decisions made, the frames that wait for their packets (the first is the next packet's), the bytes coded since
-- the last packet, and all entries of the turns so far, tries too
pub record Moment (T O : Type 0) : Type 0 where
  pub accepted : ℕ
  pub flushed : Bool
  pub commands : ℕ
  pub packets : ℕ
  pub decisions : List Decision
  pub waiting : List (Waiting T O)
  pub pending : List ℕ
  pub log : List LogEntry

abbrev pub opening : {T O : Type 0} → Moment T O
opening = record {
  accepted = 0;
  flushed = false;
  commands = 0;
  packets = 0;
  decisions = [];
  waiting = [];
  pending = [];
  log = [];
}

-- the frame of a number, while it waits
abbrev pub waiting_at : {T O : Type 0} → Moment T O → ℕ → Option (Waiting T O)
waiting_at moment number =
    if nat_lt number moment.packets then None else slice_get moment.waiting (number - moment.packets)

-- every accepted frame's packet was given
abbrev pub is_complete : {T O : Type 0} → Moment T O → Bool
is_complete moment = moment.packets == moment.accepted

-- the plan that the accepted frames and the decisions of a moment give
abbrev pub plan_at : {T O : Type 0} → EncoderConfig → Moment T O → List Command
plan_at enc moment =
    plan (numbers_of enc) (interval_of enc.max_key_frame_interval) moment.accepted (keys_of moment.accepted moment.decisions)

-- what of it is known: all of it once no more frames come
abbrev pub known_at : {T O : Type 0} → EncoderConfig → Moment T O → List Command
known_at enc moment =
    if moment.flushed
    then plan_at enc moment
    else known (numbers_of enc) (interval_of enc.max_key_frame_interval) moment.accepted (keys_of moment.accepted moment.decisions)

-- the places that are known, from that of the next command on
abbrev pub places_ahead : {T O : Type 0} → EncoderConfig → Moment T O → List Place
places_ahead enc moment =
    places_from_command (numbers_of enc) (interval_of enc.max_key_frame_interval) moment.accepted moment.flushed
    (keys_of moment.accepted moment.decisions) moment.commands
