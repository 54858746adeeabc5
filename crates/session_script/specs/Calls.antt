-- The calls that a script asks for, by value.
use Rattle.std.specs.Prelude.{ℕ, ◌*◌, Bool, true, false, List, Option, None, Some, replicate, [], ◌∷◌}
use Rattle.av1_frame.specs.declared.frame.Plane.{Plane}
use Rattle.av1_frame.specs.declared.frame.Frame.{Frame}
use Rattle.av1_frame.specs.declared.sampling.ChromaSampling.{ChromaSampling}
use Rattle.av1_frame.specs.Sizes.{chroma_size}
use Rattle.av1_settings.specs.declared.encoder.EncoderConfig.{EncoderConfig}
use Rattle.script_lines.specs.declared.line.Action.{Action}
use Rattle.script_lines.specs.declared.line.Action.TheVariants.{Send as SendAction, SendKey, SendOpaque, SendSize, Flush as FlushAction, Receive as ReceiveAction}
use Rattle.script_lines.specs.declared.line.ScriptCall.{ScriptCall}
use Rattle.script_lines.specs.declared.line.ScriptCall.TheVariants.{Act, Give as GiveAction}
use Rattle.session_core.specs.declared.call.Call.{Call}
use Rattle.session_core.specs.declared.call.Call.TheVariants.{Send, Flush, Receive}
use Rattle.session_core.specs.declared.pass_transcript.PassCall.{PassCall}
use Rattle.session_core.specs.declared.pass_transcript.PassCall.TheVariants.{Call as Plain, Take, Give}
use Rattle.session_core.specs.Moments.{Accepted}
use Rattle.session_core.specs.Turns.{accepted_of}

-- what a call asks for: to send a frame, with what is sent with it; to flush; to receive; to take pass data, or to give it, which
-- no call of a session in one pass does
pub data Asked : Type 0 where
  Sends : Accepted ℕ ℕ → Asked
  Flushes : Asked
  Receives : Asked
  Takes : Asked
  Gives : List ℕ → Asked

abbrev pub asked_by : Call ℕ ℕ → Asked
asked_by (Send frame parameters) = Sends (accepted_of frame.value parameters)
asked_by Flush = Flushes
asked_by Receive = Receives

abbrev pub asked_in_passes : PassCall ℕ ℕ → Asked
asked_in_passes (Plain call) = asked_by call
asked_in_passes Take = Takes
asked_in_passes (Give message) = Gives message.items

-- a plane of this size, each sample 0
abbrev pub plain_plane : ℕ × ℕ → Plane ℕ
plain_plane size = record { pixels = replicate (size.0 * size.1) 0; width = size.0; height = size.1 }

-- a picture of this size and sampling
abbrev pub plain_picture : ℕ → ℕ → ChromaSampling → Frame ℕ
plain_picture width height sampling = record {
  y = plain_plane (width, height);
  u = plain_plane (chroma_size width height sampling);
  v = plain_plane (chroma_size width height sampling);
}

-- the picture of the settings' size that plain frames share
abbrev pub own_picture : EncoderConfig → Frame ℕ
own_picture enc = plain_picture enc.width enc.height enc.chroma_sampling

-- a frame with this picture, as a key frame or not, with this opaque value, and without metadata
abbrev pub frame_of : Frame ℕ → Bool → Option ℕ → Accepted ℕ ℕ
frame_of picture forced opaque =
    record { picture = picture; forced = forced; opaque = opaque; t35 = [] }

-- what a call of any session asks for in a script: a frame has the opaque value that its line gives, else none, and one of
-- another size has the settings' sampling
abbrev pub asked_in_any : EncoderConfig → Action → Asked
asked_in_any enc SendAction = Sends (frame_of (own_picture enc) false None)
asked_in_any enc SendKey = Sends (frame_of (own_picture enc) true None)
asked_in_any enc (SendOpaque value) = Sends (frame_of (own_picture enc) false (Some value))
asked_in_any enc (SendSize width height) =
    Sends (frame_of (plain_picture width height enc.chroma_sampling) false None)
asked_in_any enc FlushAction = Flushes
asked_in_any enc ReceiveAction = Receives

-- what a call of a script asks for
abbrev pub asked_for : EncoderConfig → ScriptCall → Asked
asked_for enc (Act action) = asked_in_any enc action
asked_for enc (GiveAction bytes) = Gives bytes.items

-- behind a receive pass data is taken, where it is asked for
abbrev pub taken_behind : Bool → Action → List Asked
taken_behind true ReceiveAction = Takes ∷ []
taken_behind takes action = []

-- what a call of a script asks for in two passes
abbrev pub asked_for_passes : Bool → EncoderConfig → ScriptCall → List Asked
asked_for_passes takes enc (Act action) = asked_in_any enc action ∷ taken_behind takes action
asked_for_passes takes enc (GiveAction bytes) = Gives bytes.items ∷ []
