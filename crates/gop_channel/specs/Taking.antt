-- Which frames are taken from a queue: until one of them is refused, or the queue is closed.
use Rattle.std.specs.Prelude.{◌≡◌, ℕ, ⊤, nat_le, ◌&&◌, ◌||◌, Bool, if◌then◌else◌, List, [], ◌∷◌, ◌++◌, map, length, slice_get, Option, None, Some}
use Rattle.av1_frame.specs.declared.frame.Frame.{Frame}
use Rattle.av1_frame.specs.Planes.{fits}
use Rattle.av1_settings.specs.declared.encoder.EncoderConfig.{EncoderConfig}
use Rattle.av1_settings.specs.declared.status.EncoderStatus.{EncoderStatus}
use Rattle.av1_settings.specs.declared.status.EncoderStatus.TheVariants.{EnoughData, FrameSizeMismatch}
use Rattle.session_core.specs.Turns.{frame_limit}
use Rattle.session_channels.specs.Ends.{FrameMessage}

-- the pictures in messages
abbrev pub pictures : {T : Type 0} → List (FrameMessage T ⊤) → List (Frame T)
pictures messages = map (λ message. (message.0).value) messages

-- whether no frame comes behind so many: one past the limit, or a second one of a still picture
abbrev pub is_enough : EncoderConfig → ℕ → Bool
is_enough enc frames = (enc.still_picture && nat_le 1 frames) || nat_le frame_limit frames

-- why a frame that comes behind so many is refused; one of another size is too
abbrev pub refusal : {T : Type 0} → EncoderConfig → ℕ → Frame T → Option EncoderStatus
refusal enc frames picture =
    if is_enough enc frames then Some EnoughData
    else if fits picture enc.width enc.height enc.chroma_sampling then None
    else Some FrameSizeMismatch

-- none of these frames is refused
abbrev pub AreAccepted : {T : Type 0} → EncoderConfig → List (Frame T) → Type 0
AreAccepted {T} enc frames =
    (place : ℕ) (picture : Frame T) → slice_get frames place ≡ Some picture → refusal enc place picture ≡ None

-- taken were those that are accepted, and behind them one that is refused, if any is
abbrev pub AreTaken : {T : Type 0} → EncoderConfig → List (Frame T) → List (Frame T) → Option EncoderStatus → Type 0
AreTaken enc taken accepted None = taken ≡ accepted
AreTaken {T} enc taken accepted (Some status) =
    (picture : Frame T) × (taken ≡ accepted ++ picture ∷ []) × (refusal enc (length accepted) picture ≡ Some status)

-- frames were taken, `takes` being what it means to take these messages
pub record Took {T : Type 0} (enc : EncoderConfig) (takes : List (FrameMessage T ⊤) → Type 0) (accepted : List (Frame T)) (refused : Option EncoderStatus) : Type 0 where
  pub messages : List (FrameMessage T ⊤)
  pub takes_them : takes messages
  pub are_taken : AreTaken enc (pictures messages) accepted refused
  pub are_accepted : AreAccepted enc accepted
