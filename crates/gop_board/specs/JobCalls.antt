-- The calls of a job's session: before each frame as many receives as need no more data; the frame; behind the last one a
-- flush, and receives for what is left.
use Rattle.std.specs.Prelude.{◌≡◌, ℕ, ◌+◌, ◌-◌, nat_lt, if◌then◌else◌, List, [], ◌∷◌, ◌++◌, map, length, replicate, None, count_by, ⊤}
use Rattle.std.specs.declared.alloc.Global.{Global}
use Rattle.std.specs.declared.sync.Arc.{Arc}
use Rattle.av1_frame.specs.declared.frame.Frame.{Frame}
use Rattle.av1_settings.specs.declared.encoder.EncoderConfig.{EncoderConfig}
use Rattle.av1_settings.specs.declared.speed.SceneDetectionSpeed.TheVariants as scenes
use Rattle.av1_settings.specs.Settings.{interval_of}
use Rattle.pyramid.specs.declared.command.Command.{Command}
use Rattle.pyramid.specs.Known.{is_coding, known}
use Rattle.pyramid.specs.Plan.{plan}
use Rattle.pyramid.specs.Settings.{numbers_of}
use Rattle.session_core.specs.declared.call.Call.{Call}
use Rattle.session_core.specs.declared.call.Call.TheVariants.{Send, Flush, Receive}

-- a job's settings look for no scene changes
abbrev pub job_settings : EncoderConfig → EncoderConfig
job_settings enc = record enc {
  speed_settings = record enc.speed_settings { scene_detection_mode = scenes.None };
}

-- the commands of so many frames, where the first alone is decided to be a key
abbrev pub job_plan : EncoderConfig → ℕ → List Command
job_plan enc frames = plan (numbers_of enc) (interval_of enc.max_key_frame_interval) frames (0 ∷ [])

-- those that are known before the flush
abbrev pub job_known : EncoderConfig → ℕ → List Command
job_known enc frames = known (numbers_of enc) (interval_of enc.max_key_frame_interval) frames (0 ∷ [])

-- how many commands, from the first on, are done by the time when fewer than `enough` that code a frame are left
abbrev pub done_until : ℕ → List Command → ℕ
done_until enough [] = 0
done_until enough (command ∷ commands) =
    if nat_lt (count_by is_coding (command ∷ commands)) enough then 0 else done_until enough commands + 1

-- how many commands are done before the frame of a number is sent: until a receive would need more data
abbrev pub done_before : EncoderConfig → ℕ → ℕ
done_before enc number = done_until (enc.speed_settings.rdo_lookahead_frames + 1) (job_known enc number)

-- the frames from number `number` on, each behind the receives before it
abbrev pub sends_from : {T : Type 0} → EncoderConfig → ℕ → List (Arc (Frame T) Global) → List (Call T ⊤)
sends_from enc number [] = []
sends_from enc number (frame ∷ frames) =
    replicate (done_before enc number - done_before enc (number - 1)) Receive
    ++ (Send frame None ∷ sends_from enc (number + 1) frames)

-- the calls of a job of these frames
abbrev pub job_calls : {T : Type 0} → EncoderConfig → List (Arc (Frame T) Global) → List (Call T ⊤)
job_calls enc frames =
    sends_from enc 0 frames
    ++ (Flush ∷ replicate (length (job_plan enc (length frames)) - done_before enc (length frames - 1)) Receive)

-- calls that send these pictures
pub record AreJobCalls {T : Type 0} (enc : EncoderConfig) (pictures : List (Frame T)) (calls : List (Call T ⊤)) : Type 0 where
  pub frames : List (Arc (Frame T) Global)
  pub pictures_are : map (λ frame. frame.value) frames ≡ pictures
  pub calls_are : calls ≡ job_calls enc frames
