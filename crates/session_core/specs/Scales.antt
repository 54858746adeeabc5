-- For which frames mean scales are asked, and what becomes of the answers.
use Rattle.std.specs.Prelude.{◌≡◌, ℕ, ◌-◌, ◌^◌, if◌then◌else◌, List, [], ◌∷◌, map, filter, All, IfSome, Option, ℤ, pos, negsuc}
use Rattle.std.specs.Option.{option_map, option_to_list}
use Rattle.std.specs.Int.{int_max, int_min}
use Rattle.std.specs.List.{flat_map}
use Rattle.av1_frame.specs.declared.frame.Frame.{Frame}
use Rattle.pyramid.specs.declared.command.Command.{Command}
use Rattle.pyramid.specs.declared.command.Command.TheVariants.{Code, Show}
use Rattle.pyramid.specs.Known.{is_coding}
use Rattle.session_log.specs.declared.entry.LogEntry.{LogEntry}
use Rattle.session_core.specs.Moments.{Moment, waiting_at}
use Rattle.session_core.specs.Told.{Grew, Scaled, ScalesTold}
use Rattle.session_core.specs.Turns.{real_entries}

-- an answer is kept within 16 of 0, in Q57
abbrev pub clamped : ℤ → ℤ
clamped answer = int_max (negsuc (2 ^ 61 - 1)) (int_min answer (pos (2 ^ 61)))

-- the number and the picture of the frame that a command codes
abbrev pub frame_of : {T : Type 0} → (ℕ → Option (Frame T)) → Command → List (ℕ × Frame T)
frame_of picture_at (Code frame kind refs refresh shown) =
    option_to_list (option_map (λ picture. (frame, picture)) (picture_at frame))
frame_of picture_at (Show slot) = []

-- the mean scale of a command that codes
abbrev pub scale_list : Command → ℤ → List ℤ
scale_list command scale = if is_coding command then scale ∷ [] else []

-- those of the frames that were coded for good
abbrev pub frames_of : {T : Type 0} → (ℕ → Option (Frame T)) → List LogEntry → List (ℕ × Frame T)
frames_of picture_at log = flat_map (λ entry. frame_of picture_at entry.command) (real_entries log)

-- the mean scales with which they were coded
abbrev pub scales_of : List LogEntry → List ℤ
scales_of log = map (λ entry. entry.mean_scale) (filter (λ entry. is_coding entry.command) (real_entries log))

-- a source of mean scales was asked for these frames, and these are its answers, clamped
pub record AreScaled {T : Type 0} (asked : List (ℕ × Frame T)) (scales : List ℤ) (told now : ScalesTold T) : Type 0 where
  pub taken : List (Scaled T)
  pub grew : Grew told.frames now.frames taken
  pub frames : map (λ one. (one.number, one.picture)) taken ≡ asked
  pub used : map (λ one. clamped one.answer) taken ≡ scales
  -- the answers are what it told ahead, if it does
  pub ahead : All (λ one. IfSome told.answers (λ at. one.answer ≡ at one.number)) taken
  pub answers : now.answers ≡ told.answers

-- at a moment the frame of a number is one that waits
abbrev pub picture_at : {T O : Type 0} → Moment T O → ℕ → Option (Frame T)
picture_at moment number = option_map (λ waiting. waiting.frame.picture) (waiting_at moment number)

-- what a log is scaled by at a moment
abbrev pub IsScaled : {T O : Type 0} → Moment T O → List LogEntry → ScalesTold T → ScalesTold T → Type 0
IsScaled moment log told now = AreScaled (frames_of (picture_at moment) log) (scales_of log) told now
