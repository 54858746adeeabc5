-- What a list of commands is to a player that replays it from given slots.
use Rattle.std.specs.Prelude.{ℕ, ◌≡◌, ◌+◌, ◌/◌, ◌<◌, ◌≤◌, Bool, true, IsTrue, List, length, take, Some}
use Rattle.std.specs.List.{range_with_len, count_by, slice_get}
use Rattle.av1_settings.specs.declared.frame_type.FrameType.{FrameType}
use Rattle.pyramid.specs.declared.command.Command.{Command}
use Rattle.pyramid.specs.declared.command.Command.TheVariants.{Code, Show}
use Rattle.pyramid.specs.Display.{Slots, empty_slots, held, accepts, slots_after, shown, showing, codes}

-- no command names an empty slot, and `count` frames are shown, from `low` on in order
pub record InOrder (slots : Slots) (commands : List Command) (low count : ℕ) : Type 0 where
  pub accepted : IsTrue (accepts slots commands)
  pub showed : shown slots commands ≡ range_with_len low count

-- replayed from empty slots, the commands code and show `frames` frames, each once, and show them in order
pub record IsPlayable (commands : List Command) (frames : ℕ) : Type 0 where
  pub whole : InOrder empty_slots commands 0 frames
  pub count : showing commands ≡ frames
  -- the first k commands too are in order
  pub front : (k : ℕ) → InOrder empty_slots (take k commands) 0 (showing (take k commands))
  -- a command that shows a frame shows the next one: what its slot holds, or what it codes
  pub show : (k slot : ℕ) →
      slice_get commands k ≡ Some (Show slot) →
      held (slots_after empty_slots (take k commands)) slot ≡ Some (showing (take k commands))
  pub code : (k frame : ℕ) (kind : FrameType) (refs : List ℕ) (refresh : ℕ) →
      slice_get commands k ≡ Some (Code frame kind refs refresh true) →
      frame ≡ showing (take k commands)
  -- a command that codes a frame codes one that isn't shown yet
  pub unshown : (k frame : ℕ) (kind : FrameType) (refs : List ℕ) (refresh : ℕ) (visible : Bool) →
      slice_get commands k ≡ Some (Code frame kind refs refresh visible) →
      showing (take k commands) ≤ frame
  -- each frame is coded once, and no other
  pub below : (k frame : ℕ) (kind : FrameType) (refs : List ℕ) (refresh : ℕ) (visible : Bool) →
      slice_get commands k ≡ Some (Code frame kind refs refresh visible) → frame < frames
  pub once : (frame : ℕ) → frame < frames → count_by (codes frame) commands ≡ 1
  -- at most every second frame is hidden first
  pub size : length commands ≤ frames + frames / 2
