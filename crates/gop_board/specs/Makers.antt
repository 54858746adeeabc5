-- What a maker of sessions tells ahead, and what it makes.
use Rattle.std.specs.Prelude.{◌≡◌, ℕ, ℤ, List, [], Option, Some, IfSome}
use Rattle.session_core.specs.Told.{CoderTold, Gave, Handed, ScalesTold, Told}

-- what is told ahead of a job's coder and mean scales, each part only where it is told: what the coder gives, for its calls
-- so far and what it is then handed; how many of its calls give something before the first that fails (none, where none
-- fails); the mean scale of each number
pub record MakerTold (T : Type 0) : Type 0 where
  pub gives : Option (List (Told T) → Handed T → Gave T)
  pub fails_after : Option (Option ℕ)
  pub answers : Option (ℕ → ℤ)

-- a coder as it is made: it was called by nobody and never failed, and tells ahead what was told of it
pub record IsMadeCoder {T : Type 0} (ahead : MakerTold T) (told : CoderTold T) : Type 0 where
  pub unused : IfSome told.calls (λ calls. calls ≡ [])
  pub faultless : told.faults ≡ 0
  pub gives : IfSome ahead.gives (λ next. (told.calls ≡ Some []) × (told.gives ≡ Some next))
  pub fails_after : IfSome ahead.fails_after (λ fails. told.fails_after ≡ Some fails)

-- mean scales as they are made: nobody asked for one, and they tell ahead what was told of them
pub record IsMadeScales {T : Type 0} (ahead : MakerTold T) (told : ScalesTold T) : Type 0 where
  pub unused : IfSome told.frames (λ frames. frames ≡ [])
  pub answers : IfSome ahead.answers (λ at. told.answers ≡ Some at)
