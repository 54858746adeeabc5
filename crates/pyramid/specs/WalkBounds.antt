-- How large the numbers of a guess's walk are.
use Rattle.std.specs.Prelude.{ℕ, ◌+◌, ◌≤◌}
use Rattle.pyramid.specs.declared.guess.GuessWalk.{GuessWalk}
use Rattle.pyramid.specs.Guess.{count_at}

-- none is above a limit, nor the sum of both counts of a subtype
pub record IsBelow (limit : ℕ) (walk : GuessWalk) : Type 0 where
  pub behind : walk.behind ≤ limit
  pub input : walk.key_input + walk.since_key ≤ limit
  pub frames : walk.frames ≤ limit
  pub tus : walk.tus ≤ limit
  pub counts : (subtype : ℕ) → count_at walk.before subtype + count_at walk.since subtype ≤ limit
