-- Which positions are decided, and which of them are keys.
use Rattle.std.specs.Prelude.{ℕ, ◌+◌, ◌-◌, Bool, if◌then◌else◌, ◌==◌, List, [], ◌∷◌, map, filter, take}
use Rattle.pyramid.specs.Numbers.{Numbers, ahead}
use Rattle.session_core.specs.declared.transcript.Decision.{Decision}

-- how many positions are decided, from 1 on, of so many accepted frames: those with `ahead` frames behind them, and all
-- once no more come
abbrev pub decided_count : Numbers → ℕ → Bool → ℕ
decided_count numbers accepted flushed = if flushed then accepted - 1 else accepted - (ahead numbers + 1)

-- the positions that are decided to be keys
abbrev pub key_positions : List Decision → List ℕ
key_positions decisions = map (λ decision. decision.position) (filter (λ decision. decision.key) decisions)

-- the keys of so many accepted frames: the first frame, and those of the decisions; an undecided position is none
abbrev pub keys_of : ℕ → List Decision → List ℕ
keys_of accepted decisions = if accepted == 0 then [] else 0 ∷ key_positions decisions

-- the decisions of a moment: the first so many of a session's
abbrev pub decisions_at : Numbers → List Decision → ℕ → Bool → List Decision
decisions_at numbers decisions accepted flushed = take (decided_count numbers accepted flushed) decisions
