use Rattle.std.proofs.Common.{◌≡◌, ◌++◌, ◌-◌, map, drop}
use Rattle.session_core.proofs.Deciding.{waiting_picture}
use Rattle.session_core.proofs.state.SessionState.frames_from.Given as goal

-- what is put together, and what is left
abbrev pub invariant-loop-index : goal.invariant-loop-index
invariant-loop-index g l =
    map (λ frame. frame.value) l.frames.items ++ map waiting_picture (drop l.index l.self.waiting.items)
    ≡ map waiting_picture (drop (l.position - 1 - l.self.packets) l.self.waiting.items)
