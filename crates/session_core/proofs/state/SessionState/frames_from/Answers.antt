use Rattle.std.proofs.Common.{refl, map, length, ◌≤◌, arith}
use Rattle.session_core.proofs.Deciding.{frames-all}
use Rattle.session_core.proofs.state.SessionState.frames_from.Goals as goal

pub returns : goal.returns
returns g c =
    let self = c.args.self.now in
    let done : length self.waiting.items ≤ c.loop-index.index = omega arith in
    frames-all self c.args.position _ c.loop-index.index (map (λ frame. frame.value) c.loop-index.frames.items) refl done c.loop-index.invariant
