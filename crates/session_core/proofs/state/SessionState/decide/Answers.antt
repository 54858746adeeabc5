use Rattle.std.proofs.Common.{refl, ◌∙◌, arith}
use Rattle.session_core.proofs.Deciding.{decided-next, decided-none, decided-order}
use Rattle.session_core.proofs.Telling.{detector-same, detector-then}
use Rattle.session_core.proofs.state.SessionState.decide.Goals as goal

pub loop-position-init : goal.loop-position-init
loop-position-init g c = (decided-none c.args.mode c.args.self.now _ _ c.requires.last_key, omega arith, detector-same _, refl)

pub decide_at-requires-clause-in_order : goal.decide_at-requires-clause-in_order
decide_at-requires-clause-in_order g c = decided-order c.args.mode c.args.self.now c.loop-position.self _ _ _ _ c.loop-position.invariant.0 c.requires.in_order

pub returns-in_err-decide_at-clause-later : goal.returns-in_err-decide_at-clause-later
returns-in_err-decide_at-clause-later g c = detector-then _ _ _ c.loop-position.invariant.2 c.decide_at.ensures.later

pub loop-position-preserved : goal.loop-position-preserved
loop-position-preserved g c =
    let step = decided-next c.args.mode c.args.self.now c.loop-position.self c.decide_at.new.self _ _ _ _ _ c.loop-position.position
    c.loop-position.invariant.0 c.loop-position.invariant.1 c.loop-position.invariant.2.answers c.in_ok-decide_at.ensures.decided in
    (step.0, step.1, detector-then _ _ _ c.loop-position.invariant.2 c.decide_at.ensures.later, c.decide_at.ensures.rate ∙ c.loop-position.invariant.3)
