use Rattle.std.proofs.Common.{◌+◌}
use Rattle.gop_board.proofs.Runs.{after_steps-more, answers-more, on_err}
use Rattle.gop_board.proofs.core_state.core_run.Goals as goal

pub loop-step-preserved : goal.loop-step-preserved
loop-step-preserved c = record {
  told = answers-more c.args.state.now c.loop-step.state c.args.steps.now c.loop-step.step-index c.loop-step.found.items _ _ c.loop-step-test.true c.loop-step.invariant.way c.loop-step.invariant.told c.in_ok-enabled.ensures.enabled c.in_ok-push.ensures.items;
  way = after_steps-more c.args.state.now c.loop-step.state _ c.args.steps.now c.loop-step.step-index c.loop-step-test.true c.loop-step.invariant.way c.in_ok-enabled.ensures.after;
  places = λ at_first. c.in_ok-enabled.ensures.places;
}

pub returns-in_err-push-clause-cut : goal.returns-in_err-push-clause-cut
returns-in_err-push-clause-cut c = on_err c.from_residual-in_err-push.result (
  c.loop-step.step-index + 1,
  after_steps-more c.args.state.now c.loop-step.state _ c.args.steps.now c.loop-step.step-index c.loop-step-test.true c.loop-step.invariant.way c.in_ok-enabled.ensures.after,
)
