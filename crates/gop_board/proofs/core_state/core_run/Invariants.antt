use Rattle.std.proofs.Common.{◌≡◌, take}
use Rattle.gop_board.specs.CoreRuns.{after_steps, answers}
use Rattle.gop_board.specs.Places.{EachAtOnePlace}
use Rattle.gop_board.proofs.core_state.core_run.Given as goal

abbrev pub invariant-loop-step : goal.invariant-loop-step
invariant-loop-step l =
    record {
      told : l.found.items ≡ answers l.fn.state (take l.step-index l.steps);
      way : l.state ≡ after_steps l.fn.state (take l.step-index l.steps);
      places : EachAtOnePlace l.fn.state → EachAtOnePlace l.state;
    }
