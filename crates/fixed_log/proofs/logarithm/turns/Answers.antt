use Rattle.std.proofs.Common.{◌≡◌, ◌+◌, ◌-◌, ◌/◌, arith}
use Rattle.fixed_log.specs.Logarithm.{log_turn, IsFit}
use Rattle.fixed_log.proofs.Turns.{turns_from-join, run_later}
use Rattle.fixed_log.proofs.logarithm.turns.Goals as goal

pub few_turns-requires-clause-fit : goal.few_turns-requires-clause-fit
few_turns-requires-clause-fit c = run_later log_turn (λ i s. IsFit (log_turn i s)) c.args.first (c.args.count / 2) c.args.count c.args.state _ c.few_turns-state.ensures c.requires.fit

pub returns : goal.returns
returns c =
    let whole : c.args.count / 2 + (c.args.count - c.args.count / 2) ≡ c.args.count = omega arith in
    rw (c.few_turns.ensures, c.few_turns-state.ensures, turns_from-join, whole)
