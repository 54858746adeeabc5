use Rattle.std.proofs.Common.{◌≡◌, ℤ, Option, refl, sym, subst}
use Rattle.std.specs.Prelude.{IsSome}
use Rattle.pass_stats.specs.declared.summary.RCSummary.{RCSummary}
use Rattle.session_core.specs.PassStates.{IsBegun}
use Rattle.session_core.specs.PassTurns.{passes_begun}
use Rattle.session_core.proofs.Beginning.{begun-alone, begun-second}
use Rattle.session_core.proofs.state.SessionState.begin.Given as given
use Rattle.session_core.proofs.state.SessionState.begin.Goals as goal
use Rattle.session_core.proofs.state.SessionState.begin.Goals.{in-Some+in_ok-begin_second_pass, in_default}

begun : (g : given.Over) (c : goal.Joined-control g) → IsBegun c.args.enc.now c.args.tables.now (passes_begun c.args.enc.now c.args.tables.now c.args.control.now) c.match-control.state
begun g c = elim c.match-control.branch [
  | in-Some+in_ok-begin_second_pass w ↦
      begun-second c.args.enc.now c.args.tables.now c.args.control.now _ c.with_first_pass-state.result c.match-control.state w.begin_second_pass.new.self c.with_first_pass-state.ensures.begun w.in-Some.is w.state-is
      w.begin_second_pass.ensures.tables (w.in_ok-begin_second_pass.ensures.keeps c.args.enc.now)
  | in_default w ↦ begun-alone c.args.enc.now c.args.tables.now c.args.control.now c.with_first_pass-state.result c.match-control.state c.with_first_pass-state.ensures.begun w.in_default.is w.state-is
]

pub returns-clause-moment : goal.returns-clause-moment
returns-clause-moment g c = (begun g c).opens

pub returns-clause-tables : goal.returns-clause-tables
returns-clause-tables g c = (begun g c).tables_are

pub returns-clause-passes : goal.returns-clause-passes
returns-clause-passes g c = (begun g c).passes_are

pub returns-clause-kept : goal.returns-clause-kept
returns-clause-kept g c = (begun g c).kept

pub returns-in_err-begin_second_pass-clause-memory : goal.returns-in_err-begin_second_pass-clause-memory
returns-in_err-begin_second_pass-clause-memory g c = λ failed. (
  subst (λ (o : Option RCSummary). IsSome o) (sym c.in-Some.is) refl,
  subst (λ (o : Option ℤ). IsSome o) c.with_first_pass-state.ensures.delay c.in_err-begin_second_pass.ensures.memory.window,
)
