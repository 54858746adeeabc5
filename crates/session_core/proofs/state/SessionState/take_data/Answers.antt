use Rattle.std.proofs.Common.{ℕ, Bool, Some, Option, ap, sym, subst, ◌∙◌}
use Rattle.arrayvec.specs.ArrayVec.{ArrayVec}
use Rattle.pass_data.specs.declared.rc_data.RcData.{RcData}
use Rattle.ratecontrol.specs.Passes.{given_out}
use Rattle.session_log.specs.Passes.{Passes, passes_of}
use Rattle.session_core.specs.PassStates.{at_state}
use Rattle.session_core.specs.PassTurns.{IsPassData, PassMoment, is_done, rate_of}
use Rattle.session_core.specs.States.{moment_of}
use Rattle.session_core.proofs.Passing.{passes-are}
use Rattle.session_core.proofs.PassMessages.{IsTakenOut, none-taken, some-taken}
use Rattle.session_core.proofs.Scheduling.{kept-moved, kept-rated}
use Rattle.session_core.proofs.state.SessionState.take_data.Goals as goal

pub returns-in_err-bytes-clause-message : goal.returns-in_err-bytes-clause-message
returns-in_err-bytes-clause-message g c = λ enc kept.
    let self = c.args.self.now in
    let done = is_done (moment_of self) in
    let rate = rate_of enc (at_state self) in
    let keeps = (kept-rated enc self kept).keeps in
    let taken : IsTakenOut done rate c.take_data.result = subst (λ (d : Bool). IsTakenOut d rate c.take_data.result) c.is_done-done.ensures (record {
      frame = c.take_data.ensures.frame enc _ _ _ keeps;
      summary = c.take_data.ensures.summary enc _ _ _ keeps;
      nothing = c.take_data.ensures.nothing enc _ _ _ keeps;
    }) in
    subst (λ (m : Option RcData). IsPassData done rate m) (sym c.from_residual.ensures)
    (none-taken done rate (subst (λ (m : Option (ArrayVec ℕ)). IsTakenOut done rate m) c.in_err-bytes.was taken))

pub returns-clause-message : goal.returns-clause-message
returns-clause-message g c = λ enc kept.
    let self = c.args.self.now in
    let done = is_done (moment_of self) in
    let rate = rate_of enc (at_state self) in
    let keeps = (kept-rated enc self kept).keeps in
    let taken : IsTakenOut done rate c.take_data.result = subst (λ (d : Bool). IsTakenOut d rate c.take_data.result) c.is_done-done.ensures (record {
      frame = c.take_data.ensures.frame enc _ _ _ keeps;
      summary = c.take_data.ensures.summary enc _ _ _ keeps;
      nothing = c.take_data.ensures.nothing enc _ _ _ keeps;
    }) in
    subst (λ (m : RcData). IsPassData done rate (Some m)) (sym c.pass_data.ensures)
    (some-taken done rate c.gives_frame-is_frame.result c.in_ok-bytes.bytes (c.gives_frame-is_frame.ensures enc _ _ _ keeps)
    (subst (λ (m : Option (ArrayVec ℕ)). IsTakenOut done rate m) c.in_ok-bytes.was taken))

pub returns-clause-after : goal.returns-clause-after
returns-clause-after g c = λ enc kept.
    let self = c.args.self.now in
    let with_passes : Passes → PassMoment g.row.T.Denot g.row.O.Denot = λ passes. record { moment = moment_of self; passes = passes } in
    ap with_passes
    (passes-are enc _ _ _ c.take_data.new.self (c.take_data.ensures.keeps enc _ _ _ (kept-rated enc self kept).keeps)
    ∙ ap (λ (done : Bool). passes_of (given_out done (rate_of enc (at_state self)))) c.is_done-done.ensures)

pub returns-clause-kept : goal.returns-clause-kept
returns-clause-kept g c = λ enc kept.
    kept-moved enc c.args.self.now _ c.take_data.new.self kept c.take_data.ensures.tables
    (c.take_data.ensures.keeps enc _ _ _ (kept-rated enc c.args.self.now kept).keeps)

pub returns-in_err-bytes-clause-after : goal.returns-in_err-bytes-clause-after
returns-in_err-bytes-clause-after g c = λ enc kept.
    let self = c.args.self.now in
    let with_passes : Passes → PassMoment g.row.T.Denot g.row.O.Denot = λ passes. record { moment = moment_of self; passes = passes } in
    ap with_passes
    (passes-are enc _ _ _ c.take_data.new.self (c.take_data.ensures.keeps enc _ _ _ (kept-rated enc self kept).keeps)
    ∙ ap (λ (done : Bool). passes_of (given_out done (rate_of enc (at_state self)))) c.is_done-done.ensures)

pub returns-in_err-bytes-clause-kept : goal.returns-in_err-bytes-clause-kept
returns-in_err-bytes-clause-kept g c = λ enc kept.
    kept-moved enc c.args.self.now _ c.take_data.new.self kept c.take_data.ensures.tables
    (c.take_data.ensures.keeps enc _ _ _ (kept-rated enc c.args.self.now kept).keeps)
