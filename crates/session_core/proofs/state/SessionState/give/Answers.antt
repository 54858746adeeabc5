use Rattle.std.proofs.Common.{ap}
use Rattle.session_log.specs.Passes.{Passes}
use Rattle.session_core.specs.PassTurns.{PassMoment}
use Rattle.session_core.specs.States.{moment_of}
use Rattle.session_core.proofs.Passing.{passes-are}
use Rattle.session_core.proofs.Scheduling.{kept-moved, kept-rated}
use Rattle.session_core.proofs.state.SessionState.give.Goals as goal

pub returns-clause-answer : goal.returns-clause-answer
returns-clause-answer g c = λ enc kept. c.send_packet.ensures.answer enc _ _ _ (kept-rated enc c.args.self.now kept).keeps

pub returns-clause-after : goal.returns-clause-after
returns-clause-after g c = λ enc kept.
    let with_passes : Passes → PassMoment g.row.T.Denot g.row.O.Denot = λ passes. record { moment = moment_of c.args.self.now; passes = passes } in
    ap with_passes (passes-are enc _ _ _ c.send_packet.new.self (c.send_packet.ensures.keeps enc _ _ _ (kept-rated enc c.args.self.now kept).keeps))

pub returns-clause-kept : goal.returns-clause-kept
returns-clause-kept g c = λ enc kept.
    kept-moved enc c.args.self.now _ c.send_packet.new.self kept c.send_packet.ensures.tables
    (c.send_packet.ensures.keeps enc _ _ _ (kept-rated enc c.args.self.now kept).keeps)
