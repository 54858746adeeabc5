use Rattle.std.proofs.Common.{◌≤◌, ◌*◌, length, arith}
use Rattle.session_core.specs.States.{moment_of}
use Rattle.session_core.proofs.Scheduling.{kept-moved, kept-rated}
use Rattle.session_core.proofs.state.SessionState.give_bytes.Goals as goal

pub returns-clause-answer : goal.returns-clause-answer
returns-clause-answer g c = λ enc kept. c.give_bytes.ensures.answer enc _ _ _ (kept-rated enc c.args.self.now kept).keeps

pub returns-clause-kept : goal.returns-clause-kept
returns-clause-kept g c = λ enc kept.
    let self = c.args.self.now in
    let rated = kept-rated enc self kept in
    let few : length (moment_of self).log ≤ self.commands * 2 = rated.few in
    kept-moved enc self _ c.give_bytes.new.self kept c.give_bytes.ensures.tables
    (c.give_bytes.ensures.keeps enc _ _ _ rated.keeps (record { few = omega (arith, few, c.requires.few); sized = rated.sized }) rated.good)
