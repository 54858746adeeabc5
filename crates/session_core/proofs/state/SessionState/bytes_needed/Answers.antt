use Rattle.session_core.proofs.Scheduling.{kept-moved, kept-rated}
use Rattle.session_core.proofs.state.SessionState.bytes_needed.Goals as goal

pub returns-clause-answer : goal.returns-clause-answer
returns-clause-answer g c = λ enc kept. c.bytes_needed.ensures.answer enc _ _ _ (kept-rated enc c.args.self.now kept).keeps

pub returns-clause-kept : goal.returns-clause-kept
returns-clause-kept g c = λ enc kept.
    kept-moved enc c.args.self.now _ c.bytes_needed.new.self kept c.bytes_needed.ensures.tables
    (c.bytes_needed.ensures.keeps enc _ _ _ (kept-rated enc c.args.self.now kept).keeps)
