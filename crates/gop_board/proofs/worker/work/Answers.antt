use Rattle.std.proofs.Common.{◌≡◌, ℕ, Some, sym, subst}
use Rattle.std.specs.Prelude.{option_map, slice_get}
use Rattle.std.proofs.lemmas.Option.{slice_get_read}
use Rattle.gop_board.specs.declared.job.Job.{Job}
use Rattle.gop_board.specs.Rows.{Row, with_absent_entry}
use Rattle.gop_board.proofs.Filling.{working-more}
use Rattle.gop_board.proofs.worker.work.Goals as goal

pub work_on-requires-clause-belongs : goal.work_on-requires-clause-belongs
work_on-requires-clause-belongs g c κs within = λ result session.
    let job : Job g.row.T.Denot = c.index-jobs-number.result in
    let at : slice_get c.args.jobs.now c.in-Some-pop.number ≡ Some job =
    slice_get_read c.args.jobs.now c.args.queue.now.jobs c.in-Some-pop.number job c.requires.queue c.in-Some-pop.ensures.given.below c.index-jobs-number.is in
    let number : job.number ≡ c.in-Some-pop.number = c.requires.numbers c.in-Some-pop.number job at in
    c.requires.belongs job.number result (job, subst (λ (n : ℕ). slice_get c.args.jobs.now n ≡ Some job) (sym number) at, session)

pub loop-preserved : goal.loop-preserved
loop-preserved g c =
    let job : Job g.row.T.Denot = c.index-jobs-number.result in
    let at : slice_get c.args.jobs.now c.in-Some-pop.number ≡ Some job =
    slice_get_read c.args.jobs.now c.args.queue.now.jobs c.in-Some-pop.number job c.requires.queue c.in-Some-pop.ensures.given.below c.index-jobs-number.is in
    let number : job.number ≡ c.in-Some-pop.number = c.requires.numbers c.in-Some-pop.number job at in
    working-more _ c.args.pass.now c.loop.pass c.pop.new.pass (g.B.Deposits.told c.args.board.now) (g.B.Deposits.told c.loop.board) (g.B.Deposits.told c.work_on.new.board)
    c.in-Some-pop.number c.work_on.ensures.result c.loop.invariant c.in-Some-pop.ensures.pass (job, at, c.work_on.ensures.session)
    (subst (λ (n : ℕ). g.B.Deposits.told c.work_on.new.board ≡ option_map (λ (row : Row g.row.T.Denot g.row.M-Coder.Denot). with_absent_entry row n c.work_on.ensures.result) (g.B.Deposits.told c.loop.board)) number c.work_on.ensures.row)
