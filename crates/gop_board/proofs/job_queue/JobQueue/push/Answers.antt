use Rattle.std.proofs.Common.{ap, ◌∙◌, arith}
use Rattle.gop_board.proofs.Handed.{few, pushes}
use Rattle.gop_board.specs.Handing.{Passing, Queue}
use Rattle.gop_board.proofs.job_queue.JobQueue.push.Goals as goal

pub push_as-requires-clause-rule : goal.push_as-requires-clause-rule
push_as-requires-clause-rule g c =
    let may = ap (λ (p : Passing). p.part.pushes) c.pass.view_is ∙ c.requires.pushes in
    let count = ap (λ (p : Passing). p.part.pushed) c.pass.view_is in
    let jobs = ap (λ (p : Passing). p.queue.jobs) c.pass.view_is ∙ ap (λ (q : Queue). q.jobs) c.requires.belongs in (
      pushes _ _ _ _ c.pass.invariant.live may c.pass.invariant.counted (omega (arith, c.requires.more, count, jobs)),
      few _ _ c.pass.invariant.live may,
    )
