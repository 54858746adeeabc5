use Rattle.gop_board.proofs.Encodes.{jobs-fitting, jobs-numbers}
use Rattle.tests_of_queues.proofs.jobs.three_jobs.Goals as goal

pub returns-clause-fit : goal.returns-clause-fit
returns-clause-fit c =
    jobs-fitting c.args.config.now.enc c.in_ok-frames.frames.items c.in_ok-jobs.jobs.items c.in_ok-jobs.ensures.split.jobs_are
    c.in_ok-frames.ensures.fit c.in_ok-frames.ensures.few

pub returns-clause-numbers : goal.returns-clause-numbers
returns-clause-numbers c =
    jobs-numbers c.args.config.now.enc c.in_ok-frames.frames.items c.in_ok-jobs.jobs.items c.in_ok-jobs.ensures.split.jobs_are
