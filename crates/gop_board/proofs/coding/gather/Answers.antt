use Rattle.std.proofs.Common.{◌≡◌, ℕ, ◌+◌, ◌<◌, length, Some, refl, sym, ap, ◌∙◌, subst, arith}
use Rattle.std.specs.Prelude.{slice_get}
use Rattle.std.proofs.lemmas.Option.{slice_get_read}
use Rattle.gop_board.specs.declared.job.Job.{Job}
use Rattle.gop_board.proofs.Encodes.{gathered-of}
use Rattle.gop_board.proofs.Gathers.{gathering-more, gathering-none}
use Rattle.gop_board.proofs.coding.gather.Goals as goal

pub loop-number-init : goal.loop-number-init
loop-number-init g c = (gathering-none _ _ c.new-gathered.ensures, c.requires.uncollected)

pub take_result-found-requires-clause-frames : goal.take_result-found-requires-clause-frames
take_result-found-requires-clause-frames g c κs within =
    let inside : c.loop-number.number < length c.args.jobs.now = omega arith in
    c.requires.frames c.loop-number.number c.index-jobs-number.result
    (slice_get_read c.args.jobs.now (length c.args.jobs.now) c.loop-number.number c.index-jobs-number.result refl inside c.index-jobs-number.is)

pub take_result-found-requires-clause-below : goal.take_result-found-requires-clause-below
take_result-found-requires-clause-below g c κs within =
    let inside : c.loop-number.number < length c.args.jobs.now = omega arith in
    let number : c.index-jobs-number.result.number ≡ c.loop-number.number = c.requires.numbers c.loop-number.number c.index-jobs-number.result
    (slice_get_read c.args.jobs.now (length c.args.jobs.now) c.loop-number.number c.index-jobs-number.result refl inside c.index-jobs-number.is) in
    omega (arith, number, inside, c.requires.run)

pub take_result-found-requires-clause-belongs : goal.take_result-found-requires-clause-belongs
take_result-found-requires-clause-belongs g c κs within = λ result session.
    let inside : c.loop-number.number < length c.args.jobs.now = omega arith in
    let job : Job g.row.T.Denot = c.index-jobs-number.result in
    let at : slice_get c.args.jobs.now c.loop-number.number ≡ Some job =
    slice_get_read c.args.jobs.now (length c.args.jobs.now) c.loop-number.number job refl inside c.index-jobs-number.is in
    let number : job.number ≡ c.loop-number.number = c.requires.numbers c.loop-number.number job at in
    c.requires.belongs job.number result (job, subst (λ (n : ℕ). slice_get c.args.jobs.now n ≡ Some job) (sym number) at, session)

pub take_result-found-requires-clause-next : goal.take_result-found-requires-clause-next
take_result-found-requires-clause-next g c κs within =
    let inside : c.loop-number.number < length c.args.jobs.now = omega arith in
    let number : c.index-jobs-number.result.number ≡ c.loop-number.number = c.requires.numbers c.loop-number.number c.index-jobs-number.result
    (slice_get_read c.args.jobs.now (length c.args.jobs.now) c.loop-number.number c.index-jobs-number.result refl inside c.index-jobs-number.is) in
    c.loop-number.invariant.1 ∙ sym number

pub loop-number-preserved : goal.loop-number-preserved
loop-number-preserved g c =
    let inside : c.loop-number.number < length c.args.jobs.now = omega arith in
    let number : c.index-jobs-number.result.number ≡ c.loop-number.number = c.requires.numbers c.loop-number.number c.index-jobs-number.result
    (slice_get_read c.args.jobs.now (length c.args.jobs.now) c.loop-number.number c.index-jobs-number.result refl inside c.index-jobs-number.is) in (
      gathering-more _ c.loop-number.number c.loop-number.gathered c.add.new.self c.loop-number.invariant.0 c.take_result-found.result
          (c.requires.belonging c.loop-number.number c.take_result-found.result
          (subst (λ (n : ℕ). g.N.Run.belongs n c.take_result-found.result) number c.take_result-found.ensures.belongs))
          c.in_ok-add.ensures,
      c.take_result-found.ensures.next ∙ ap (λ (n : ℕ). n + 1) number,
    )

pub returns : goal.returns
returns g c =
    let every : c.loop-number.number ≡ length c.args.jobs.now = omega arith in
    gathered-of c.args.cfg.now.enc c.args.tables.now (g.M.MakeSession.told c.args.maker.now) g.M.Coder.FrameCoder.told c.args.jobs.now
    c.loop-number.number c.loop-number.gathered c.loop-number.invariant.0 every
