use Rattle.std.proofs.Common.{◌≤◌, ◌∙◌, arith}
use Rattle.pyramid.proofs.PlanSteps.{start_after_is, plan_from-step}
use Rattle.pyramid.proofs.plans.plan.Goals as goal

pub loop-start-preserved : goal.loop-start-preserved
loop-start-preserved c =
    let start = c.loop-start.start in
    let key = c.loop-start.invariant.keys start (omega arith) in
    let next = start_after_is c.args.max_interval _ start _ _ _ c.args.keys.now c.start_after-next.ensures.value (c.keys_above-rest.ensures.first c.args.frames) key in
    record {
      within = c.start_after-next.ensures.within;
      keys = λ later h.
          let past : start ≤ later = omega (arith, c.start_after-next.ensures.later, h) in
          c.keys_above-rest.ensures.later c.args.frames later past ∙ c.loop-start.invariant.keys later past;
      built =
          plan_from-step c.args.cfg.now c.args.max_interval c.args.frames c.args.keys.now start c.start_after-next.result c.loop-start.commands.items c.push_gop.new.commands.items c.requires.interval c.loop-start-test.true next c.in_ok-push_gop.ensures
          ∙ c.loop-start.invariant.built;
    }
