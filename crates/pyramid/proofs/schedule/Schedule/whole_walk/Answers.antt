use Rattle.std.proofs.Common.{◌+◌, ◌*◌, ◌^◌, sym, subst, arith}
use Rattle.pyramid.specs.declared.guess.GuessWalk.{GuessWalk}
use Rattle.pyramid.specs.Guess.{past_place, whole_walk}
use Rattle.pyramid.specs.WalkBounds.{IsBelow}
use Rattle.pyramid.proofs.GuessSteps.{below-step, below-more, leads-step}
use Rattle.pyramid.proofs.schedule.Schedule.whole_walk.Goals as goal

pub loop-preserved : goal.loop-preserved
loop-preserved c =
    let s = c.args.self.now in
    let i = c.loop.invariant in
    let walk = c.loop.walk in
    let whole = whole_walk s.cfg s.interval s.keys.items s.places.items c.args.wanted in
    let next = past_place s.cfg s.interval s.keys.items s.places.items walk in
    let limit = 2 ^ 41 + 20 * c.loop.counter in
    let more = 2 ^ 41 + 20 * (c.loop.counter + 1) in
    record {
      leads = leads-step s.cfg s.interval s.keys.items s.places.items c.args.wanted whole (c.group_places.result * c.args.wanted) c.loop.counter walk c.pass_place.new.walk (omega (arith, c.loop-test.true)) (omega (arith, c.if-walk-wanted.false)) c.pass_place.ensures i.leads;
      below = subst (λ (w : GuessWalk). IsBelow more w) (sym c.pass_place.ensures)
          (below-more (limit + 20) more next (omega arith) (below-step s.cfg s.interval s.keys.items s.places.items limit walk s.table s.near (omega arith) i.below));
    }
