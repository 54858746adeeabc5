use Rattle.std.proofs.Common.{ℕ, List, sym, subst, ◌∙◌, arith}
use Rattle.pyramid.specs.Building.{AreKeysFrom}
use Rattle.pyramid.proofs.KeptKeys.{keys-later}
use Rattle.pyramid.proofs.ScheduleSteps.{build-on}
use Rattle.pyramid.proofs.schedule.Schedule.build.Goals as goal

pub loop-self-preserved : goal.loop-self-preserved
loop-self-preserved c =
    let i = c.loop-self.invariant in
    let e = c.in_ok-build_next.ensures in
    let old = c.args.self.now in
    let s = c.loop-self.self in
    let new = c.build_next.new.self in
    record {
      cfg = e.cfg ∙ i.cfg;
      interval = e.interval ∙ i.interval;
      built = λ keys are.
          let here : AreKeysFrom s.spot.start s.keys.items keys = subst (λ (ks : List ℕ). AreKeysFrom s.spot.start ks keys) (sym i.keys) (keys-later old.spot.start s.spot.start old.keys.items keys i.later are) in
          build-on s.cfg old.cfg s.interval old.interval c.args.frames c.args.flushed keys s.keys.items old.spot s.spot new.spot old.places.items s.places.items new.places.items
          i.cfg i.interval (i.built keys are) here (sym c.is_due.ensures ∙ c.loop-self-test.true) e.places e.spot;
      keys = ◌∙◌ {A = List ℕ} e.keys i.keys;
      later = omega (arith, e.later, i.later);
    }
