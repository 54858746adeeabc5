use Rattle.std.proofs.Common.{ℕ, List, ◌∷◌, [], ◌++◌, refl, subst, sym, ap, arith}
use Rattle.pyramid.specs.Building.{AreKeysFrom, kept_from, passed_keys}
use Rattle.pyramid.proofs.KeptKeys.{passed-push}
use Rattle.pyramid.proofs.ScheduleSteps.{noted-is}
use Rattle.pyramid.proofs.Walks.{keys-push, keys-skip}
use Rattle.pyramid.proofs.schedule.Schedule.note_key.Goals as goal

pub returns-in_ok-push_back : goal.returns-in_ok-push_back
returns-in_ok-push_back c =
    let s = c.args.self.now in
    let from = kept_from s.places.items s.spot.start in
    record { noted = noted-is c.args.position s _ refl refl refl refl (λ keys are. subst (λ (ks : List ℕ). AreKeysFrom from ks (keys ++ c.args.position ∷ [])) (sym c.in_ok-push_back.ensures.items) (keys-push from s.keys.items keys c.args.position are)) }

pub passed_keys-self-requires : goal.passed_keys-self-requires
passed_keys-self-requires c =
    let s = c.args.self.now in
    omega (arith, s.passing, passed-push s.spot.start s.keys.items c.args.position, ap (passed_keys s.spot.start) c.in_ok-push_back.ensures.items)

pub returns-else-position-kept_from : goal.returns-else-position-kept_from
returns-else-position-kept_from c =
    let s = c.args.self.now in
    let from = kept_from s.places.items s.spot.start in
    record { noted = noted-is c.args.position s s refl refl refl refl (λ keys are. keys-skip from s.keys.items keys c.args.position (omega (arith, c.if-position-kept_from.false, c.kept_from.ensures)) are) }
