use Rattle.std.proofs.Common.{ap, arith}
use Rattle.pyramid.proofs.KeptKeys.{passed-later}
use Rattle.pyramid.proofs.schedule.Schedule.build_next.Goals as goal

pub passed_keys-self-requires : goal.passed_keys-self-requires
passed_keys-self-requires c =
    let s = c.push_place-2.new.self in
    let next = c.next_start-next.result in
    omega (arith, s.passing, passed-later s.spot.start next s.keys.items (omega (arith, c.next_start-next.ensures.later, ap (λ spot. spot.start) c.in_ok-push_place-2.ensures.spot)))
