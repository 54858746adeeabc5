use Rattle.std.proofs.Common.{sym, ap, ◌∙◌}
use Rattle.std.specs.List.{slice_get}
use Rattle.pyramid.proofs.KeptKeys.{next-passed, none-passed}
use Rattle.pyramid.proofs.schedule.Schedule.next_key.Goals as goal

pub returns-in-Some-clause-value : goal.returns-in-Some-clause-value
returns-in-Some-clause-value c =
    let s = c.args.self.now in
    sym (next-passed s.spot.start s.keys.items c.in-Some.key c.args.limit (ap (slice_get s.keys.items) (sym s.passing) ∙ sym c.kept_key.ensures ∙ c.in-Some.is)).0

pub returns-in-Some-clause-later : goal.returns-in-Some-clause-later
returns-in-Some-clause-later c = λ h.
    let s = c.args.self.now in
    (next-passed s.spot.start s.keys.items c.in-Some.key c.args.limit (ap (slice_get s.keys.items) (sym s.passing) ∙ sym c.kept_key.ensures ∙ c.in-Some.is)).1

pub returns-in-None-clause-value : goal.returns-in-None-clause-value
returns-in-None-clause-value c =
    let s = c.args.self.now in
    sym (none-passed s.spot.start s.keys.items c.args.limit (ap (slice_get s.keys.items) (sym s.passing) ∙ sym c.kept_key.ensures ∙ c.in-None.is))
