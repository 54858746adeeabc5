use Rattle.pyramid.proofs.PublicLaws.{slots_after_both, accepts_both, shown_by_both, showing_both}
use Rattle.pyramid.proofs.laws.commands_join.Goals as goal

pub returns-clause-slots : goal.returns-clause-slots
returns-clause-slots c = slots_after_both

pub returns-clause-accepted : goal.returns-clause-accepted
returns-clause-accepted c = accepts_both

pub returns-clause-shown : goal.returns-clause-shown
returns-clause-shown c = shown_by_both

pub returns-clause-count : goal.returns-clause-count
returns-clause-count c = showing_both
