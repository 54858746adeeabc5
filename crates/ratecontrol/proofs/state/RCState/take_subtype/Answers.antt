use Rattle.std.proofs.Common.{◌≡◌, ◌∙◌, refl, rules, arith, length, to_z, of_z, w64}
use Rattle.std.proofs.lemmas.List.{get_or_default}
use Rattle.rate_model.specs.Subtype.{subtype_at, no_subtype}
use Rattle.rate_model.specs.Measure.{subtype_after, entry}
use Rattle.reservoir.specs.Moves.{coded_after}
use Rattle.ratecontrol.proofs.state.RCState.take_subtype.Goals as goal

pub returns : goal.returns
returns c =
    let len : length c.self.inside.subtypes ≡ 4 = search rules in
    let coded_is : to_z w64 (of_z w64 c.next_coded-self-inside.result) ≡ coded_after c.args.bits c.args.trial c.self.inside.coded = search rules in
    let there = c.index-self-fti.is in
    let is : c.index-self-fti.result ≡ subtype_at c.self.inside.subtypes c.args.fti =
    there ∙ get_or_default c.self.inside.subtypes c.args.fti c.index-self-fti.result no_subtype (omega arith) in
    let taken : c.take.new.self ≡ subtype_after c.self.inside.log_npixels c.self.inside.delay_target (entry c.args.bits c.args.fti c.args.shown c.args.log_target c.args.trial) c.index-self-fti.result = search rules in
    rw (← c.self.view_is, coded_is, taken, is) refl
