use Rattle.std.proofs.Common.{◌≡◌, ◌∙◌, ℤ, length, refl, rules, arith, ap, to_z, of_z, w64}
use Rattle.std.proofs.lemmas.List.{get_or_default}
use Rattle.rate_model.specs.Subtype.{SubtypeRate, no_subtype}
use Rattle.ratecontrol.proofs.Four.{map_four}
use Rattle.ratecontrol.proofs.state.RCState.log_scales.Goals as goal

pub returns : goal.returns
returns c =
    let subtypes = c.self.inside.subtypes in
    let len : length subtypes ≡ 4 = search rules in
    let scale : SubtypeRate → ℤ = λ s. s.log_scale in
    let read_0 = c.index-self-0.is ∙ get_or_default subtypes 0 c.index-self-0.result no_subtype (omega arith) in
    let read_1 = c.index-self-1.is ∙ get_or_default subtypes 1 c.index-self-1.result no_subtype (omega arith) in
    let read_2 = c.index-self-2.is ∙ get_or_default subtypes 2 c.index-self-2.result no_subtype (omega arith) in
    let read_3 = c.index-self-3.is ∙ get_or_default subtypes 3 c.index-self-3.result no_subtype (omega arith) in
    let scale_0 : to_z w64 (of_z w64 c.log_scale.result) ≡ c.index-self-0.result.log_scale = search rules in
    let scale_1 : to_z w64 (of_z w64 c.log_scale-2.result) ≡ c.index-self-1.result.log_scale = search rules in
    let scale_2 : to_z w64 (of_z w64 c.log_scale-3.result) ≡ c.index-self-2.result.log_scale = search rules in
    let scale_3 : to_z w64 (of_z w64 c.log_scale-4.result) ≡ c.index-self-3.result.log_scale = search rules in
    rw (← c.self.view_is, scale_0 ∙ ap scale read_0, scale_1 ∙ ap scale read_1, scale_2 ∙ ap scale read_2, scale_3 ∙ ap scale read_3, map_four scale no_subtype subtypes len) refl
