use Rattle.std.proofs.Common.{◌≡◌, ℕ, ◌+◌, ◌++◌, List, sym, ap, ap₂, ◌∙◌}
use Rattle.std.specs.Option.{option_to_list}
use Rattle.pyramid.specs.declared.place.Place.{Place}
use Rattle.pyramid.specs.Building.{coding_count}
use Rattle.pyramid.proofs.PlacedLists.{coding-from, coding-first}
use Rattle.pyramid.proofs.schedule.drop_first.Goals as goal

pub returns-clause-count : goal.returns-clause-count
returns-clause-count c =
    let rest : List Place = c.pop_front.new.self.items in
    let left : coding_count c.drop_cut.new.places.items ≡ coding_count rest = ap coding_count c.drop_cut.ensures ∙ coding-from rest in
    let first = ap (λ o. coding_count (option_to_list o ++ rest)) (sym c.in-Some.is) in
    ap₂ (λ (n m : ℕ). n + m) c.coding.ensures.value left ∙ sym (coding-first c.in-Some.place rest) ∙ first ∙ ap coding_count (sym c.pop_front.ensures.items)
