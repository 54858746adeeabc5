use Rattle.std.proofs.Common.{rules, ◌≡◌, ◌<◌, ◌+◌, ◌*◌, get_or, sym, ◌∙◌, arith}
use Rattle.std.proofs.lemmas.List.{ext_get_or}
use Rattle.std.proofs.lemmas.List.FromFn.{get_or-map-range_with_len}
use Rattle.scripted.specs.ScriptedTables.{steps_of_eight}
use Rattle.scripted.proofs.tables.steps_of_eight.Goals as goal

pub returns : goal.returns
returns c =
    let made = c.from_fn.ensures.items in
    ext_get_or 0 c.from_fn.result steps_of_eight made.long (λ i lt.
    let below : i < 256 = omega (arith, lt, made.long) in
    let at = made.at i 0 below in
    let is : get_or c.from_fn.result i 0 ≡ 8 * (i + 1) = search rules in
    is ∙ sym (get_or-map-range_with_len (λ index. 8 * (index + 1)) 0 256 i i 0 below (omega arith)))
