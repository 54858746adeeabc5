use Rattle.std.proofs.Common.{◌≡◌, ◌∙◌}
use Rattle.std.proofs.lemmas.List.{map-append, map-id}
use Rattle.std.proofs.lemmas.Slice.Zip.{AllZip-map}
use Rattle.session_script.specs.Calls.{asked_in_passes}
use Rattle.session_script.proofs.calls.push_pass_calls.Goals as goal

pub returns-in_ok-push-in-Give-clause-calls : goal.returns-in_ok-push-in-Give-clause-calls
returns-in_ok-push-in-Give-clause-calls c =
    let same : c.in_ok-clone-in-Give.field-0.items ≡ c.in-Give.message.items =
    AllZip-map (λ x. x) _ _ c.in_ok-clone-in-Give.ensures.cases ∙ map-id c.in-Give.message.items in
    rw (c.in_ok-push-in-Give.ensures.items, map-append asked_in_passes, c.in-Give.is, same)
