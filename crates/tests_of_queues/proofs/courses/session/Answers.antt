use Rattle.std.proofs.Common.{Bool, Ok, is_some, subst}
use Rattle.session_channels.specs.Drives.{IsNew}
use Rattle.session_channels.proofs.Making.{made_new}
use Rattle.tests_of_queues.proofs.courses.session.Goals as goal

pub returns-in-Ok : goal.returns-in-Ok
returns-in-Ok c =
    let made = made_new 8 c.no_levels-levels.result c.config-config.result c.scripted_tables-tables.result _ _ _ (Ok c.in-Ok.inner) c.in-Ok.ensures.made c.in-Ok.ensures.refused c.has_five_counts.ensures in
    subst (λ (second : Bool). IsNew c.in-Ok.inner second c.args.passes.now.first) c.config-config.ensures.summary
    (subst (λ (first : Bool). IsNew c.in-Ok.inner (is_some c.config-config.result.rate_control.summary) first) c.config-config.ensures.emits made)
