use Rattle.std.proofs.Common.{◌≡◌, take, subst}
use Rattle.pass_stats.specs.Summary.{Summary}
use Rattle.pass_stats.specs.declared.summary.RCSummary.{RCSummary}
use Rattle.pass_stats.proofs.SummaryFacts.{refused-Summary, Summary-unique}
use Rattle.pass_stats.proofs.parse.parse_summary.Goals as goal

pub returns-in-Ok-clause-accepted : goal.returns-in-Ok-clause-accepted
returns-in-Ok-clause-accepted c s =
    let bytes = c.args.bytes.now in (
      λ e. (let same : c.in-Ok.summary ≡ s = cc in subst (λ (t : RCSummary). Summary (take 68 bytes) t) same c.in-Ok.ensures.1),
      λ h. (let same : c.in-Ok.summary ≡ s = Summary-unique (take 68 bytes) _ _ c.in-Ok.ensures.1 h in cc),
    )

pub returns-in-Err-clause-accepted : goal.returns-in-Err-clause-accepted
returns-in-Err-clause-accepted c s =
    (λ e. cc, λ h. absurd (refused-Summary c.args.bytes.now s c.in-Err.why c.in-Err.ensures h))
