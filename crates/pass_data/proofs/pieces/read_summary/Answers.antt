use Rattle.std.proofs.Common.{◌≡◌, refl, ap}
use Rattle.std.specs.Prelude.{Option, Some, None}
use Rattle.pass_stats.specs.declared.error.Why.{Why}
use Rattle.pass_stats.specs.Summary.{first_met}
use Rattle.pass_data.specs.Given.{refusal_by}
use Rattle.pass_data.proofs.pieces.read_summary.Goals as goal

pub returns-in-Ok : goal.returns-in-Ok
returns-in-Ok c =
    let bytes = c.args.bytes.now in
    (met (first_met bytes) refl, (c.in-Ok.ensures.accepted c.in-Ok.s).0 refl, c.in-Ok.s.grammar.total_is) where
      met : (w : Option Why) → first_met c.args.bytes.now ≡ w → first_met c.args.bytes.now ≡ None
      met None e = e
      met (Some why) e = let same = (c.in-Ok.ensures.refused why).1 e in cc

pub returns-in-Err-CorruptedSummary : goal.returns-in-Err-CorruptedSummary
returns-in-Err-CorruptedSummary c =
    let e = rw c.in-Err-CorruptedSummary.field-0-is at c.in-Err-CorruptedSummary.ensures in
    ap refusal_by ((e.refused c.in-Err-CorruptedSummary.why).0 refl)
