use Rattle.std.proofs.Common.{List, ℕ, take, sym, subst}
use Rattle.std.specs.Prelude.{MatchResult, Result}
use Rattle.pass_stats.specs.Summary.{Summary}
use Rattle.pass_stats.specs.declared.summary.RCSummary.{RCSummary}
use Rattle.pass_stats.specs.declared.error.RateControlError.{RateControlError}
use Rattle.ratecontrol.specs.Passes.{IsReadBack}
use Rattle.ratecontrol.proofs.SummaryLaws.{read_back}
use Rattle.ratecontrol.proofs.laws.emitted_summary_again.Goals as goal

pub returns : goal.returns
returns c = record {
  read = λ h. (
      let rate = c.args.state.now in
      let read = read_back rate c.emit_summary.result.items c.emit_summary.ensures.summary c.emit_summary.ensures.exponents c.emit_summary.ensures.sums h in
      let bytes : Summary (take 68 c.as_slice.result.now) read.0 =
      subst (λ (xs : List ℕ). Summary (take 68 xs) read.0) (sym c.as_slice.ensures.value) read.1.0 in
      subst (λ (r : Result RCSummary RateControlError). MatchResult r (IsReadBack rate) (λ _. ⊥)) (sym ((c.parse_summary.ensures.accepted read.0).1 bytes)) read.1.1);
  state = c.emit_summary.ensures.state;
}
