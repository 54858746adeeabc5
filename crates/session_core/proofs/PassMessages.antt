-- The pass data that is taken.
use Rattle.std.proofs.Common.{◌≡◌, ℕ, Bool, true, false, cond, MatchBool, MatchOption, IsTrue, Option, Some, None, refl, sym, subst}
use Rattle.std.specs.Prelude.{IsNone}
use Rattle.arrayvec.specs.ArrayVec.{ArrayVec}
use Rattle.pass_data.specs.declared.rc_data.RcData.{RcData}
use Rattle.pass_data.specs.declared.rc_data.RcData.TheVariants.{Frame, Summary}
use Rattle.pass_stats.specs.Metric.{Metric}
use Rattle.pass_stats.specs.declared.metrics.RCFrameMetrics.{RCFrameMetrics}
use Rattle.ratecontrol.specs.Passes.{IsSummaryOf, frame_emitted, gives_frame, gives_summary}
use Rattle.ratecontrol.specs.Rate.{Rate}
use Rattle.session_core.specs.PassTurns.{IsFrameData, IsPassData, IsSummaryData}

module _ (done : Bool) (rate : Rate) where
  -- what is known of bytes that were taken, or of none
  pub record IsTakenOut (result : Option (ArrayVec ℕ)) : Type 0 where
    pub frame : IsTrue (gives_frame rate) → MatchOption result (frame_emitted rate ≡ None) (λ bytes. MatchOption (frame_emitted rate) ⊥ (λ m. Metric bytes.items m))
    pub summary : IsTrue (gives_summary done rate) → MatchOption result ⊥ (λ bytes. IsSummaryOf rate bytes.items)
    pub nothing : gives_frame rate ≡ false → gives_summary done rate ≡ false → IsNone result

  abbrev ByFrame : Option RcData → Bool → Type 0
  ByFrame message b =
      MatchBool b (MatchOption (frame_emitted rate) (message ≡ None) (IsFrameData message))
      (MatchBool (gives_summary done rate) (IsSummaryData message rate) (message ≡ None))

  pub none-taken : IsTakenOut None → IsPassData done rate None
  none-taken facts = by_frame (gives_frame rate) refl
    where
      by_summary : (b : Bool) → gives_summary done rate ≡ b → MatchBool b (IsSummaryData None rate) (◌≡◌ {A = Option RcData} None None)
      by_summary true e = facts.summary e
      by_summary false e = refl

      by_frame : (b : Bool) → gives_frame rate ≡ b → ByFrame None b
      by_frame true e = subst (λ (o : Option RCFrameMetrics). MatchOption o (◌≡◌ {A = Option RcData} None None) (IsFrameData None)) (sym (facts.frame e)) refl
      by_frame false e = by_summary (gives_summary done rate) refl

  some-is-some : (bytes : ArrayVec ℕ) → IsNone (Some bytes) → ⊥
  some-is-some bytes is = cc

  pub some-taken : (is_frame : Bool) (bytes : ArrayVec ℕ) → is_frame ≡ gives_frame rate → IsTakenOut (Some bytes) →
      IsPassData done rate (Some (cond is_frame (Frame bytes) (Summary bytes)))
  some-taken is_frame bytes is facts = subst (λ (b : Bool). IsPassData done rate (Some (cond b (Frame bytes) (Summary bytes)))) (sym is) (by_frame (gives_frame rate) refl)
    where
      is_metric : (o : Option RCFrameMetrics) → MatchOption o ⊥ (λ m. Metric bytes.items m) → MatchOption o (Some (Frame bytes) ≡ None) (IsFrameData (Some (Frame bytes)))
      is_metric None is = absurd is
      is_metric (Some m) is = is

      by_summary : (b : Bool) → gives_summary done rate ≡ b → gives_frame rate ≡ false → MatchBool b (IsSummaryData (Some (Summary bytes)) rate) (Some (Summary bytes) ≡ None)
      by_summary true e off = facts.summary e
      by_summary false e off = absurd (some-is-some bytes (facts.nothing off e))

      by_frame : (b : Bool) → gives_frame rate ≡ b → ByFrame (Some (cond b (Frame bytes) (Summary bytes))) b
      by_frame true e = is_metric (frame_emitted rate) (facts.frame e)
      by_frame false e = by_summary (gives_summary done rate) refl e
