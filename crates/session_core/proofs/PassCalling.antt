-- Calls of a context that hand pass data over.
use Rattle.std.proofs.Common.{◌≡◌, ◌⊎◌, inl, inr, ℕ, MatchOption, Option, Some, None, Result, Ok, Err, sym, ap, ap₂, ◌∙◌, subst}
use Rattle.std.specs.Prelude.{MatchResult}
use Rattle.av1_settings.specs.declared.encoder.EncoderConfig.{EncoderConfig}
use Rattle.av1_settings.specs.declared.status.EncoderStatus.{EncoderStatus}
use Rattle.av1_settings.specs.declared.status.EncoderStatus.TheVariants.{Failure}
use Rattle.pass_data.specs.declared.error.PassDataError.{PassDataError}
use Rattle.pass_data.specs.declared.error.PassDataError.TheVariants.{OutOfMemory as NoWindow}
use Rattle.pass_data.specs.declared.rc_data.RcData.{RcData}
use Rattle.quantizers.specs.Tables.{Tables}
use Rattle.ratecontrol.specs.Passes.{Answered, IsAnswered, RunsOut}
use Rattle.ratecontrol.specs.Rate.{Rate}
use Rattle.session_log.specs.Passes.{Passes, passes_of}
use Rattle.session_core.specs.declared.fault.SessionFault.{SessionFault}
use Rattle.session_core.specs.declared.state.SessionState.{SessionState}
use Rattle.session_core.specs.Contexts.{Session, status_of}
use Rattle.session_core.specs.Moments.{Moment}
use Rattle.session_core.specs.PassCalls.{IsBytesCall, IsCounted, IsTakeCall, LacksWindow, fault_of, rate_in, with_rate}
use Rattle.session_core.specs.PassStates.{at_state}
use Rattle.session_core.specs.PassTurns.{IsPassData, PassMoment, after_taken, is_done, rate_of}
use Rattle.session_core.specs.States.{moment_of, passes_at}
use Rattle.session_core.proofs.Calling.{session_of}

module _ {T O D S C : Type 0} (enc : EncoderConfig) (state after : SessionState T O) (failure : Option SessionFault) (d : D) (s : S) (c : C) where
  abbrev before : Session T O D S C
  before = session_of enc state failure d s c

  -- only what the passes hand on changed
  pub session-moved : (passes : Passes) → moment_of after ≡ moment_of state → passes_at after ≡ passes → after.rate.tables ≡ state.rate.tables →
      session_of enc after failure d s c ≡ record before { passes = passes }
  session-moved passes moments same tables =
      ap₂ (λ (m : Moment T O) (p : Passes). record (session_of enc after failure d s c) { moment = m; passes = p }) moments same
      ∙ ap (λ (t : Tables). record before { tables = t; passes = passes }) tables

  -- ---- bytes

  module _ (asks : Rate → Answered) (answer : Result ℕ PassDataError) (result : Result ℕ EncoderStatus) (final : Session T O D S C)
      (others : after ≡ record state { rate = after.rate }) (tables : after.rate.tables ≡ state.rate.tables)
      (counted : MatchResult answer (λ count. (result ≡ Ok count) × (final ≡ session_of enc after failure d s c))
      (λ refusal. (result ≡ Err (status_of (fault_of refusal))) × (final ≡ record (session_of enc after failure d s c) { failure = Some (fault_of refusal) }))) where
    moments : moment_of after ≡ moment_of state
    moments = ap moment_of others

    abbrev Counts : Result ℕ PassDataError → Type 0
    Counts a = MatchResult a (λ count. (result ≡ Ok count) × (final ≡ session_of enc after failure d s c))
        (λ refusal. (result ≡ Err (status_of (fault_of refusal))) × (final ≡ record (session_of enc after failure d s c) { failure = Some (fault_of refusal) }))

    by_answer : (a : Answered) → after.rate.state ≡ a.rate → Counts a.answer → IsCounted a before final result
    by_answer a is counts = by_result a.answer counts
      where
        same : session_of enc after failure d s c ≡ with_rate a.rate before
        same = session-moved (passes_of a.rate) moments (ap passes_of is) tables

        by_result : (r : Result ℕ PassDataError) → Counts r → IsCounted (record { rate = a.rate; answer = r }) before final result
        by_result (Ok count) (gives, then) = (gives, then ∙ same)
        by_result (Err refusal) (gives, then) = (gives, then ∙ ap (λ (session : Session T O D S C). record session { failure = Some (fault_of refusal) }) same)

    by_window : RunsOut (rate_of enc (at_state state)) after.rate.state → Counts (Err NoWindow) → LacksWindow before final result
    by_window out (gives, then) = record {
      open_yet = out.open_yet;
      begins = out.wants.single_or_first;
      window = out.wants.window;
      status = gives;
      kept = then ∙ ap (λ (session : Session T O D S C). record session { failure = Some (fault_of NoWindow) })
          (session-moved (passes_at state) moments (ap passes_of out.wants.same) tables);
    }

    answered : IsAnswered (asks (rate_of enc (at_state state))) (rate_of enc (at_state state)) after.rate.state answer →
        IsCounted (asks (rate_in before)) before final result ⊎ LacksWindow before final result
    answered (inl (is, gives)) = inl (by_answer (asks (rate_of enc (at_state state))) is (subst Counts gives counted))
    answered (inr (out, gives)) = inr (by_window out (subst Counts gives counted))

    pub bytes-call : failure ≡ None → IsAnswered (asks (rate_of enc (at_state state))) (rate_of enc (at_state state)) after.rate.state answer → IsBytesCall asks before final result
    bytes-call none is =
        subst (λ (f : Option SessionFault). MatchOption f (IsCounted (asks (rate_in before)) before final result ⊎ LacksWindow before final result)
        (λ fault. (result ≡ Err Failure) × (final ≡ before))) (sym none) (answered is)

  -- ---- what a first pass hands on

  pub take-call : (message : Option RcData) → failure ≡ None → IsPassData (is_done (moment_of state)) (rate_of enc (at_state state)) message → at_state after ≡ after_taken enc (at_state state) →
      after.rate.tables ≡ state.rate.tables → IsTakeCall before (session_of enc after failure d s c) message
  take-call message none data_is leads tables =
      subst (λ (f : Option SessionFault). MatchOption f
      (IsPassData (is_done (moment_of state)) (rate_of enc (at_state state)) message
      × (session_of enc after failure d s c ≡ record before { passes = (after_taken enc (at_state state)).passes }))
      (λ fault. (message ≡ None) × (session_of enc after failure d s c ≡ before))) (sym none)
      (data_is, session-moved (after_taken enc (at_state state)).passes (ap (λ (at : PassMoment T O). at.moment) leads) (ap (λ (at : PassMoment T O). at.passes) leads) tables)
