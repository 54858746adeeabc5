-- What the loop over the calls of a session in one pass keeps, and what it comes to.
use Rattle.std.proofs.Common.{◌≡◌, ℕ, ◌≤◌, List, [], ◌∷◌, ◌++◌, length, take, Some, refl, sym, ap, ◌∙◌, subst, subst₂}
use Rattle.std.specs.List.{slice_get}
use Rattle.std.proofs.Math.Seq.{take-append_seam}
use Rattle.coding_base.specs.Faults.{Rose}
use Rattle.coding_base.proofs.RunLemmas.{runs-push}
use Rattle.av1_settings.specs.declared.encoder.EncoderConfig.{EncoderConfig}
use Rattle.av1_settings.specs.declared.invalid.InvalidConfig.{InvalidConfig}
use Rattle.quantizers.specs.Tables.{Tables}
use Rattle.session_core.specs.declared.call.Call.{Call}
use Rattle.session_core.specs.declared.fault.SessionFault.{SessionFault}
use Rattle.session_core.specs.declared.fault.SessionFault.TheVariants.{Coder, OutOfMemory, PassData}
use Rattle.session_core.specs.declared.session.SessionError.{SessionError}
use Rattle.session_core.specs.declared.session.SessionError.TheVariants.{CoderFault, Invalid, OutOfMemory as NoMemory, PassData as RefusedData}
use Rattle.session_core.specs.declared.state.SessionState.{SessionState}
use Rattle.session_core.specs.declared.transcript.Decision.{Decision}
use Rattle.session_core.specs.declared.transcript.Transcript.{Transcript}
use Rattle.session_core.specs.declared.transcript.Turn.{Turn}
use Rattle.pass_data.specs.declared.error.PassDataError.{PassDataError}
use Rattle.session_log.specs.Passes.{Passes, no_passes}
use Rattle.session_core.specs.Answers.{FailsAt, IsStopped, error_of}
use Rattle.session_core.specs.Moments.{Moment, opening}
use Rattle.session_core.specs.Quantisers.{AreSelected, IsQuantised, passes_behind}
use Rattle.session_core.specs.Sessions.{AreQuantised, IsSessionRun, KeepsSchedule, moment_after, entries_of}
use Rattle.session_core.specs.States.{moment_of, passes_at, IsKept}
use Rattle.session_core.specs.Steps.{AreSteps, Fails, IsStep}
use Rattle.session_core.specs.Told.{Heard, IsLater}
use Rattle.session_core.specs.Turns.{after_turn}
use Rattle.session_core.proofs.Passing.{behind-none}
use Rattle.session_core.proofs.Playing.{Playing, get-behind, moment, playing-opening, playing-played, playing-selected, playing-step, playing-stopped, quantised-kept}
use Rattle.session_core.proofs.SessionLaws.{schedule-of}

-- ---- the loop

-- so far the session plays, by steps and with the quantisers of one pass, and the state is what its calls leave
pub record Carried {T O : Type 0} (enc : EncoderConfig) (tables : Tables) (done : List (Call T O)) (turns : List (Turn T O)) (state : SessionState T O) (before now : Heard T) : Type 0 where
  pub playing : Playing enc done turns (moment_of state) before now
  pub steps : AreSteps enc tables done turns opening (moment_of state) before now
  pub kept : IsKept enc state
  pub tables_are : state.rate.tables ≡ tables
  pub alone : passes_at state ≡ no_passes
  pub quantised : AreQuantised enc tables state.decisions.items done turns

pub carried-opening : {T O : Type 0} (enc : EncoderConfig) (tables : Tables) (turns : List (Turn T O)) (state : SessionState T O) (heard : Heard T) →
    turns ≡ [] → moment_of state ≡ opening → IsKept enc state → state.rate.tables ≡ tables → passes_at state ≡ no_passes →
    Carried {T = T} {O = O} enc tables [] turns state heard heard
carried-opening {T} {O} enc tables turns state heard none opened kept same alone =
    subst (λ (t : List (Turn T O)). Carried {T = T} {O = O} enc tables [] t state heard heard) (sym none) (record {
      playing = playing-opening enc (moment_of state) heard opened;
      steps = (opened, refl);
      kept = kept;
      tables_are = same;
      alone = alone;
      quantised = tt;
    })

-- one more step
steps-push : {T O : Type 0} (enc : EncoderConfig) (tables : Tables) (done : List (Call T O)) (turns : List (Turn T O)) (call : Call T O) (turn : Turn T O)
    (before middle after : Moment T O) (told now then : Heard T) → AreSteps enc tables done turns before middle told now → IsStep enc tables no_passes call turn middle after now then →
    AreSteps enc tables (done ++ call ∷ []) (turns ++ turn ∷ []) before after told then
steps-push {T} {O} enc tables [] [] call turn before middle after told now then (same, silent) step =
    (after, then, subst₂ (λ (m : Moment T O) (h : Heard T). IsStep enc tables no_passes call turn m after h then) same silent step, (refl, refl))
steps-push enc tables [] (other ∷ turns) call turn before middle after told now then steps step = absurd steps
steps-push enc tables (first ∷ done) [] call turn before middle after told now then steps step = absurd steps
steps-push enc tables (first ∷ done) (other ∷ turns) call turn before middle after told now then (next, heard, one, rest) step =
    (next, heard, one, steps-push enc tables done turns call turn next middle after heard now then rest step)

-- one more call
pub carried-step : {T O : Type 0} (enc : EncoderConfig) (tables : Tables) (done : List (Call T O)) (turns all : List (Turn T O)) (state after : SessionState T O)
    (before now then : Heard T) (call : Call T O) (turn : Turn T O) → 1 ≤ enc.speed_settings.rdo_lookahead_frames →
    Carried enc tables done turns state before now → IsStep enc state.rate.tables (passes_at state) call turn (moment_of state) (moment_of after) now then →
    passes_at after ≡ passes_behind enc (passes_at state) (moment_of state).log turn.log → IsKept enc after →
    after.rate.tables ≡ state.rate.tables → IsLater now then → all ≡ turns ++ turn ∷ [] → Carried enc tables (done ++ call ∷ []) all after before then
carried-step {T} {O} enc tables done turns all state after before now then call turn looks carried stepped moved kept stays later put =
    subst (λ (t : List (Turn T O)). Carried enc tables (done ++ call ∷ []) t after before then) (sym put) (record {
      playing = playing-step enc tables no_passes done turns was is before now then call turn looks carried.playing step later;
      steps = steps-push enc tables done turns call turn opening was is before now then carried.steps step;
      kept = kept;
      tables_are = stays ∙ carried.tables_are;
      alone = moved ∙ ap (λ (p : Passes). passes_behind enc p was.log turn.log) carried.alone ∙ behind-none enc was.log turn.log;
      quantised = quantised;
    })
  where
    step : IsStep enc tables no_passes call turn (moment_of state) (moment_of after) now then
    step = subst₂ (λ (t : Tables) (p : Passes). IsStep enc t p call turn (moment_of state) (moment_of after) now then) carried.tables_are carried.alone stepped

    was : Moment T O
    was = moment_of state

    is : Moment T O
    is = moment_of after

    quantised : AreQuantised enc tables is.decisions (done ++ call ∷ []) (turns ++ turn ∷ [])
    quantised =
        runs-push (λ (m : Moment T O) (c : Call T O) (t : Turn T O). IsQuantised enc tables no_passes m t) (after_turn enc is.decisions) opening done turns call turn
        (quantised-kept enc done turns was is call turn carried.playing.leads step.answered step.moment tables carried.quantised)
        (subst (λ (m : Moment T O). IsQuantised enc tables no_passes m turn) (moment enc done turns was is call turn carried.playing.leads step.answered step.moment) step.quantised)

-- ---- the end

pub carried-session : {T O : Type 0} (enc : EncoderConfig) (tables : Tables) (calls : List (Call T O)) (transcript : Transcript T O) (state : SessionState T O) (before now : Heard T) →
    Carried enc tables calls transcript.turns state before now → transcript.decisions ≡ state.decisions.items →
    IsSessionRun enc tables calls transcript before now
carried-session {T} {O} enc tables calls transcript state before now carried same = record {
  played = playing-played enc calls transcript (moment_of state) before now carried.playing same;
  quantised = subst (λ (d : List Decision). AreQuantised enc tables d calls transcript.turns) (sym same) carried.quantised;
}

pub carried-steps : {T O : Type 0} (enc : EncoderConfig) (tables : Tables) (calls : List (Call T O)) (transcript : Transcript T O) (state : SessionState T O) (before now : Heard T) →
    Carried enc tables calls transcript.turns state before now → transcript.decisions ≡ state.decisions.items →
    AreSteps enc tables calls transcript.turns opening (moment_after enc transcript.decisions calls transcript.turns) before now
carried-steps {T} {O} enc tables calls transcript state before now carried same =
    subst (λ (m : Moment T O). AreSteps enc tables calls transcript.turns opening m before now)
    (carried.playing.leads.leads ∙ ap (λ (d : List Decision). moment_after enc d calls transcript.turns) (sym same)) carried.steps

pub session-schedule : {T O : Type 0} (enc : EncoderConfig) (tables : Tables) (calls : List (Call T O)) (transcript : Transcript T O) (before now : Heard T) →
    IsSessionRun enc tables calls transcript before now → KeepsSchedule enc calls transcript
session-schedule enc tables calls transcript before now run = schedule-of enc calls transcript run.played.turns run.played.decided

-- ---- a call that fails

pub carried-fault : {T O : Type 0} (enc : EncoderConfig) (tables : Tables) (done rest calls : List (Call T O)) (turns : List (Turn T O)) (state : SessionState T O)
    (before now then : Heard T) (call : Call T O) (number : ℕ) →
    Carried enc tables done turns state before now → done ++ call ∷ rest ≡ calls →
    Fails enc tables no_passes call (moment_of state) now then (Coder number) → FailsAt enc tables calls before then number
carried-fault {T} {O} enc tables done rest calls turns state before now then call number carried joined (receives, fault) = record {
  done = length done;
  turns = turns;
  decisions = decisions;
  command = fault.command;
  trials = fault.trials;
  at_receive = ap (λ (l : List (Call T O)). slice_get l (length done)) (sym joined) ∙ get-behind done rest call
      ∙ ap (λ (c : Call T O). Some c) receives;
  stopped = facts.0;
  quantised = facts.1;
  selected = facts.2;
}
  where
    decisions : List Decision
    decisions = state.decisions.items

    Holds : List (Call T O) → Type 0
    Holds first =
        IsStopped enc first turns decisions fault.command fault.trials before then number
        × AreQuantised enc tables decisions first turns
        × AreSelected enc tables no_passes (moment_after enc decisions first turns) (entries_of turns) fault.trials

    same : take (length done) calls ≡ done
    same = ap (take (length done)) (sym joined) ∙ take-append_seam done (call ∷ rest)

    facts : Holds (take (length done) calls)
    facts = subst Holds (sym same) (
      playing-stopped enc tables no_passes done turns (moment_of state) before now then number carried.playing fault,
      carried.quantised,
      playing-selected enc tables no_passes done turns (moment_of state) before now then number carried.playing fault,
    )

-- what an error of the loop says
pub record Stops {T O : Type 0} (enc : EncoderConfig) (tables : Tables) (calls : List (Call T O)) (before after : Heard T) (error : SessionError) : Type 0 where
  pub valid : (v : InvalidConfig) → error ≡ Invalid v → ⊥
  pub fault : (command : ℕ) → error ≡ CoderFault command → FailsAt enc tables calls before after command
  pub message : (refusal : PassDataError) → error ≡ RefusedData refusal → ⊥
  pub complete : ¬ Rose before.coder.faults after.coder.faults → error ≡ NoMemory

pub carried-stop : {T O : Type 0} (enc : EncoderConfig) (tables : Tables) (done rest calls : List (Call T O)) (turns : List (Turn T O)) (state : SessionState T O)
    (before now then : Heard T) (call : Call T O) (fault : SessionFault) →
    Carried enc tables done turns state before now → done ++ call ∷ rest ≡ calls →
    Fails enc state.rate.tables (passes_at state) call (moment_of state) now then fault → Stops enc tables calls before then (error_of fault)
carried-stop enc tables done rest calls turns state before now then call OutOfMemory carried joined fails = record {
  valid = λ v is. cc;
  fault = λ command is. absurd (cc);
  message = λ refusal is. cc;
  complete = λ still. refl;
}
carried-stop enc tables done rest calls turns state before now then call (Coder number) carried joined fails =
    let failed = carried-fault enc tables done rest calls turns state before now then call number carried joined
    (subst₂ (λ (t : Tables) (p : Passes). Fails enc t p call (moment_of state) now then (Coder number)) carried.tables_are carried.alone fails) in
    record {
      valid = λ v is. cc;
      fault = λ command is. let e : number ≡ command = cc in subst (λ (n : ℕ). FailsAt enc tables calls before then n) e failed;
      message = λ refusal is. cc;
      complete = λ still. absurd (still failed.stopped.rose);
    }
carried-stop enc tables done rest calls turns state before now then call (PassData refusal) carried joined fails = absurd fails
