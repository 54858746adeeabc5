-- Where the first failing call of a job's coder is told, the job doesn't both give packets and meet a fault, and its fault has one command.
use Rattle.std.proofs.Common.{◌≡◌, ℕ, zero, suc, ◌+◌, ◌<◌, ◌≤◌, Bool, true, false, List, [], ◌∷◌, ◌++◌, length, take, All, MatchBool, Option, None, Some, refl, sym, ap, ◌∙◌, subst, inl, inr, arith, length-append}
use Rattle.std.specs.Prelude.{⊤, IfSome, IsSome}
use Rattle.std.specs.List.{slice_get}
use Rattle.std.proofs.lemmas.Bool.{cases_order, false≢true}
use Rattle.coding_base.specs.Runs.{Runs}
use Rattle.av1_frame.specs.declared.frame.Frame.{Frame}
use Rattle.av1_settings.specs.declared.encoder.EncoderConfig.{EncoderConfig}
use Rattle.pyramid.specs.declared.command.Command.{Command}
use Rattle.quantizers.specs.Tables.{Tables}
use Rattle.session_core.specs.declared.call.Call.{Call}
use Rattle.session_core.specs.declared.packet.Packet.{Packet}
use Rattle.session_core.specs.Moments.{Moment, opening, plan_at}
use Rattle.session_core.specs.Questions.{AreAnswered}
use Rattle.session_core.specs.Sessions.{entries_of, moment_after}
use Rattle.session_core.specs.Told.{AreBeforeFault, CoderTold, DetectorTold, FailsBehind}
use Rattle.session_core.specs.Turns.{IsTrial, IsTurn, after_turn, held_back}
use Rattle.session_log.specs.declared.entry.LogEntry.{LogEntry}
use Rattle.session_log.specs.Selection.{is_trial_due}
use Rattle.gop_board.specs.JobCalls.{job_settings}
use Rattle.gop_board.specs.JobSessions.{GavePackets, MetFault}
use Rattle.gop_board.specs.Makers.{IsMadeCoder, MakerTold}
use Rattle.gop_board.proofs.Alike.{IsAlike, calls-alike, calls_for, reaches}
use Rattle.gop_board.proofs.SameCalls.{SameCalls, Unkeyed, job-calls-same, unkeyed-run}

few-trials : (due : Bool) (command : Command) (trials rest : List LogEntry) → MatchBool due (IsTrial command (trials ++ rest)) (trials ++ rest ≡ []) → length trials + 1 ≤ calls_for due
few-trials true command trials rest one =
    let count = ap (λ (l : List LogEntry). length l) one.one in omega (arith, length-append trials rest, count)
few-trials false command trials rest none =
    let count = ap (λ (l : List LogEntry). length l) none in omega (arith, length-append trials rest, count)

same-take : {T : Type 0} (k : ℕ) (calls others : List (Call T ⊤)) → SameCalls calls others → SameCalls (take k calls) (take k others)
same-take zero calls others same = tt
same-take (suc k) [] [] same = tt
same-take (suc k) [] (other ∷ others) same = absurd same
same-take (suc k) (call ∷ calls) [] same = absurd same
same-take (suc k) (call ∷ calls) (other ∷ others) same = (same.0, same-take k calls others same.1)

at-take : {X : Type 0} (k n : ℕ) (xs : List X) (x : X) → k < n → slice_get xs k ≡ Some x → slice_get (take n xs) k ≡ Some x
at-take k zero xs x less is = absurd (omega (arith, less))
at-take k (suc n) [] x less is = is
at-take zero (suc n) (y ∷ xs) x less is = is
at-take (suc k) (suc n) (y ∷ xs) x less is = at-take k n xs x (omega (arith, less)) is

take-less : {X : Type 0} (k n : ℕ) (xs : List X) → k < n → take k (take n xs) ≡ take k xs
take-less zero n xs less = refl
take-less (suc k) zero xs less = absurd (omega (arith, less))
take-less (suc k) (suc n) [] less = refl
take-less {X} (suc k) (suc n) (x ∷ xs) less = ap (λ (l : List X). x ∷ l) (take-less k n xs (omega (arith, less)))

module _ {T : Type 0} (enc : EncoderConfig) (tables : Tables) (ahead : MakerTold T) (pictures : List (Frame T)) where
  fails-of : (told : CoderTold T) (fails : Option ℕ) → IsMadeCoder ahead told → ahead.fails_after ≡ Some fails → told.fails_after ≡ Some fails
  fails-of told fails made is = subst (λ (o : Option (Option ℕ)). IfSome o (λ f. told.fails_after ≡ Some f)) is made.fails_after

  opening-alike : IsAlike {T = T} opening opening
  opening-alike = record { accepted = refl; flushed = refl; commands = refl; packets = refl; coded = refl; unkeyed = tt; unkeyed_too = tt }

  unkeyed-gave : (packets : List (Packet T ⊤)) (gave : GavePackets enc tables ahead pictures packets) → Unkeyed gave.session.transcript.decisions
  unkeyed-gave packets gave =
      let answered : All (λ decision. decision.forced ≡ false → decision.key ≡ false) gave.session.transcript.decisions =
      subst (λ (d : DetectorTold T). AreAnswered d.answers gave.session.transcript.decisions) gave.fresh.detector gave.session.run.played.asked.ahead in
      unkeyed-run gave.session.calls gave.session.calls gave.session.transcript.turns gave.session.transcript.decisions
      (job-calls-same enc pictures gave.session.calls gave.session.calls gave.session.calls_are gave.session.calls_are) gave.session.run.played.keys answered

  unkeyed-met : (command : ℕ) (coder : CoderTold T) (met : MetFault enc tables ahead pictures command coder) → Unkeyed met.session.fails.decisions
  unkeyed-met command coder met =
      let answered : All (λ decision. decision.forced ≡ false → decision.key ≡ false) met.session.fails.decisions =
      subst (λ (d : DetectorTold T). AreAnswered d.answers met.session.fails.decisions) met.fresh.detector met.session.fails.stopped.asked.ahead in
      unkeyed-run (take met.session.fails.done met.session.calls) (take met.session.fails.done met.session.calls) met.session.fails.turns met.session.fails.decisions
      (same-take met.session.fails.done met.session.calls met.session.calls (job-calls-same enc pictures met.session.calls met.session.calls met.session.calls_are met.session.calls_are))
      met.session.fails.stopped.keys answered

  -- the moment of the fault
  moment_of : (command : ℕ) (coder : CoderTold T) → MetFault enc tables ahead pictures command coder → Moment T ⊤
  moment_of command coder met = moment_after (job_settings enc) met.session.fails.decisions (take met.session.fails.done met.session.calls) met.session.fails.turns

  next-is : (command : ℕ) (coder : CoderTold T) (met : MetFault enc tables ahead pictures command coder) →
      slice_get (plan_at (job_settings enc) (moment_of command coder met)) (moment_of command coder met).commands ≡ Some met.session.fails.command
  unfolding moment_of
  next-is command coder met =
      ap (λ (n : ℕ). slice_get (plan_at (job_settings enc) (moment_of command coder met)) n) met.session.fails.stopped.due.next ∙ met.session.fails.stopped.due.command_of

  tries : (command : ℕ) (coder : CoderTold T) (met : MetFault enc tables ahead pictures command coder) →
      length met.session.fails.trials + 1 ≤ calls_for (is_trial_due (job_settings enc) (moment_of command coder met).log met.session.fails.command)
  unfolding moment_of
  tries command coder met = few-trials _ met.session.fails.command met.session.fails.trials met.session.fails.stopped.tried.0 met.session.fails.stopped.tried.1

  pub apart : (packets : List (Packet T ⊤)) (command : ℕ) (coder : CoderTold T) → IsSome ahead.fails_after → GavePackets enc tables ahead pictures packets →
      MetFault enc tables ahead pictures command coder → ⊥
  unfolding moment_of
  apart packets command coder tells gave met = by ahead.fails_after refl tells
    where
      by : (fails : Option (Option ℕ)) → ahead.fails_after ≡ fails → IsSome fails → ⊥
      by None is known = false≢true known
      by (Some None) is known =
          subst (λ (o : Option (Option ℕ)). FailsBehind o (length (entries_of met.session.fails.turns ++ met.session.fails.trials)))
          (fails-of met.before.coder None met.fresh.coder is) met.session.fails.stopped.reached
      by (Some (Some left)) is known =
          let few : length (entries_of gave.session.transcript.turns) ≤ left =
          subst (λ (o : Option (Option ℕ)). AreBeforeFault o (length (entries_of gave.session.transcript.turns))) (fails-of gave.before.coder (Some left) gave.fresh.coder is) gave.session.run.played.unreached in
          let all : left ≡ length (entries_of met.session.fails.turns ++ met.session.fails.trials) =
          subst (λ (o : Option (Option ℕ)). FailsBehind o (length (entries_of met.session.fails.turns ++ met.session.fails.trials))) (fails-of met.before.coder (Some left) met.fresh.coder is) met.session.fails.stopped.reached in
          let most = reaches (job_settings enc) met.session.fails.decisions gave.session.transcript.decisions (unkeyed-met command coder met) (unkeyed-gave packets gave)
          met.session.fails.done met.session.calls gave.session.calls met.session.fails.turns gave.session.transcript.turns opening opening met.session.fails.command
          (job-calls-same enc pictures met.session.calls gave.session.calls met.session.calls_are gave.session.calls_are)
          met.session.fails.at_receive met.session.fails.stopped.answered gave.session.run.played.turns opening-alike met.session.fails.stopped.due.due (next-is command coder met) in
          omega (arith, few, all, most, tries command coder met, length-append (entries_of met.session.fails.turns) met.session.fails.trials)

  -- of two faults none comes earlier
  not-earlier : (command other : ℕ) (coder other_coder : CoderTold T) → IsSome ahead.fails_after → (met : MetFault enc tables ahead pictures command coder) →
      (too : MetFault enc tables ahead pictures other other_coder) → met.session.fails.done < too.session.fails.done → ⊥
  unfolding moment_of
  not-earlier command other coder other_coder tells met too less = by ahead.fails_after refl tells
    where
      cut : take met.session.fails.done (take too.session.fails.done met.session.calls) ≡ take met.session.fails.done met.session.calls
      cut = take-less met.session.fails.done too.session.fails.done met.session.calls less

      by : (fails : Option (Option ℕ)) → ahead.fails_after ≡ fails → IsSome fails → ⊥
      by None is known = false≢true known
      by (Some None) is known =
          subst (λ (o : Option (Option ℕ)). FailsBehind o (length (entries_of met.session.fails.turns ++ met.session.fails.trials)))
          (fails-of met.before.coder None met.fresh.coder is) met.session.fails.stopped.reached
      by (Some (Some left)) is known =
          let one : left ≡ length (entries_of met.session.fails.turns ++ met.session.fails.trials) =
          subst (λ (o : Option (Option ℕ)). FailsBehind o (length (entries_of met.session.fails.turns ++ met.session.fails.trials))) (fails-of met.before.coder (Some left) met.fresh.coder is) met.session.fails.stopped.reached in
          let two : left ≡ length (entries_of too.session.fails.turns ++ too.session.fails.trials) =
          subst (λ (o : Option (Option ℕ)). FailsBehind o (length (entries_of too.session.fails.turns ++ too.session.fails.trials))) (fails-of too.before.coder (Some left) too.fresh.coder is) too.session.fails.stopped.reached in
          let most : length (entries_of met.session.fails.turns) + calls_for (is_trial_due (job_settings enc) (moment_of command coder met).log met.session.fails.command) ≤ length (entries_of too.session.fails.turns) =
          subst (λ (l : List (Call T ⊤)). length (entries_of met.session.fails.turns) + calls_for (is_trial_due (job_settings enc) (moment_after (job_settings enc) met.session.fails.decisions l met.session.fails.turns).log met.session.fails.command) ≤ length (entries_of too.session.fails.turns)) cut
          (reaches (job_settings enc) met.session.fails.decisions too.session.fails.decisions (unkeyed-met command coder met) (unkeyed-met other other_coder too)
          met.session.fails.done (take too.session.fails.done met.session.calls) (take too.session.fails.done too.session.calls) met.session.fails.turns too.session.fails.turns opening opening met.session.fails.command
          (same-take too.session.fails.done met.session.calls too.session.calls (job-calls-same enc pictures met.session.calls too.session.calls met.session.calls_are too.session.calls_are))
          (at-take met.session.fails.done too.session.fails.done met.session.calls _ less met.session.fails.at_receive)
          (subst (λ (l : List (Call T ⊤)). Runs (IsTurn (job_settings enc) met.session.fails.decisions) (after_turn (job_settings enc) met.session.fails.decisions) opening l met.session.fails.turns) (sym cut) met.session.fails.stopped.answered)
          too.session.fails.stopped.answered opening-alike
          (subst (λ (l : List (Call T ⊤)). held_back (job_settings enc) (moment_after (job_settings enc) met.session.fails.decisions l met.session.fails.turns) ≡ None) (sym cut) met.session.fails.stopped.due.due)
          (subst (λ (l : List (Call T ⊤)). slice_get (plan_at (job_settings enc) (moment_after (job_settings enc) met.session.fails.decisions l met.session.fails.turns)) (moment_after (job_settings enc) met.session.fails.decisions l met.session.fails.turns).commands ≡ Some met.session.fails.command) (sym cut) (next-is command coder met))) in
          omega (arith, one, two, most, tries command coder met, length-append (entries_of met.session.fails.turns) met.session.fails.trials, length-append (entries_of too.session.fails.turns) too.session.fails.trials)

  pub one-command : (command other : ℕ) (coder other_coder : CoderTold T) → IsSome ahead.fails_after → MetFault enc tables ahead pictures command coder →
      MetFault enc tables ahead pictures other other_coder → command ≡ other
  one-command command other coder other_coder tells met too = elim (cases_order met.session.fails.done too.session.fails.done) [
    | inr different ↦ elim different [
      | inl less ↦ absurd (not-earlier command other coder other_coder tells met too less)
      | inr more ↦ absurd (not-earlier other command other_coder coder tells too met more)
    ]
    | inl same ↦
        let calls : SameCalls (take met.session.fails.done met.session.calls) (take too.session.fails.done too.session.calls) =
        subst (λ (n : ℕ). SameCalls (take met.session.fails.done met.session.calls) (take n too.session.calls)) same
        (same-take met.session.fails.done met.session.calls too.session.calls (job-calls-same enc pictures met.session.calls too.session.calls met.session.calls_are too.session.calls_are)) in
        let alike = calls-alike (job_settings enc) met.session.fails.decisions too.session.fails.decisions (unkeyed-met command coder met) (unkeyed-met other other_coder too)
        (take met.session.fails.done met.session.calls) (take too.session.fails.done too.session.calls) met.session.fails.turns too.session.fails.turns opening opening calls
        met.session.fails.stopped.answered too.session.fails.stopped.answered opening-alike in
        sym met.session.fails.stopped.due.next ∙ alike.commands ∙ too.session.fails.stopped.due.next
  ]
