-- Two runs on the same frames, with the same decisions, code the same commands as far as both go.
use Rattle.std.proofs.Common.{◌≡◌, ℕ, ◌<◌, ◌≤◌, ◌⊎◌, ltb, inl, inr, List, ◌++◌, length, take, drop, sym, ap, ap₂, ◌∙◌, subst₂, take-append-drop, arith}
use Rattle.std.proofs.lemmas.List.{take-take}
use Rattle.std.proofs.lemmas.Bool.{cases_Bool, ltb-true, ltb-false}
use Rattle.av1_settings.specs.declared.encoder.EncoderConfig.{EncoderConfig}
use Rattle.av1_settings.specs.Settings.{interval_of}
use Rattle.pyramid.specs.declared.command.Command.{Command}
use Rattle.pyramid.specs.Plan.{plan}
use Rattle.pyramid.specs.Settings.{numbers_of}
use Rattle.session_core.specs.declared.call.Call.{Call}
use Rattle.session_core.specs.declared.transcript.Decision.{Decision}
use Rattle.session_core.specs.declared.transcript.Transcript.{Transcript}
use Rattle.session_core.specs.Decisions.{keys_of}
use Rattle.session_core.specs.Moments.{Accepted, plan_at}
use Rattle.session_core.specs.Sessions.{AreTurns, moment_after, accepted_in, commands_of, IsPrefix, IsSameInput, KeepsSchedule}
use Rattle.session_core.proofs.RunHistory.{history-after, commands-first}

-- of two fronts of a list one begins the other
fronts : {A : Type 0} (n m : ℕ) (xs : List A) → IsPrefix (take n xs) (take m xs) ⊎ IsPrefix (take m xs) (take n xs)
fronts {A} n m xs = elim (cases_Bool (ltb n m)) [
  | inl less ↦ inl (shorter n m (below (ltb-true n m less)))
  | inr more ↦ inr (shorter m n (ltb-false n m more))
]
  where
    below : n < m → n ≤ m
    below less = omega arith

    shorter : (k l : ℕ) → k ≤ l → IsPrefix (take k xs) (take l xs)
    shorter k l within = (
      drop k (take l xs),
      sym (take-append-drop k (take l xs)) ∙ ap (λ (front : List A). front ++ drop k (take l xs)) (take-take k l xs within),
    )

-- the plan of so many frames and these decisions
abbrev plan_of : EncoderConfig → ℕ → List Decision → List Command
plan_of enc accepted decisions =
    plan (numbers_of enc) (interval_of enc.max_key_frame_interval) accepted (keys_of accepted decisions)

module _ {T O : Type 0} (enc : EncoderConfig) where
  plan-of_run : (calls : List (Call T O)) (t : Transcript T O) → AreTurns enc t.decisions calls t.turns →
      t.decisions ≡ (moment_after enc t.decisions calls t.turns).decisions →
      plan_at enc (moment_after enc t.decisions calls t.turns) ≡ plan_of enc (length (accepted_in calls t.turns)) t.decisions
  plan-of_run calls t are decided =
      ap₂ (plan_of enc) (history-after enc t.decisions calls t.turns are).history.sound.accepted (sym decided)

  pub same-schedule : (calls : List (Call T O)) (t : Transcript T O) (others : List (Call T O)) (other : Transcript T O) →
      AreTurns enc t.decisions calls t.turns → t.decisions ≡ (moment_after enc t.decisions calls t.turns).decisions →
      AreTurns enc other.decisions others other.turns → other.decisions ≡ (moment_after enc other.decisions others other.turns).decisions →
      IsSameInput calls t others other →
      IsPrefix (commands_of t.turns) (commands_of other.turns) ⊎ IsPrefix (commands_of other.turns) (commands_of t.turns)
  same-schedule calls t others other are decided are_other decided_other same =
      subst₂ (λ (a b : List Command). IsPrefix a b ⊎ IsPrefix b a)
      (sym (commands-first enc t.decisions calls t.turns are))
      (sym (commands-first enc other.decisions others other.turns are_other
      ∙ ap (take (moment_after enc other.decisions others other.turns).commands) same_plan))
      (fronts (moment_after enc t.decisions calls t.turns).commands (moment_after enc other.decisions others other.turns).commands
      (plan_at enc (moment_after enc t.decisions calls t.turns)))
    where
      same_plan : plan_at enc (moment_after enc other.decisions others other.turns) ≡ plan_at enc (moment_after enc t.decisions calls t.turns)
      same_plan =
          plan-of_run others other are_other decided_other
          ∙ ap₂ (plan_of enc) (ap (λ (l : List (Accepted T O)). length l) same.frames) same.decisions
          ∙ sym (plan-of_run calls t are decided)

  pub keeps-schedule : (calls : List (Call T O)) (t : Transcript T O) → AreTurns enc t.decisions calls t.turns →
      t.decisions ≡ (moment_after enc t.decisions calls t.turns).decisions → KeepsSchedule enc calls t
  keeps-schedule calls t are decided others other before after run same =
      same-schedule calls t others other are decided run.turns run.decided same
