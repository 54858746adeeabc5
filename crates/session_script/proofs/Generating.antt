-- What the script of a seed comes to.
use Rattle.std.proofs.Common.{◌≡◌, ℕ, List, [], Option, None, Some, is_some, Ok, inl, inr, IsTrue, true, false, refl, ap, subst, sym, ◌∙◌, option_map}
use Rattle.av1_settings.specs.Defaults.{default_rate_control}
use Rattle.av1_settings.specs.Invalid.{number_of}
use Rattle.av1_settings.specs.declared.invalid.InvalidConfig.{InvalidConfig}
use Rattle.av1_settings.specs.declared.rate_control.RateControlConfig.{RateControlConfig}
use Rattle.generated_script.specs.Generated.{generated, script_with}
use Rattle.generated_script.specs.declared.script.TheConstants.{FRAMES, RECEIVES}
use Rattle.script_lines.specs.declared.script.Script.{Script}
use Rattle.script_lines.specs.Grammar.{IsRateControl, summary_refusal}
use Rattle.session_core.specs.Told.{Heard}
use Rattle.session_script.specs.declared.outcome.Outcome.{Outcome}
use Rattle.session_script.specs.declared.outcome.Outcome.TheVariants.{BadLine, RefusedPassData, Refused, CoderFault, Done, OutOfMemory}
use Rattle.session_script.specs.declared.outcome.Account.TheVariants.{Turns, Summary, Passes}
use Rattle.session_script.specs.declared.words.Task.TheVariants.{Run}
use Rattle.session_script.specs.Carried.{CarriesOut, script_refusal}
use Rattle.session_script.specs.Outcomes.{IsScriptOutcome, IsSeedOutcome, summed_up}
use Rattle.session_script.proofs.JobFaults.{some_faults}

made_summary : (frames receives seed : ℕ) → (script_with frames receives seed).summary ≡ None
unfolding script_with
made_summary frames receives seed = refl

made_faults : (frames receives seed : ℕ) → (script_with frames receives seed).faults ≡ []
unfolding script_with
made_faults frames receives seed = refl

no_why : (summary : Option (List ℕ)) (script : Script) → script.summary ≡ summary → summary ≡ None → IsTrue (is_some (summary_refusal script)) → ⊥
no_why None script is none some = let never : false ≡ true = rw is at some in cc
no_why (Some bytes) script is none some = cc

no_refusal : (script : Script) (summary : Option (List ℕ)) (rate_control : RateControlConfig) (number : ℕ) → summary ≡ None →
    script_refusal script default_rate_control ≡ None → IsRateControl summary rate_control →
    option_map number_of (script_refusal script rate_control) ≡ Some number → ⊥
no_refusal script (Some bytes) rate_control number none valid is some = cc
no_refusal script None rate_control number none valid is some =
    let refusal : Option InvalidConfig = script_refusal script default_rate_control in
    let plain : option_map number_of refusal ≡ Some number = subst (λ (rate_control : RateControlConfig). option_map number_of (script_refusal script rate_control) ≡ Some number) is some in
    let never : None ≡ Some number = sym (ap (λ (refusal : Option InvalidConfig). option_map number_of refusal) valid) ∙ plain in
    cc

module _ (heard : Heard ℕ) (script : Script) (seed : ℕ) (is : script ≡ generated seed)
    (valid : script_refusal script default_rate_control ≡ None) where
  no_summary : script.summary ≡ None
  no_summary = ap (λ (script : Script). script.summary) is ∙ made_summary FRAMES RECEIVES seed

  no_faults : script.faults ≡ []
  no_faults = ap (λ (script : Script). script.faults) is ∙ made_faults FRAMES RECEIVES seed

  pub seed_outcome : (outcome : Outcome) → IsScriptOutcome heard Run (Ok script) outcome → IsSeedOutcome heard seed (summed_up outcome)
  seed_outcome (Done (Turns transcript options)) h = subst (λ (script : Script). CarriesOut heard script transcript) is h.0
  seed_outcome (Done (Summary transcript)) h = absurd h
  seed_outcome (Done (Passes transcript options)) h = absurd h
  seed_outcome OutOfMemory h = tt
  seed_outcome (BadLine line) h = cc
  seed_outcome (RefusedPassData number) (inl h) = no_why script.summary script refl no_summary h.1
  seed_outcome (RefusedPassData number) (inr h) = absurd h
  seed_outcome (Refused number) h = no_refusal script script.summary h.0 number no_summary valid h.1 h.2
  seed_outcome (CoderFault command) h = some_faults script.faults _ h.fails.stopped.reached no_faults
  seed_outcome outcome h = h
