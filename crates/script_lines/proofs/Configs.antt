-- The configuration of a script, by what its summary line is.
use Rattle.std.proofs.Common.{◌≡◌, ℕ, ◌↔◌, List, take, Option, Some, None, Result, Ok, Err, refl, sym, ap, ◌∙◌, subst}
use Rattle.pass_stats.specs.Summary.{Summary}
use Rattle.pass_stats.specs.declared.error.RateControlError.{RateControlError}
use Rattle.pass_stats.specs.declared.summary.RCSummary.{RCSummary}
use Rattle.av1_settings.specs.declared.config.Config.{Config}
use Rattle.av1_settings.specs.declared.rate_control.RateControlConfig.{RateControlConfig}
use Rattle.av1_settings.specs.Defaults.{default_rate_control, second_pass}
use Rattle.script_lines.specs.declared.script.Script.{Script}
use Rattle.script_lines.specs.Grammar.{IsConfig, IsRateControl, config_of}

-- an answer, and the configurations that it may be
abbrev pub IsOnly : Script → Result Config RateControlError → Type 0
IsOnly script answer = (config : Config) → (answer ≡ Ok config) ↔ IsConfig script config

-- the one rate control makes the one configuration
only : (script : Script) (rate : RateControlConfig) → IsRateControl script.summary rate →
    ((other : RateControlConfig) → IsRateControl script.summary other → other ≡ rate) → IsOnly script (Ok (config_of script rate))
only script rate holds one config = (
  λ e. (let same : config_of script rate ≡ config = cc in (rate, holds, sym same)),
  λ h. (let same : config ≡ config_of script rate = h.2 ∙ ap (config_of script) (one h.0 h.1) in ap Ok (sym same)),
)

pub only_plain : (script : Script) → script.summary ≡ None → IsOnly script (Ok (config_of script default_rate_control))
only_plain script none =
    only script default_rate_control
    (subst (λ (s : Option (List ℕ)). IsRateControl s default_rate_control) (sym none) refl)
    (λ other h. subst (λ (s : Option (List ℕ)). IsRateControl s other) none h)

module _ (script : Script) (bytes : List ℕ) (given : script.summary ≡ Some bytes) where
  second_of : (rate : RateControlConfig) → IsRateControl script.summary rate → IsRateControl (Some bytes) rate
  second_of rate h = subst (λ (s : Option (List ℕ)). IsRateControl s rate) given h

  pub only_second : (read : Result RCSummary RateControlError) (summary : RCSummary) → read ≡ Ok summary →
      ((s : RCSummary) → (read ≡ Ok s) ↔ Summary (take 68 bytes) s) → IsOnly script (Ok (config_of script (second_pass summary)))
  only_second read summary is accepted =
      only script (second_pass summary)
      (subst (λ (s : Option (List ℕ)). IsRateControl s (second_pass summary)) (sym given) (summary, (accepted summary).0 is, refl))
      (λ other h. (
      let second = second_of other h in
      let again : read ≡ Ok second.0 = (accepted second.0).1 second.1 in
      let same : second.0 ≡ summary = cc in
      second.2 ∙ ap second_pass same
      ))

  pub only_none : (read : Result RCSummary RateControlError) (error : RateControlError) → read ≡ Err error →
      ((s : RCSummary) → (read ≡ Ok s) ↔ Summary (take 68 bytes) s) → IsOnly script (Err error)
  only_none read error is accepted config = (
    λ e. cc,
    λ h. (
        let second = second_of h.0 h.1 in
        let again : read ≡ Ok second.0 = (accepted second.0).1 second.1 in
        absurd cc
        ),
  )
