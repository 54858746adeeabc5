use Rattle.std.proofs.Common.{◌≡◌, Some, Ok, Err, sym, ap, subst, ◌∙◌}
use Rattle.pass_stats.specs.Summary.{first_met}
use Rattle.pass_stats.specs.declared.error.RateControlError.TheVariants.{CorruptedSummary}
use Rattle.av1_settings.specs.declared.config.Config.{Config}
use Rattle.av1_settings.specs.Defaults.{second_pass}
use Rattle.script_lines.specs.Grammar.{config_of}
use Rattle.script_lines.proofs.Configs.{IsOnly, only_none, only_second}
use Rattle.script_lines.proofs.script.Script.config.Goals as goal

pub returns-in-Ok-clause-accepted : goal.returns-in-Ok-clause-accepted
returns-in-Ok-clause-accepted c =
    let script = c.args.self.now in
    let bytes = c.as_slice.result.now in
    let summary = c.in-Ok.summary in
    let given : script.summary ≡ Some bytes = c.in-Some.is ∙ ap Some (sym c.as_slice.ensures) in
    let made : c.with_rate_control.result ≡ config_of script (second_pass summary) =
    rw (c.with_rate_control.ensures, c.with_encoder_config-config.ensures, c.new.ensures, c.encoder.ensures, c.with_summary-rate_control.ensures, c.new-in-Ok.ensures) in
    subst (λ (config : Config). IsOnly script (Ok config)) (sym made)
    (only_second script bytes given c.parse_summary.result summary c.in-Ok.is c.parse_summary.ensures.accepted)

pub returns-in-Ok-clause-refused : goal.returns-in-Ok-clause-refused
returns-in-Ok-clause-refused c why =
    let bytes = c.as_slice.result.now in
    let given : c.args.self.now.summary ≡ Some bytes = c.in-Some.is ∙ ap Some (sym c.as_slice.ensures) in (
      λ e. cc,
      λ e. (
          let met : first_met bytes ≡ Some why = rw given at e in
          let refused : c.parse_summary.result ≡ Err (CorruptedSummary why) = (c.parse_summary.ensures.refused why).1 met in
          cc
          ),
    )

pub returns-in-Err-clause-accepted : goal.returns-in-Err-clause-accepted
returns-in-Err-clause-accepted c =
    let given : c.args.self.now.summary ≡ Some c.as_slice.result.now = c.in-Some.is ∙ ap Some (sym c.as_slice.ensures) in
    only_none c.args.self.now c.as_slice.result.now given c.parse_summary.result c.in-Err.error c.in-Err.is c.parse_summary.ensures.accepted

pub returns-in-Err-clause-refused : goal.returns-in-Err-clause-refused
returns-in-Err-clause-refused c why =
    let bytes = c.as_slice.result.now in
    let given : c.args.self.now.summary ≡ Some bytes = c.in-Some.is ∙ ap Some (sym c.as_slice.ensures) in (
      λ e. (
          let read : c.parse_summary.result ≡ Err (CorruptedSummary why) = cc in
          rw given ((c.parse_summary.ensures.refused why).0 read)
          ),
      λ e. (
          let met : first_met bytes ≡ Some why = rw given at e in
          let read : c.parse_summary.result ≡ Err (CorruptedSummary why) = (c.parse_summary.ensures.refused why).1 met in
          cc
          ),
    )
