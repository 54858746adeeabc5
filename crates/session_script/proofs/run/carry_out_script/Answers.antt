use Rattle.std.proofs.Common.{◌≡◌, false, None, Some, Err, map, inl, option_map, refl, sym, ap, subst₂, ◌∙◌}
use Rattle.av1_settings.specs.declared.config.Config.{Config}
use Rattle.av1_settings.specs.declared.level.LevelTables.{LevelTables}
use Rattle.av1_settings.specs.Checks.{asks_passes, session_refusal}
use Rattle.av1_settings.specs.Invalid.{number_of}
use Rattle.script_lines.specs.Grammar.{IsConfig, config_of, summary_refusal}
use Rattle.scripted.specs.NoLevels.{no_levels}
use Rattle.session_core.specs.declared.session.SessionError.TheVariants.{CoderFault}
use Rattle.session_script.specs.Calls.{asked_by, asked_for}
use Rattle.session_script.proofs.Carrying.{carries, stops}
use Rattle.session_script.proofs.ScriptConfigs.{some_cause}
use Rattle.session_script.proofs.run.carry_out_script.Goals as goal

pub returns-in_default : goal.returns-in_default
returns-in_default c = record {
  outcome = inl (
    refl,
    some_cause c.config.result (summary_refusal c.args.script.now) c.in_default.field-0 c.in_default.is c.config.ensures.refused c.config.ensures.never_version,
  );
}

pub returns-in-Err : goal.returns-in-Err
returns-in-Err c =
    let script = c.args.script.now in
    let config = c.in-Ok.config in
    let made : IsConfig script config = (c.config.ensures.accepted config).0 c.in-Ok.is in
    let first : session_refusal 8 c.no_levels-levels.result config ≡ Some c.in-Err.refusal = sym (rw c.in-Err.is at c.validate_for_session.ensures.first) in
    let Refuses : LevelTables → Config → Type 0 = λ levels config. session_refusal 8 levels config ≡ Some c.in-Err.refusal in
    let refused : session_refusal 8 no_levels (config_of script made.0) ≡ Some c.in-Err.refusal = subst₂ Refuses c.no_levels-levels.ensures made.2 first in
    record { outcome = (made.0, made.1, ap (option_map number_of) refused ∙ ap Some (sym c.number.ensures)) }

pub returns-in-Ok-run_session : goal.returns-in-Ok-run_session
returns-in-Ok-run_session c =
    let script = c.args.script.now in
    let config = c.in-Ok.config in
    let made : IsConfig script config = (c.config.ensures.accepted config).0 c.in-Ok.is in
    let none : session_refusal 8 c.no_levels-levels.result config ≡ None = sym (rw c.in_default-validate_for_session.is at c.validate_for_session.ensures.first) in
    let single : asks_passes config ≡ false = rw c.in_default-validate_for_session.is at c.validate_for_session.ensures.one_pass in
    let calls = c.in-Ok-session_calls.calls.items in
    let asked : map asked_by calls ≡ map (asked_for config.enc) script.calls = rw c.as_slice.ensures at c.in-Ok-session_calls.ensures in
    let carried = carries script config c.no_levels-levels.result c.scripted_tables-tables.result calls _ _ made none c.no_levels-levels.ensures c.scripted_tables-tables.ensures single asked c.in-Ok-begin.ensures c.in-Ok-run_session.transcript c.in-Ok-run_session.ensures.session in
    record { outcome = (carried, c.report_options.ensures) }

pub returns-in-Err-CoderFault : goal.returns-in-Err-CoderFault
returns-in-Err-CoderFault c =
    let script = c.args.script.now in
    let config = c.in-Ok.config in
    let made : IsConfig script config = (c.config.ensures.accepted config).0 c.in-Ok.is in
    let none : session_refusal 8 c.no_levels-levels.result config ≡ None = sym (rw c.in_default-validate_for_session.is at c.validate_for_session.ensures.first) in
    let single : asks_passes config ≡ false = rw c.in_default-validate_for_session.is at c.validate_for_session.ensures.one_pass in
    let calls = c.in-Ok-session_calls.calls.items in
    let asked : map asked_by calls ≡ map (asked_for config.enc) script.calls = rw c.as_slice.ensures at c.in-Ok-session_calls.ensures in
    let command = c.in-Err-CoderFault.command in
    let is : c.run_session.result ≡ Err (CoderFault command) = c.in-Err-CoderFault.is ∙ ap Err c.in-Err-CoderFault.field-0-is in
    record { outcome = stops script config c.no_levels-levels.result c.scripted_tables-tables.result calls _ _ made none c.no_levels-levels.ensures c.scripted_tables-tables.ensures single asked c.in-Ok-begin.ensures command (c.run_session.ensures.fault command is) }
