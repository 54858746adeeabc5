use Rattle.std.proofs.Common.{◌≡◌, inl, inr, None, Some, Err, map, option_map, refl, sym, ap, subst₂, ◌∙◌}
use Rattle.std.specs.List.{flat_map}
use Rattle.av1_settings.specs.declared.config.Config.{Config}
use Rattle.av1_settings.specs.declared.level.LevelTables.{LevelTables}
use Rattle.av1_settings.specs.Invalid.{number_of}
use Rattle.script_lines.specs.Grammar.{IsConfig, config_of, summary_refusal}
use Rattle.scripted.specs.NoLevels.{no_levels}
use Rattle.session_core.specs.declared.session.SessionError.TheVariants.{CoderFault, PassData}
use Rattle.session_core.specs.PassSessions.{passes_refusal}
use Rattle.session_script.specs.Calls.{asked_for_passes, asked_in_passes}
use Rattle.session_script.specs.Passes.{asking}
use Rattle.session_script.proofs.CarryingPasses.{carried_in, carry_out, changed, changed_of, refusal_in, refuse, refused_in, stop_at, stopped_in}
use Rattle.session_script.proofs.ScriptConfigs.{some_cause}
use Rattle.session_script.proofs.run.carry_out_passes.Goals as goal

pub returns-in_default : goal.returns-in_default
returns-in_default c = record {
  outcome = inl (
    refl,
    some_cause c.config.result (summary_refusal c.args.script.now) c.in_default.field-0 c.in_default.is c.config.ensures.refused c.config.ensures.never_version,
  );
}

pub returns-in-Err : goal.returns-in-Err
returns-in-Err c =
    let script = c.args.script.now in
    let emits = c.args.emits in
    let given = c.in-Ok.config in
    let made : IsConfig script given = (c.config.ensures.accepted given).0 c.in-Ok.is in
    let config : Config = changed emits given in
    let same : config ≡ config_of script (asking emits made.0) = changed_of emits script given made in
    let first : passes_refusal 8 c.no_levels-levels.result config ≡ Some c.in-Err.refusal = sym (rw c.in-Err.is at c.check_passes.ensures.first) in
    let Refuses : LevelTables → Config → Type 0 = λ levels config. passes_refusal 8 levels config ≡ Some c.in-Err.refusal in
    let refused : passes_refusal 8 no_levels (config_of script (asking emits made.0)) ≡ Some c.in-Err.refusal = subst₂ Refuses c.no_levels-levels.ensures same first in
    record { outcome = (made.0, made.1, ap (option_map number_of) (refusal_in emits script made.0 ∙ refused) ∙ ap Some (sym c.number.ensures)) }

pub returns-in-Ok-run_pass_session : goal.returns-in-Ok-run_pass_session
returns-in-Ok-run_pass_session c =
    let script = c.args.script.now in
    let emits = c.args.emits in
    let given = c.in-Ok.config in
    let made : IsConfig script given = (c.config.ensures.accepted given).0 c.in-Ok.is in
    let config : Config = changed emits given in
    let same : config ≡ config_of script (asking emits made.0) = changed_of emits script given made in
    let none : passes_refusal 8 c.no_levels-levels.result config ≡ None = sym (rw c.in_default-check_passes.is at c.check_passes.ensures.first) in
    let calls = c.in-Ok-pass_calls.calls.items in
    let asked : map asked_in_passes calls ≡ flat_map (asked_for_passes emits config.enc) script.calls = rw c.as_slice.ensures at c.in-Ok-pass_calls.ensures in
    let carried = carry_out emits script made.0 config c.no_levels-levels.result c.scripted_tables-tables.result calls _ _ made.1 same none c.no_levels-levels.ensures c.scripted_tables-tables.ensures asked c.in-Ok-begin.ensures c.in-Ok-run_pass_session.transcript c.in-Ok-run_pass_session.ensures.session in
    record { outcome = carried_in _ emits c.in-Ok-run_pass_session.transcript c.report_options.result script carried c.report_options.ensures }

pub returns-in-Err-CoderFault : goal.returns-in-Err-CoderFault
returns-in-Err-CoderFault c =
    let script = c.args.script.now in
    let emits = c.args.emits in
    let given = c.in-Ok.config in
    let made : IsConfig script given = (c.config.ensures.accepted given).0 c.in-Ok.is in
    let config : Config = changed emits given in
    let same : config ≡ config_of script (asking emits made.0) = changed_of emits script given made in
    let none : passes_refusal 8 c.no_levels-levels.result config ≡ None = sym (rw c.in_default-check_passes.is at c.check_passes.ensures.first) in
    let calls = c.in-Ok-pass_calls.calls.items in
    let asked : map asked_in_passes calls ≡ flat_map (asked_for_passes emits config.enc) script.calls = rw c.as_slice.ensures at c.in-Ok-pass_calls.ensures in
    let command = c.in-Err-CoderFault.command in
    let is : c.run_pass_session.result ≡ Err (CoderFault command) = c.in-Err-CoderFault.is ∙ ap Err c.in-Err-CoderFault.field-0-is in
    let stopped = stop_at emits script made.0 config c.no_levels-levels.result c.scripted_tables-tables.result calls _ _ made.1 same none c.no_levels-levels.ensures c.scripted_tables-tables.ensures asked c.in-Ok-begin.ensures command (c.run_pass_session.ensures.fault command is) in
    record { outcome = stopped_in _ emits command script stopped }

pub returns-in-Err-PassData : goal.returns-in-Err-PassData
returns-in-Err-PassData c =
    let script = c.args.script.now in
    let emits = c.args.emits in
    let given = c.in-Ok.config in
    let made : IsConfig script given = (c.config.ensures.accepted given).0 c.in-Ok.is in
    let config : Config = changed emits given in
    let same : config ≡ config_of script (asking emits made.0) = changed_of emits script given made in
    let none : passes_refusal 8 c.no_levels-levels.result config ≡ None = sym (rw c.in_default-check_passes.is at c.check_passes.ensures.first) in
    let calls = c.in-Ok-pass_calls.calls.items in
    let asked : map asked_in_passes calls ≡ flat_map (asked_for_passes emits config.enc) script.calls = rw c.as_slice.ensures at c.in-Ok-pass_calls.ensures in
    let refusal = c.in-Err-PassData.refusal in
    let is : c.run_pass_session.result ≡ Err (PassData refusal) = c.in-Err-PassData.is ∙ ap Err c.in-Err-PassData.field-0-is in
    let number = c.number-in-Err-PassData.result in
    let refused = refuse emits script made.0 config c.no_levels-levels.result c.scripted_tables-tables.result calls _ _ made.1 same none c.no_levels-levels.ensures c.scripted_tables-tables.ensures asked c.in-Ok-begin.ensures refusal number (c.run_pass_session.ensures.message refusal is) c.number-in-Err-PassData.ensures in
    record { outcome = inr (refused_in _ emits number script refused) }
