use Rattle.std.proofs.Common.{◌≡◌, None, Some, inl, option_map, refl, sym, ap, subst₂, ◌∙◌}
use Rattle.av1_settings.specs.declared.config.Config.{Config}
use Rattle.av1_settings.specs.declared.level.LevelTables.{LevelTables}
use Rattle.av1_settings.specs.Checks.{session_refusal}
use Rattle.av1_settings.specs.Invalid.{number_of}
use Rattle.script_lines.specs.Grammar.{IsConfig, config_of, summary_refusal}
use Rattle.scripted.specs.NoLevels.{no_levels}
use Rattle.session_script.proofs.ScriptConfigs.{some_cause}
use Rattle.session_script.proofs.gops.encode_script.Goals as goal

pub returns-in_default : goal.returns-in_default
returns-in_default g c = record {
  outcome = λ heard. inl (
    refl,
    some_cause c.config.result (summary_refusal c.args.script.now) c.in_default.field-0 c.in_default.is c.config.ensures.refused c.config.ensures.never_version,
  );
}

pub returns-in-Err : goal.returns-in-Err
returns-in-Err g c =
    let script = c.args.script.now in
    let config = c.in-Ok.config in
    let made : IsConfig script config = (c.config.ensures.accepted config).0 c.in-Ok.is in
    let first : session_refusal 8 c.no_levels-levels.result config ≡ Some c.in-Err.refusal = sym (rw c.in-Err.is at c.validate_for_session.ensures.first) in
    let Refuses : LevelTables → Config → Type 0 = λ levels config. session_refusal 8 levels config ≡ Some c.in-Err.refusal in
    let refused : session_refusal 8 no_levels (config_of script made.0) ≡ Some c.in-Err.refusal = subst₂ Refuses c.no_levels-levels.ensures made.2 first in
    record { outcome = λ heard. (made.0, made.1, ap (option_map number_of) refused ∙ ap Some (sym c.number.ensures)) }

pub encode_frames-requires-clause-made : goal.encode_frames-requires-clause-made
encode_frames-requires-clause-made g c κs within = (c.config.ensures.accepted c.in-Ok.config).0 c.in-Ok.is

pub encode_frames-requires-clause-valid : goal.encode_frames-requires-clause-valid
encode_frames-requires-clause-valid g c κs within = sym (rw c.in_default-validate_for_session.is at c.validate_for_session.ensures.first)

pub encode_frames-requires-clause-one_pass : goal.encode_frames-requires-clause-one_pass
encode_frames-requires-clause-one_pass g c κs within = rw c.in_default-validate_for_session.is at c.validate_for_session.ensures.one_pass
