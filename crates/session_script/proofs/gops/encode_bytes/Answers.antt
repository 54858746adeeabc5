use Rattle.std.proofs.Common.{ℕ, sym, subst}
use Rattle.std.specs.Prelude.{Result}
use Rattle.script_lines.specs.declared.script.Script.{Script}
use Rattle.session_script.specs.declared.words.Task.TheVariants.{Gops}
use Rattle.session_script.specs.Outcomes.{IsScriptOutcome}
use Rattle.session_script.proofs.gops.encode_bytes.Goals as goal

pub returns-in-Ok : goal.returns-in-Ok
returns-in-Ok g c =
    λ heard. subst (λ (script : Result Script ℕ). IsScriptOutcome heard (Gops c.args.workers) script c.encode_script.result) (sym c.in-Ok.ensures.script) (c.encode_script.ensures.outcome heard)
