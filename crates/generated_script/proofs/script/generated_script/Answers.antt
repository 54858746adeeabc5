use Rattle.generated_script.specs.declared.script.TheConstants.{FRAMES, RECEIVES}
use Rattle.generated_script.proofs.Validity.{answer_gives_nothing, answer_valid}
use Rattle.generated_script.proofs.script.generated_script.Goals as goal

pub returns-clause-valid : goal.returns-clause-valid
returns-clause-valid c = answer_valid c.script_with.result FRAMES RECEIVES c.args.seed c.script_with.ensures

pub returns-clause-gives_nothing : goal.returns-clause-gives_nothing
returns-clause-gives_nothing c = answer_gives_nothing c.script_with.result FRAMES RECEIVES c.args.seed c.script_with.ensures
