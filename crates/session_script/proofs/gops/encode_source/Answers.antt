use Rattle.session_script.specs.declared.words.Task.TheVariants.{Gops}
use Rattle.session_script.proofs.Answered.{kind_in, read_outcome}
use Rattle.session_script.proofs.JobAnswers.{nobody}
use Rattle.session_script.proofs.gops.encode_source.Goals as goal

pub returns-in-Ok-clause-cause : goal.returns-in-Ok-clause-cause
returns-in-Ok-clause-cause g c =
    λ heard. read_outcome _ heard (Gops c.args.workers) c.in-Ok.bytes.items c.encode_bytes.result c.in-Ok.ensures.whole
    (rw c.deref.ensures.value at (c.encode_bytes.ensures heard))

pub returns-in-Ok-clause-kind : goal.returns-in-Ok-clause-kind
returns-in-Ok-clause-kind g c = kind_in nobody (Gops c.args.workers) _ c.encode_bytes.result (c.encode_bytes.ensures nobody)
