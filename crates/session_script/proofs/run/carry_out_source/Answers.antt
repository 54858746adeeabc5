use Rattle.session_script.proofs.Answered.{kind_in, read_outcome}
use Rattle.session_script.proofs.run.carry_out_source.Goals as goal

pub returns-in-Ok-clause-cause : goal.returns-in-Ok-clause-cause
returns-in-Ok-clause-cause g c =
    read_outcome _ _ c.args.task c.in-Ok.bytes.items c.carry_out_bytes.result c.in-Ok.ensures.whole
    (rw c.deref.ensures.value at c.carry_out_bytes.ensures.outcome)

pub returns-in-Ok-clause-kind : goal.returns-in-Ok-clause-kind
returns-in-Ok-clause-kind g c =
    kind_in _ c.args.task _ c.carry_out_bytes.result (rw c.deref.ensures.value at c.carry_out_bytes.ensures.outcome)
