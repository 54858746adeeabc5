use Rattle.pass_data.proofs.JoinedLaws.{run_has_read, packets_determined}
use Rattle.pass_data.proofs.laws.accepted_metrics_are_those_of_the_joined_bytes.Goals as goal

pub returns-clause-read : goal.returns-clause-read
returns-clause-read c = λ events g reads all. run_has_read events g reads all

pub returns-clause-determined : goal.returns-clause-determined
returns-clause-determined c = λ bytes ms ns rest end p q. packets_determined bytes ms ns rest end p q
