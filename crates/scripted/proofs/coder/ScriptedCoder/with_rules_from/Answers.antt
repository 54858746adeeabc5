use Rattle.scripted.proofs.Countdown.{first-told}
use Rattle.scripted.proofs.coder.ScriptedCoder.with_rules_from.Goals as goal

pub returns : goal.returns
returns c = first-told _ _ _ _ _ _ c.new.ensures c.in_ok-from_slice.ensures c.first_fault.ensures
