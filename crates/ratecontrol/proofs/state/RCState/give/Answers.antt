use Rattle.ratecontrol.proofs.PassLaws.{given_is}
use Rattle.ratecontrol.proofs.state.RCState.give.Goals as goal

pub returns-clause-given : goal.returns-clause-given
returns-clause-given c = (
  given_is c.args.self.now c.take_bytes-answer.new.self c.set_up_by.new.self c.has_header-had.result c.new_header-header.result _ c.take_bytes-answer.ensures.given.0
      c.has_header-had.ensures c.new_header-header.ensures.value c.set_up_by.ensures,
  c.take_bytes-answer.ensures.given.1,
)
