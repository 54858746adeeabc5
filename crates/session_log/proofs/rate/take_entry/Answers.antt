use Rattle.std.proofs.Common.{rules, to_z, of_z, w64}
use Rattle.session_log.proofs.Logs.{measured_by}
use Rattle.session_log.proofs.rate.take_entry.Goals as goal

pub returns-clause-state : goal.returns-clause-state
returns-clause-state c = λ short.
    measured_by (to_z w64 (of_z w64 c.bits.result)) (to_z w64 (of_z w64 c.target.result)) c.bits.result c.target.result c.subtype.result
    c.is_showing.result c.args.entry.now c.args.state.now c.update_state.new.self c.update_state.ensures.state (search rules) (search rules)
    (c.bits.ensures short) c.target.ensures c.subtype.ensures c.is_showing.ensures
