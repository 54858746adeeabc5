use Rattle.std.proofs.Common.{List, ◌-◌, ◌<◌, length, ap, arith}
use Rattle.session_core.specs.Moments.{Moment, Waiting}
use Rattle.session_core.specs.States.{moment_of}
use Rattle.session_core.proofs.StateLemmas.{noted-code}
use Rattle.session_core.proofs.state.SessionState.note_coding.Goals as goal

pub returns-in-Code-clause-after : goal.returns-in-Code-clause-after
returns-in-Code-clause-after g c =
    let self = c.args.self.now in
    let can = rw c.in-Code.is at c.requires.next in
    let within : c.in-Code.frame - self.packets < length self.waiting.items = omega (arith, can.0, can.1) in
    let with_waiting : List (Waiting g.row.T.Denot g.row.O.Denot) → Moment g.row.T.Denot g.row.O.Denot =
    λ waiting. record (moment_of self) { waiting = waiting } in
    ap with_waiting (noted-code self.waiting.items self.packets c.index_mut.result.now c.coding_of.result c.args.entry.now
    c.in-Code.frame c.in-Code.kind c.in-Code.refs c.in-Code.refresh c.in-Code.shown c.in-Code.is c.coding_of.ensures can.0 within c.index_mut.ensures.value)
