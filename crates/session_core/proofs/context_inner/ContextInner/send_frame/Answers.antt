use Rattle.session_core.specs.Contexts.{GivesDone}
use Rattle.session_core.proofs.Calling.{call-gives, send-of}
use Rattle.session_core.proofs.context_inner.ContextInner.send_frame.Goals as goal

pub returns : goal.returns
returns g c = record {
  call = send-of _ c.args.params c.sending.result c.args.self.now c.call.new.self _ _ c.done.result c.sending.ensures
      (call-gives GivesDone c.sending.result c.args.self.now c.call.new.self _ _ c.call.result c.done.result c.done.ensures.reply c.done.ensures.err c.call.ensures.call);
}
