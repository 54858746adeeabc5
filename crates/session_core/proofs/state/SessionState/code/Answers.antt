use Rattle.std.proofs.Common.{rules, ◌≡◌, ◌∷◌, [], ◌-◌, ◌<◌, ◌≤◌, Some, length, refl, sym, subst, to_z, of_z, w64, arith}
use Rattle.pyramid.specs.declared.command.Command.{Command}
use Rattle.session_log.specs.Keeps.{HasSize, IsSized}
use Rattle.session_log.specs.declared.entry.LogEntry.{LogEntry}
use Rattle.session_core.specs.declared.coder.CodeJob.{CodeJob}
use Rattle.session_core.specs.declared.coded.Coded.{Coded}
use Rattle.session_core.specs.States.{moment_of}
use Rattle.session_core.specs.Taken.{handed_at}
use Rattle.session_core.specs.Told.{gave_code, handed_code}
use Rattle.session_core.proofs.StateLemmas.{ahead-of, hands-job, told-of}
use Rattle.session_core.proofs.state.SessionState.code.Given as given
use Rattle.session_core.proofs.state.SessionState.code.Goals as goal

abbrev job : (g : given.Over) (c : goal.After-drop-job-in-Ok g) → CodeJob g.row.T.Denot
job g c = record {
  command = c.args.command.now;
  trial = c.args.trial;
  quant = c.select-quant.result;
  picture = c.in_ok-try_clone-in-Code.field-0;
  t35 = c.in_ok-try_clone-in-Code-2.field-0;
}

abbrev coded : (g : given.Over) (c : goal.After-drop-job-in-Ok g) → Coded g.row.T.Denot
coded g c = record {
  entry = record {
    command = c.args.command.now;
    trial = c.args.trial;
    bytes = c.in-Ok.coded.bytes;
    quant = Some c.select-quant.result;
    mean_scale = to_z w64 (of_z w64 c.args.mean_scale);
  };
  rec = c.in-Ok.coded.rec;
  stats = c.in-Ok.coded.stats;
}

handed : (g : given.Over) (c : goal.After-drop-job-in-Ok g) → handed_at (moment_of c.args.self.now) (coded g c).entry ≡ handed_code (job g c) ∷ []
handed g c =
    let self = c.args.self.now in
    let can = rw c.in-Code.is at c.requires.next in
    let within : c.in-Code.frame - self.packets < length self.waiting.items = omega (arith, can.0, can.1, c.requires.waits) in
    hands-job self (job g c) (coded g c).entry c.index-waiting.result.now c.in-Code.frame c.in-Code.kind c.in-Code.refs c.in-Code.refresh c.in-Code.shown
    c.in-Code.is refl refl refl can.0 within c.index-waiting.ensures (search rules) (search rules)

sized : (g : given.Over) (c : goal.After-drop-job-in-Ok g) → IsSized (coded g c).entry
sized g c =
    let entry : LogEntry = (coded g c).entry in
    let some : 1 ≤ length c.in-Ok.coded.bytes = c.in-Ok.ensures.some_bytes in
    subst (λ (command : Command). HasSize command entry) (sym c.in-Code.is) (some, c.in-Ok.ensures.few_bytes)

pub returns-in-Ok-clause-coded : goal.returns-in-Ok-clause-coded
returns-in-Ok-clause-coded g c = record {
  calls = told-of (moment_of c.args.self.now) (coded g c) _ _ (handed_code (job g c)) (gave_code c.in-Ok.coded) (handed g c) refl c.in-Ok.ensures.calls;
  ahead = ahead-of (moment_of c.args.self.now) (coded g c) (g.C.FrameCoder.told c.args.coder.now) (handed_code (job g c)) (gave_code c.in-Ok.coded) (handed g c) refl c.in-Ok.ensures.ahead;
  counted = c.in-Ok.ensures.counted;
  sized = sized g c;
}
