use Rattle.std.proofs.Common.{ap, ◌∙◌, is_some}
use Rattle.session_channels.proofs.LawsBegun.{new-second}
use Rattle.session_channels.proofs.LawsLent.{without-handed, without-taken}
use Rattle.session_channels.proofs.driving.drive.Goals.{in-Some-pass_out, in-None-pass_out}
use Rattle.session_channels.proofs.driving.drive.Goals as goal

pub returns-after-pass_out : goal.returns-after-pass_out
returns-after-pass_out g c =
    elim c.match-pass_out.branch [
      | in-Some-pass_out w ↦
          rw (c.in-Some.is, w.in-Some-pass_out.is, w.inner-is, w.frames-is, w.packets-is, w.pass_out-is, w.pass_in-is, w.result-is)
          w.run.ensures
      | in-None-pass_out w ↦
          rw (c.in-Some.is, w.in-None-pass_out.is, w.inner-is, w.frames-is, w.packets-is, w.pass_in-is, w.result-is)
          (without-handed _ c.args.inner.now w.run-in-None-pass_out.new.inner w.run-in-None-pass_out.result _ _ _ _ _ _ _ _ w.run-in-None-pass_out.ensures)
    ]

pub returns-in-Some-pass_out-2 : goal.returns-in-Some-pass_out-2
returns-in-Some-pass_out-2 g c =
    rw (c.in-None.is, c.in-Some-pass_out-2.is)
    (without-taken _ c.args.inner.now c.run-in-Some-pass_out-2.new.inner c.run-in-Some-pass_out-2.result _ _ _ _ _ _ _ _ _ _
    (new-second c.args.inner.now _ _ c.requires.fresh ∙ ap is_some c.in-None.is) c.run-in-Some-pass_out-2.ensures)

pub returns-in-None-pass_out-2 : goal.returns-in-None-pass_out-2
returns-in-None-pass_out-2 g c =
    rw (c.in-None.is, c.in-None-pass_out-2.is)
    (without-taken _ c.args.inner.now c.run-in-None-pass_out-2.new.inner c.run-in-None-pass_out-2.result _ _ _ _ _ _ _ _ _ _
    (new-second c.args.inner.now _ _ c.requires.fresh ∙ ap is_some c.in-None.is)
    (without-handed _ c.args.inner.now c.run-in-None-pass_out-2.new.inner c.run-in-None-pass_out-2.result _ _ _ _ _ _ _ _
    c.run-in-None-pass_out-2.ensures))
