use Rattle.std.proofs.Common.{ℤ, subst}
use Rattle.session_channels.specs.Wells.{IsWell}
use Rattle.session_channels.proofs.Parts.{count-kept, sending-next, sending-none, sending-stops, sending-stops-coding}
use Rattle.session_channels.proofs.driving.send_frames.Goals as goal

pub loop-message-init : goal.loop-message-init
loop-message-init g c =
    sending-none g.F.Take.contents g.F.Take.queue g.P.Put.contents g.P.Put.queue g.I.Take.contents g.I.Take.queue g.U.Put.contents g.U.Put.queue
    _ _ _ _ _ _ c.args.inner.now _ c.requires.well c.requires.paid c.requires.unflushed c.requires.packets_unlimited c.requires.data_unlimited

pub returns-in-Err-code_known-clause-drove : goal.returns-in-Err-code_known-clause-drove
returns-in-Err-code_known-clause-drove g c =
    sending-stops-coding g.F.Take.contents g.F.Take.queue g.P.Put.contents g.P.Put.queue g.I.Take.contents g.I.Take.queue g.U.Put.contents g.U.Put.queue
    _ _ c.in-Ok.message _ _ _ _ _ _ _ _ _ _ _ _ _ _ _ _ _ c.loop-message.invariant c.in-Ok.ensures.taken c.in-Ok.ensures.turn
    c.in-Err-code_known.ensures.drove

pub loop-message-preserved : goal.loop-message-preserved
loop-message-preserved g c =
    rw (count-kept c.args.handing c.in-Ok-code_known.coded c.code_known.new.inner c.in-Ok-code_known.ensures.well)
    (sending-next g.F.Take.contents g.F.Take.queue g.P.Put.contents g.P.Put.queue g.I.Take.contents g.I.Take.queue g.U.Put.contents g.U.Put.queue
    _ _ c.in-Ok.message _ _ _ _ _ _ _ _ _ _ _ _ _ _ c.code_known.new.inner _ _ c.in-Ok-code_known.coded c.loop-message.invariant
    c.in-Ok.ensures.taken c.in-Ok.ensures.turn c.in-Ok-code_known.ensures.drove c.in-Ok-code_known.ensures.same c.in-Ok-send.ensures.drove
    (subst (λ (count : ℤ). IsWell c.args.handing count c.send.new.inner)
    (count-kept c.args.handing c.in-Ok-code_known.coded c.code_known.new.inner c.in-Ok-code_known.ensures.well) c.in-Ok-send.ensures.well)
    c.in-Ok-send.ensures.paid c.in-Ok-send.ensures.flushed)

pub returns-in-Err-send-clause-drove : goal.returns-in-Err-send-clause-drove
returns-in-Err-send-clause-drove g c =
    sending-stops g.F.Take.contents g.F.Take.queue g.P.Put.contents g.P.Put.queue g.I.Take.contents g.I.Take.queue g.U.Put.contents g.U.Put.queue
    _ _ c.in-Ok.message _ _ _ _ _ _ _ _ _ _ _ _ _ _ c.code_known.new.inner _ _ _ c.loop-message.invariant
    c.in-Ok.ensures.taken c.in-Ok.ensures.turn c.in-Ok-code_known.ensures.drove c.in-Err-send.ensures.drove
