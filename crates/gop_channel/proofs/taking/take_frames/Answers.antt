use Rattle.std.proofs.Common.{◌≡◌, List, None, length, subst, arith}
use Rattle.av1_frame.specs.declared.frame.Frame.{Frame}
use Rattle.gop_channel.specs.Messages.{TakesAll}
use Rattle.gop_channel.specs.Taking.{Took}
use Rattle.gop_channel.proofs.Accepting.{few-enough, none-said, on-err, one-longer, pictures-push, said-of, took-more, took-refused}
use Rattle.gop_channel.proofs.taking.take_frames.Goals as goal

pub returns-in-Some-clause-took : goal.returns-in-Some-clause-took
returns-in-Some-clause-took g c =
    let many : c.len.result ≡ length c.loop.frames.items = omega (arith, c.len.ensures, c.loop.frames.ok.0) in
    took-refused g.F.Take.contents g.F.Take.queue c.args.enc.now c.args.queue.now c.loop.queue c.take.new.self _ c.loop.invariant.0
    (c.in-Ok.frame, c.in-Ok.field-0-1) (record { taken = c.in-Ok.ensures.taken; turn = c.take.ensures.turn }) c.in-Some.status
    (said-of c.args.enc.now c.loop.frames.items c.len.result c.in-Ok.frame.value c.deref.result.now c.refusal.result _
    c.refusal.ensures many c.deref.ensures c.in-Some.is)

pub returns-in_err-push-clause-lacked : goal.returns-in_err-push-clause-lacked
returns-in_err-push-clause-lacked g c =
    let many : c.len.result ≡ length c.loop.frames.items = omega (arith, c.len.ensures, c.loop.frames.ok.0) in
    on-err _ c.from_residual.result (
      _,
      took-more g.F.Take.contents g.F.Take.queue c.args.enc.now c.args.queue.now c.loop.queue c.take.new.self _ c.loop.invariant.0
          (c.in-Ok.frame, c.in-Ok.field-0-1) (record { taken = c.in-Ok.ensures.taken; turn = c.take.ensures.turn })
          (said-of c.args.enc.now c.loop.frames.items c.len.result c.in-Ok.frame.value c.deref.result.now c.refusal.result None
          c.refusal.ensures many c.deref.ensures (none-said c.refusal.result c.in_default-refusal.not-Some)),
    )

pub loop-preserved : goal.loop-preserved
loop-preserved g c =
    let many : c.len.result ≡ length c.loop.frames.items = omega (arith, c.len.ensures, c.loop.frames.ok.0) in
    let more = took-more g.F.Take.contents g.F.Take.queue c.args.enc.now c.args.queue.now c.loop.queue c.take.new.self _ c.loop.invariant.0
    (c.in-Ok.frame, c.in-Ok.field-0-1) (record { taken = c.in-Ok.ensures.taken; turn = c.take.ensures.turn })
    (said-of c.args.enc.now c.loop.frames.items c.len.result c.in-Ok.frame.value c.deref.result.now c.refusal.result None
    c.refusal.ensures many c.deref.ensures (none-said c.refusal.result c.in_default-refusal.not-Some)) in (
      subst (λ (l : List (Frame g.row.T.Denot)). Took c.args.enc.now (TakesAll g.F.Take.contents g.F.Take.queue c.args.queue.now c.take.new.self) l None)
          (pictures-push c.loop.frames.items c.push.new.self.items c.in-Ok.frame c.in_ok-push.ensures.items) more,
      one-longer c.loop.frames.items c.push.new.self.items c.in-Ok.frame c.loop.counter c.in_ok-push.ensures.items c.loop.invariant.1,
    )

pub unreachable-requires : goal.unreachable-requires
unreachable-requires g c =
    let most = few-enough c.args.enc.now c.loop.frames.items c.loop.invariant.0.are_accepted in omega (arith, most)
