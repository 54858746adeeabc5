use Rattle.std.proofs.Common.{arith}
use Rattle.pyramid.proofs.GopSteps.{groups-more, gop_built, appended}
use Rattle.pyramid.proofs.plans.push_gop.Goals as goal

pub loop-number-preserved : goal.loop-number-preserved
loop-number-preserved c =
    let grown = groups-more c.args.cfg.now c.args.start c.args.length c.loop-number.number in
    appended _ _ _ _ c.loop-number.commands.items _ c.in_ok-push_group.ensures c.loop-number.invariant grown

pub returns : goal.returns
returns c =
    gop_built c.args.cfg.now c.args.start c.args.length c.loop-number.number c.key_of.result c.args.commands.now.items c.push.new.self.items c.loop-number.commands.items c.key_of.ensures c.in_ok-push.ensures.items (omega (arith, c.group_count-number-end.ensures.value)) c.loop-number.invariant
