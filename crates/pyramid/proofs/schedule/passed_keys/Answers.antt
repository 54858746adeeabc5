use Rattle.std.proofs.Common.{arith}
use Rattle.pyramid.proofs.KeptKeys.{passed-within, passed-step, passed-stop}
use Rattle.pyramid.proofs.schedule.passed_keys.Goals as goal

pub returns-then-index-start : goal.returns-then-index-start
returns-then-index-start c = passed-stop c.args.start c.args.keys.now.items c.loop-i.i c.index.result.now c.loop-i.invariant (omega (arith, c.if-index-start.true, c.index.ensures))

pub loop-i-preserved : goal.loop-i-preserved
loop-i-preserved c = passed-step c.args.start c.args.keys.now.items c.loop-i.i c.index.result.now c.loop-i.invariant (omega (arith, c.loop-i-test.true, c.len-i-end.ensures)) (omega (arith, c.if-index-start.false, c.index.ensures))

pub returns : goal.returns
returns c = omega (arith, c.loop-i.invariant, c.loop-i-test.false, c.len.ensures, c.len-i-end.ensures, passed-within c.args.start c.args.keys.now.items)
