use Rattle.std.proofs.Common.{◌≡◌, ◌<◌, List, Some, length, Global, ap, ◌∙◌, subst, arith}
use Rattle.std.specs.List.{slice_get}
use Rattle.std.specs.declared.sync.Arc.{Arc}
use Rattle.av1_frame.specs.declared.frame.Frame.{Frame}
use Rattle.gop_board.proofs.Splitting.{later-then, split-begun, split-seen, split-whole}
use Rattle.gop_board.proofs.split.split_gops.Goals as goal

pub loop-position-init : goal.loop-position-init
loop-position-init g c =
    let at : Some c.in-Some.first.now ≡ slice_get c.args.frames.items 0 =
    c.in-Some.ensures.value ∙ ap (λ (l : List (Arc (Frame g.row.T.Denot) Global)). slice_get l 0) c.deref.ensures.value in
    split-begun c.args.cfg.now.enc c.args.frames.items _ c.in_ok-last.last c.in-Some.first.now c.in_ok-try_clone.field-0 _ c.new-ended.ensures.items at
    c.in_ok-try_clone.ensures c.in_ok-last.ensures

pub returns-in_err-starts-clause-later : goal.returns-in_err-starts-clause-later
returns-in_err-starts-clause-later g c = later-then _ _ _ c.loop-position.invariant.later c.asks.ensures.later

pub returns-in_err-add-clause-later : goal.returns-in_err-add-clause-later
returns-in_err-add-clause-later g c = later-then _ _ _ c.loop-position.invariant.later c.asks.ensures.later

pub loop-position-preserved : goal.loop-position-preserved
loop-position-preserved g c =
    let so = c.loop-position.invariant in
    let within : c.loop-position.position < length c.args.frames.items = omega arith in
    let some : 0 < c.loop-position.position = omega (arith, so.count, so.some) in
    split-seen c.args.cfg.now.enc c.args.frames.items c.deref-in-loop-position.result.now c.loop-position.ended.items c.add.new.ended.items c.loop-position.last c.add.new.last
    c.loop-position.position (g.D.Detector.told c.args.detector.now) (g.D.Detector.told c.loop-position.detector) (g.D.Detector.told c.asks.new.detector)
    c.in_ok-frame.frame c.index.result.now c.in_ok-starts.starts some within c.in_ok-frame.ensures c.index.ensures so c.deref-in-loop-position.ensures.value
    (record { asked = c.in_ok-starts.ensures.asked; told_ahead = c.in_ok-starts.ensures.ahead; later = c.asks.ensures.later })
    c.in_ok-add.ensures

pub returns-clause-split : goal.returns-clause-split
returns-clause-split g c =
    let some : 0 < length c.args.frames.items =
    subst (λ (l : List (Arc (Frame g.row.T.Denot) Global)). 0 < length l) c.deref.ensures.value c.in-Some.ensures.item.3.0 in
    let all : c.loop-position.position ≡ length c.args.frames.items = omega arith in
    split-whole c.args.cfg.now.enc c.args.frames.items c.loop-position.ended.items c.loop-position.last c.push.new.self.items c.loop-position.position
    _ _ c.loop-position.invariant all c.in_ok-push.ensures.items
