use Rattle.std.proofs.Common.{◌≡◌, ◌+◌, Bool, List, map, ap, ◌∙◌}
use Rattle.av1_frame.specs.declared.frame.Frame.{Frame}
use Rattle.pyramid.specs.Numbers.{ahead}
use Rattle.pyramid.specs.Settings.{numbers_of}
use Rattle.session_core.specs.Told.{told_ask}
use Rattle.gop_board.proofs.Splitting.{asked-of, near-pictures}
use Rattle.gop_board.proofs.split.asks.Goals as goal

pub returns-clause-asked : goal.returns-clause-asked
returns-clause-asked g c =
    let mode = c.args.enc.now.speed_settings.scene_detection_mode in
    let enc = c.args.enc.now in
    let count : c.ahead-count.result + 1 ≡ ahead (numbers_of enc) + 1 = cc in
    let near = near-pictures enc c.args.frames.now c.args.position (c.ahead-count.result + 1) count in
    asked-of _ _ c.ask.result _ _
    (λ (answer : Bool).
    ap (λ (frames : List (Frame g.row.T.Denot)). told_ask mode frames c.args.position c.args.start answer)
    (ap (map (λ frame. frame.value)) c.near.ensures ∙ near))
    c.ask.ensures.questions
