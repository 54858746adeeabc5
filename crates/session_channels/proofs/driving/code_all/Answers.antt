use Rattle.session_channels.proofs.Parts.{all-drove}
use Rattle.session_channels.proofs.driving.code_all.Goals as goal

pub returns-in-Ok-clause-drove : goal.returns-in-Ok-clause-drove
returns-in-Ok-clause-drove g c =
    all-drove g.F.Take.contents g.F.Take.queue g.P.Put.contents g.P.Put.queue g.I.Take.contents g.I.Take.queue g.U.Put.contents g.U.Put.queue
    _ _ c.finish.result _ _ _ _ _ _ _ _ _ _ _ _ _ _ c.in-Ok.ensures.drove c.finish.ensures
