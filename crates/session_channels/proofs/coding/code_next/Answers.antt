use Rattle.session_channels.proofs.coding.code_next.Goals as goal
use Rattle.session_channels.proofs.Parts.{fed-stops, next-stops, next-went, received-stops}

pub returns-in-Err-clause-drove : goal.returns-in-Err-clause-drove
returns-in-Err-clause-drove g c = λ hand codes.
    fed-stops g.P.Put.contents g.P.Put.queue g.I.Take.contents g.I.Take.queue g.U.Put.contents g.U.Put.queue _ _ _ _ _ _ _ _ _
    (c.in-Err.ensures.drove hand codes)

pub returns-in-Err-receive-clause-drove : goal.returns-in-Err-receive-clause-drove
returns-in-Err-receive-clause-drove g c = λ hand codes.
    received-stops g.P.Put.contents g.P.Put.queue g.I.Take.contents g.I.Take.queue g.U.Put.contents g.U.Put.queue _ _ _ _ _ _ _ _ _ _ _
    (c.in-Ok.ensures.drove hand codes) (c.in-Err-receive.ensures.drove hand codes)

pub returns-in-Ok-hand_on-clause-drove : goal.returns-in-Ok-hand_on-clause-drove
returns-in-Ok-hand_on-clause-drove g c = λ hand codes.
    next-went g.P.Put.contents g.P.Put.queue g.I.Take.contents g.I.Take.queue g.U.Put.contents g.U.Put.queue _ _ _ _ _ _ _ _ _ _ _ _
    (c.in-Ok.ensures.drove hand codes) (c.in-Ok-receive.ensures.drove hand codes) (c.in-Ok-hand_on.ensures.drove hand)

pub returns-in-Err-hand_on-clause-drove : goal.returns-in-Err-hand_on-clause-drove
returns-in-Err-hand_on-clause-drove g c = λ hand codes.
    next-stops g.P.Put.contents g.P.Put.queue g.I.Take.contents g.I.Take.queue g.U.Put.contents g.U.Put.queue _ _ _ _ _ _ _ _ _ _ _ _ _
    (c.in-Ok.ensures.drove hand codes) (c.in-Ok-receive.ensures.drove hand codes) (c.in-Err-hand_on.ensures.drove hand)
