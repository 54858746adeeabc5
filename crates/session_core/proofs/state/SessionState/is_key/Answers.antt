use Rattle.std.proofs.Common.{map, ap, sym, ◌∙◌}
use Rattle.session_core.specs.Questions.{last_key}
use Rattle.session_core.proofs.Deciding.{unforced-asks}
use Rattle.session_core.proofs.state.SessionState.is_key.Goals as goal

pub returns-clause-asked : goal.returns-clause-asked
returns-clause-asked g c =
    let self = c.args.self.now in
    unforced-asks c.args.mode self c.args.position c.args.forced _ _ c.ask.result (map (λ frame. frame.value) c.deref.result.now) self.last_key
    c.if-forced.false
    (ap (map (λ frame. frame.value)) c.deref.ensures.value ∙ c.in_ok-frames.ensures)
    (c.requires.last_key ∙ ap (last_key self.decisions.items) (sym c.requires.next))
    c.ask.ensures.questions
