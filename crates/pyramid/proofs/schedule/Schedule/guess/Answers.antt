use Rattle.std.proofs.Common.{ap, ◌∙◌}
use Rattle.pyramid.specs.Guess.{answer_of}
use Rattle.pyramid.proofs.GuessAnswers.{known-walk, opening-walk}
use Rattle.pyramid.proofs.schedule.Schedule.guess.Goals as goal

pub returns-clause-known : goal.returns-clause-known
returns-clause-known c = λ numbers interval frames flushed keys commands there is.
    c.answer.ensures ∙ ap answer_of (c.whole_walk.ensures.value ∙ known-walk c.args.self.now numbers interval frames flushed keys commands c.args.wanted is there)

pub returns-clause-opening : goal.returns-clause-opening
returns-clause-opening c = λ numbers interval frames flushed keys is.
    c.answer.ensures ∙ ap answer_of (c.whole_walk.ensures.value ∙ opening-walk c.args.self.now numbers interval frames flushed keys c.args.wanted is)
