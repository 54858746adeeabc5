use Rattle.std.proofs.Common.{sym, ap, ◌∙◌}
use Rattle.std.specs.Option.{option_map}
use Rattle.session_script.specs.declared.words.Task.TheVariants.{Gops}
use Rattle.session_script.proofs.Answered.{told_run}
use Rattle.session_script.proofs.JobAnswers.{nobody, not_unwritten}
use Rattle.session_script.proofs.gops.encode_words.Goals as goal

pub tell-requires : goal.tell-requires
tell-requires g c = not_unwritten _ nobody c.in-Some.workers _ (c.encode_source-outcome.ensures.cause nobody)

pub returns-clause-outcome : goal.returns-clause-outcome
returns-clause-outcome g c =
    λ heard. told_run _ _ _ heard (Gops c.in-Some.workers) (ap (option_map Gops) (sym c.workers_asked.ensures ∙ c.in-Some.is)) c.encode_source-outcome.ensures.reads c.encode_source-outcome.ensures.later _ _ (c.encode_source-outcome.ensures.cause heard) c.encode_source-outcome.ensures.kind c.tell.ensures.told c.tell.ensures.writes
