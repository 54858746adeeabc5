use Rattle.session_script.proofs.JobAnswers.{no_session, nobody}
use Rattle.session_script.specs.Words.{workers_asked}
use Rattle.session_script.proofs.gops.run_gops.Goals as goal

pub returns-clause-outcome : goal.returns-clause-outcome
returns-clause-outcome g c = record {
  outcome = c.encode_words.result;
  heard = nobody;
  is = c.of.ensures;
  run = c.encode_words.ensures.outcome nobody;
}

pub returns-clause-no_session : goal.returns-clause-no_session
returns-clause-no_session g c =
    rw c.of.ensures (no_session (workers_asked c.args.words.now) _ _ nobody c.encode_words.result (c.encode_words.ensures.outcome nobody))
