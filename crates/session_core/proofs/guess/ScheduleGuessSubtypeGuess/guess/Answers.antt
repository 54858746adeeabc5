use Rattle.std.proofs.Common.{◌≡◌, ◌∙◌, ℕ, ap, rules, to_z, of_z, w32}
use Rattle.std.proofs.Math.Logic.{∥∥₁_elim}
use Rattle.std.proofs.Props.{props}
use Rattle.av1_settings.specs.Settings.{interval_of}
use Rattle.pyramid.specs.Guess.{guess}
use Rattle.pyramid.specs.Settings.{numbers_of}
use Rattle.pyramid.specs.declared.guess.GuessedAhead.{GuessedAhead}
use Rattle.session_core.specs.Decisions.{keys_of}
use Rattle.session_core.specs.Quantisers.{clamped_guess, units_of}
use Rattle.session_core.specs.States.{moment_of}
use Rattle.session_core.proofs.guess.ScheduleGuessSubtypeGuess.guess.Goals as goal

pub returns : goal.returns
returns g c =
    let at = c.args.self.now in
    let moment = moment_of at.state.now in
    let guessed : ℕ → GuessedAhead = λ wanted.
    guess (numbers_of at.enc.now) (interval_of at.enc.now.max_key_frame_interval) moment.accepted moment.flushed (keys_of moment.accepted moment.decisions) moment.commands wanted in
    let same : to_z w32 (of_z w32 c.args.tus) ≡ c.args.tus = search rules in
    ∥∥₁_elim at.due (Prim.hlevel props)
    (λ due. c.clamped.ensures ∙ ap clamped_guess (c.guess.ensures.known _ _ _ _ _ _ due.known due.scheduled ∙ ap guessed (c.units_of.ensures.units ∙ ap units_of same)))
