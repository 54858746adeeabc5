use Rattle.std.proofs.Common.{◌≡◌, ◌∙◌, ℕ, false, [], ap, rules, to_z, of_z, w32}
use Rattle.std.proofs.Math.Logic.{∥∥₁_elim}
use Rattle.std.proofs.Props.{props}
use Rattle.av1_settings.specs.Settings.{interval_of}
use Rattle.pyramid.specs.Guess.{guess}
use Rattle.pyramid.specs.Settings.{numbers_of}
use Rattle.pyramid.specs.declared.guess.GuessedAhead.{GuessedAhead}
use Rattle.session_core.specs.Quantisers.{clamped_guess, units_of}
use Rattle.session_core.proofs.guess.OpeningGuessSubtypeGuess.guess.Goals as goal

pub returns : goal.returns
returns c =
    let enc = c.args.self.now.enc.now in
    let guessed : ℕ → GuessedAhead = λ wanted. guess (numbers_of enc) (interval_of enc.max_key_frame_interval) 0 false [] 0 wanted in
    let same : to_z w32 (of_z w32 c.args.tus) ≡ c.args.tus = search rules in
    ∥∥₁_elim c.args.self.now.opens (Prim.hlevel props)
    (λ opens. c.clamped.ensures ∙ ap clamped_guess (c.guess.ensures.opening _ _ _ _ _ opens ∙ ap guessed (c.units_of.ensures.units ∙ ap units_of same)))
