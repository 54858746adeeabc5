use Rattle.std.proofs.Common.{◌≡◌, ℕ, List, [], ◌∷◌, map, length, get_or, ℤ, pos, refl, ap, ◌∙◌, rules, arith, to_z, of_z, w32}
use Rattle.std.specs.Int.{int_min}
use Rattle.rate_model.specs.Measure.{LAST_I32}
use Rattle.pyramid.specs.declared.guess.GuessedAhead.{GuessedAhead}
use Rattle.ratecontrol.specs.declared.guess.Guess.{Guess}
use Rattle.session_core.specs.Quantisers.{clamped_guess}
use Rattle.session_core.proofs.guess.clamped.Goals as goal

five : (f : ℕ → ℤ) (xs : List ℕ) → length xs ≡ 5 →
    f (get_or xs 0 0) ∷ f (get_or xs 1 0) ∷ f (get_or xs 2 0) ∷ f (get_or xs 3 0) ∷ f (get_or xs 4 0) ∷ [] ≡ map f xs
five f [] size = absurd (omega (arith, size))
five f (a ∷ []) size = absurd (omega (arith, size))
five f (a ∷ b ∷ []) size = absurd (omega (arith, size))
five f (a ∷ b ∷ c ∷ []) size = absurd (omega (arith, size))
five f (a ∷ b ∷ c ∷ d ∷ []) size = absurd (omega (arith, size))
five f (a ∷ b ∷ c ∷ d ∷ e ∷ []) size = refl
five f (a ∷ b ∷ c ∷ d ∷ e ∷ g ∷ xs) size = absurd (omega (arith, size))

whole : (ahead : GuessedAhead) (a b c d e f t : ℤ) → length ahead.nframes ≡ 5 → a ≡ int_min (pos (get_or ahead.nframes 0 0)) LAST_I32 →
    b ≡ int_min (pos (get_or ahead.nframes 1 0)) LAST_I32 → c ≡ int_min (pos (get_or ahead.nframes 2 0)) LAST_I32 →
    d ≡ int_min (pos (get_or ahead.nframes 3 0)) LAST_I32 → e ≡ int_min (pos (get_or ahead.nframes 4 0)) LAST_I32 →
    f ≡ int_min (pos ahead.frames) LAST_I32 → t ≡ int_min (pos ahead.tus) LAST_I32 →
    ◌≡◌ {A = Guess} (record { nframes = a ∷ b ∷ c ∷ d ∷ e ∷ []; frames = f; tus = t }) (clamped_guess ahead)
whole ahead a b c d e f t size p q r s u v w =
    let frames_of : List ℤ → Guess = λ l. record { nframes = l; frames = int_min (pos ahead.frames) LAST_I32; tus = int_min (pos ahead.tus) LAST_I32 } in
    rw (p, q, r, s, u, v, w) (ap frames_of (five (λ count. int_min (pos count) LAST_I32) ahead.nframes size))

pub returns : goal.returns
returns c =
    let ahead = c.args.ahead.now in
    let size : length ahead.nframes ≡ 5 = search rules in
    let same : to_z w32 (of_z w32 c.clamped_count.result) ≡ c.clamped_count.result = search rules in
    let same-2 : to_z w32 (of_z w32 c.clamped_count-2.result) ≡ c.clamped_count-2.result = search rules in
    let same-3 : to_z w32 (of_z w32 c.clamped_count-3.result) ≡ c.clamped_count-3.result = search rules in
    let same-4 : to_z w32 (of_z w32 c.clamped_count-4.result) ≡ c.clamped_count-4.result = search rules in
    let same-5 : to_z w32 (of_z w32 c.clamped_count-5.result) ≡ c.clamped_count-5.result = search rules in
    let same-6 : to_z w32 (of_z w32 c.clamped_count-6.result) ≡ c.clamped_count-6.result = search rules in
    let same-7 : to_z w32 (of_z w32 c.clamped_count-7.result) ≡ c.clamped_count-7.result = search rules in
    whole ahead _ _ _ _ _ _ _ size (same ∙ c.clamped_count.ensures) (same-2 ∙ c.clamped_count-2.ensures) (same-3 ∙ c.clamped_count-3.ensures)
    (same-4 ∙ c.clamped_count-4.ensures) (same-5 ∙ c.clamped_count-5.ensures) (same-6 ∙ c.clamped_count-6.ensures) (same-7 ∙ c.clamped_count-7.ensures)
