-- More words than a line has.
use Rattle.std.proofs.Common.{◌≡◌, ℕ, ◌<◌, ◌==◌, List, [], ◌∷◌, length, None, refl, arith}
use Rattle.std.proofs.lemmas.List.Splits.{length-slice_split}
use Rattle.script_lines.specs.Lines.{parts, line_of_words}

four : (a b c : List ℕ) (words : List (List ℕ)) → 0 < length words → line_of_words (a ∷ b ∷ c ∷ words) ≡ None
four a b c [] h = absurd (omega arith)
four a b c (d ∷ words) h = refl

pub too_many : (a b c rest : List ℕ) (byte : ℕ) → line_of_words (a ∷ b ∷ c ∷ parts byte rest) ≡ None
too_many a b c rest byte = four a b c (parts byte rest) (omega (arith, length-slice_split (λ x. x == byte) rest))
