-- The first line of a text, and those behind it.
use Rattle.std.proofs.Common.{◌≡◌, ℕ, ◌<◌, ◌==◌, List, [], ◌∷◌, length, refl, arith}
use Rattle.std.proofs.lemmas.List.Splits.{length-slice_split}
use Rattle.script_lines.specs.Lines.{lines_of, parts, without_empty_end}

before_more : (line : List ℕ) (more : List (List ℕ)) → 0 < length more → without_empty_end (line ∷ more) ≡ line ∷ without_empty_end more
before_more line [] h = absurd (omega arith)
before_more [] (part ∷ more) h = refl
before_more (byte ∷ line) (part ∷ more) h = refl

-- a line with a line feed
pub line_fed : (text line rest : List ℕ) → parts 10 text ≡ line ∷ parts 10 rest → lines_of text ≡ line ∷ lines_of rest
line_fed text line rest e = rw e (before_more line (parts 10 rest) (omega (arith, length-slice_split (λ x. x == 10) rest)))

alone : (line : List ℕ) → 0 < length line → without_empty_end (line ∷ []) ≡ line ∷ []
alone [] h = absurd (omega arith)
alone (byte ∷ line) h = refl

-- the last line, without one
pub line_unfed : (text line : List ℕ) → 0 < length text → line ≡ text → parts 10 text ≡ line ∷ [] → lines_of text ≡ line ∷ lines_of []
line_unfed text line some is e = rw e (alone line (rw is some))
