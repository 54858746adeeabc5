-- What stays so of a script from line to line.
use Rattle.std.proofs.Common.{◌≡◌, ℕ, ◌+◌, Bool, true, false, cond, List, [], ◌∷◌, Option, Some, None, option_and_then, Result, Ok, Err, refl, subst}
use Rattle.std.specs.Option.{option_map_or}
use Rattle.script_lines.specs.declared.dialect.Dialect.{Dialect}
use Rattle.script_lines.specs.declared.line.Line.{Line}
use Rattle.script_lines.specs.declared.script.Draft.{Draft}
use Rattle.script_lines.specs.declared.script.Script.{Script}
use Rattle.script_lines.specs.Dialects.{has_line}
use Rattle.script_lines.specs.Grammar.{empty_draft, lacks_flush, script_after, script_of, with_line, with_text}
use Rattle.script_lines.specs.Lines.{key_of, line_of, lines_of}

-- ---- what each line keeps, and what it comes to at the end

abbrev pub KeptByLines : (Draft → Type 0) → Type 0
KeptByLines Q = (draft next : Draft) (word : List ℕ) (line : Line) → Q draft → has_line draft.dialect line ≡ true →
    with_line draft word line ≡ Some next → Q next

-- a choice that came out
pub chosen : (b : Bool) (made next : Draft) → cond b (Some made) None ≡ Some next → (b ≡ true) × (made ≡ next)
chosen true made next e = (refl, cc)
chosen false made next e = cc

module _ (Q : Draft → Type 0) (R : Script → Type 0) (kept : KeptByLines Q)
    (ending : (draft : Draft) → Q draft → lacks_flush draft ≡ false → R draft.script) where
  tested : (draft next : Draft) (word : List ℕ) (line : Line) (b : Bool) → has_line draft.dialect line ≡ b → Q draft →
      option_and_then (with_line draft word) (cond b (Some line) None) ≡ Some next → Q next
  tested draft next word line false is q e = cc
  tested draft next word line true is q e = kept draft next word line q is e

  read : (draft next : Draft) (word : List ℕ) (line : Option Line) → Q draft →
      option_and_then (with_line draft word) (option_and_then (λ line. cond (has_line draft.dialect line) (Some line) None) line) ≡ Some next →
      Q next
  read draft next word None q e = cc
  read draft next word (Some line) q e = tested draft next word line (has_line draft.dialect line) refl q e

  ended : (b : Bool) (n : ℕ) (draft : Draft) (script : Script) → lacks_flush draft ≡ b → Q draft →
      cond b (Err n) (Ok draft.script) ≡ Ok script → R script
  ended true n draft script is q e = cc
  ended false n draft script is q e = let same : draft.script ≡ script = cc in subst R same (ending draft q is)

  onward : (next : Option Draft) (n : ℕ) (script : Script) (rest : Draft → Result Script ℕ) → ((d : Draft) → next ≡ Some d → Q d) →
      ((d : Draft) → Q d → rest d ≡ Ok script → R script) → option_map_or rest next (Err n) ≡ Ok script → R script
  onward None n script rest made follows e = cc
  onward (Some d) n script rest made follows e = follows d (made d refl) e

  along : (draft : Draft) (n : ℕ) (lines : List (List ℕ)) (script : Script) → Q draft → script_after draft n lines ≡ Ok script → R script
  along draft n [] script q e = ended (lacks_flush draft) n draft script refl q e
  along draft n (text ∷ lines) script q e =
      onward (with_text draft text) n script (λ next. script_after next (n + 1) lines)
      (λ next made. read draft next (key_of text) (line_of text) q made)
      (λ next holds rest. along next (n + 1) lines script holds rest) e

  pub from_lines : (dialect : Dialect) (bytes : List ℕ) (script : Script) → Q (empty_draft dialect) → script_of dialect bytes ≡ Ok script →
      R script
  unfolding script_of
  from_lines dialect bytes script q e = along (empty_draft dialect) 1 (lines_of bytes) script q e
