-- A script gives pass data in a second pass alone.
use Rattle.std.proofs.Common.{◌≡◌, ◌≢◌, ℕ, true, ◌==◌, List, length, replicate, Some, Ok, refl, subst}
use Rattle.std.specs.List.{list_all}
use Rattle.arrayvec.specs.ArrayVec.{ArrayVec}
use Rattle.script_lines.specs.declared.dialect.Dialect.{Dialect}
use Rattle.script_lines.specs.declared.dialect.Dialect.TheVariants.{Run, SecondPass, Gops}
use Rattle.script_lines.specs.declared.answer.Answer.{Answer}
use Rattle.script_lines.specs.declared.answer.Answer.TheVariants.{Cut, ByteCount, Fault, Scale}
use Rattle.script_lines.specs.declared.line.Line.{Line}
use Rattle.script_lines.specs.declared.line.Line.TheVariants.{Blank, Set, Answers, Prints, Summary, Calls, Gives}
use Rattle.script_lines.specs.declared.line.ScriptCall.TheVariants.{Act}
use Rattle.script_lines.specs.declared.script.Draft.{Draft}
use Rattle.script_lines.specs.declared.script.Script.{Script}
use Rattle.script_lines.specs.Dialects.{has_line}
use Rattle.script_lines.specs.Grammar.{is_act, may_call, may_set, script_of, with_answer, with_line}
use Rattle.script_lines.proofs.Acts.{all_acts, joined_acts}
use Rattle.script_lines.proofs.Scripts.{chosen, from_lines}

abbrev pub IsPlain : Dialect → Draft → Type 0
IsPlain dialect draft = (draft.dialect ≡ dialect) × (list_all is_act draft.script.calls ≡ true)

same_calls : (script : Script) (answer : Answer) → (with_answer script answer).calls ≡ script.calls
same_calls script (Cut frame) = refl
same_calls script (ByteCount frame count) = refl
same_calls script (Fault call) = refl
same_calls script (Scale frame value) = refl

no_give : (dialect : Dialect) (bytes : ArrayVec ℕ) → dialect ≢ SecondPass → has_line dialect (Gives bytes) ≡ true → ⊥
no_give Run bytes other has = cc
no_give SecondPass bytes other has = other refl
no_give Gops bytes other has = cc

module _ (dialect : Dialect) (other : dialect ≢ SecondPass) where
  plain_line : (draft next : Draft) (word : List ℕ) (line : Line) → IsPlain dialect draft → has_line draft.dialect line ≡ true →
      with_line draft word line ≡ Some next → IsPlain dialect next
  plain_line draft next word Blank plain has e = let same : draft ≡ next = cc in subst (λ (d : Draft). IsPlain dialect d) same plain
  plain_line draft next word (Set setting) plain has e =
      subst (λ (d : Draft). IsPlain dialect d) (chosen (may_set draft word) _ next e).1 plain
  plain_line draft next word (Answers answer) plain has e =
      subst (λ (d : Draft). IsPlain dialect d) (chosen (length draft.script.calls == 0) _ next e).1
      (plain.0, rw (same_calls draft.script answer) plain.1)
  plain_line draft next word (Prints print) plain has e =
      subst (λ (d : Draft). IsPlain dialect d) (chosen (may_set draft word) _ next e).1 plain
  plain_line draft next word (Summary bytes) plain has e =
      subst (λ (d : Draft). IsPlain dialect d) (chosen (may_set draft word) _ next e).1 plain
  plain_line draft next word (Calls action count) plain has e =
      subst (λ (d : Draft). IsPlain dialect d) (chosen (may_call draft count) _ next e).1
      (plain.0, joined_acts draft.script.calls (replicate count (Act action)) plain.1 (all_acts count action))
  plain_line draft next word (Gives bytes) plain has e = absurd (no_give dialect bytes other (rw plain.0 at has))

  pub gives_nothing : (bytes : List ℕ) (script : Script) → script_of dialect bytes ≡ Ok script → list_all is_act script.calls ≡ true
  gives_nothing bytes script e =
      from_lines (IsPlain dialect) (λ (script : Script). list_all is_act script.calls ≡ true) plain_line
      (λ draft plain flushed. plain.1) dialect bytes script (refl, refl) e
