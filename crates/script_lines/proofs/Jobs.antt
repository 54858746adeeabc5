-- The calls of a script whose GOPs are coded side by side: plain frames, then a flush.
use Rattle.std.proofs.Common.{◌≡◌, ℕ, zero, suc, ◌+◌, ◌-◌, ◌≤◌, ◌==◌, ◌&&◌, Bool, true, false, not, leb, ◌⊎◌, inl, inr, List, [], ◌∷◌, ◌++◌, length, replicate, slice_get, Some, Ok, refl, sym, ap, subst, ◌∙◌, arith, add-one, length-append}
use Rattle.std.specs.List.{list_any}
use Rattle.std.proofs.lemmas.Bool.Decides.{nat_tests}
use Rattle.std.proofs.lemmas.List.{length-replicate, replicate-append-replicate, replicate_more}
use Rattle.std.proofs.lemmas.List.Folds.{list_any-append}
use Rattle.script_lines.specs.declared.dialect.Dialect.TheVariants.{Gops}
use Rattle.script_lines.specs.declared.answer.Answer.{Answer}
use Rattle.script_lines.specs.declared.answer.Answer.TheVariants.{Cut, ByteCount, Fault, Scale}
use Rattle.script_lines.specs.declared.line.Action.{Action}
use Rattle.script_lines.specs.declared.line.Action.TheVariants.{Send, SendKey, SendOpaque, SendSize, Flush, Receive}
use Rattle.script_lines.specs.declared.line.Line.{Line}
use Rattle.script_lines.specs.declared.line.Line.TheVariants.{Blank, Set, Answers, Prints, Summary, Calls, Gives}
use Rattle.script_lines.specs.declared.line.ScriptCall.{ScriptCall}
use Rattle.script_lines.specs.declared.line.ScriptCall.TheVariants.{Act}
use Rattle.script_lines.specs.declared.script.Draft.{Draft}
use Rattle.script_lines.specs.declared.script.Script.{Script}
use Rattle.script_lines.specs.declared.script.TheConstants.{MOST_CALLS}
use Rattle.script_lines.specs.declared.setting.Setting.{Setting}
use Rattle.script_lines.specs.Dialects.{has_line, is_send_or_flush, is_still}
use Rattle.script_lines.specs.Grammar.{IsOfGops, is_flush, is_flushed, may_call, may_set, script_of, with_answer, with_line}
use Rattle.script_lines.proofs.Scripts.{chosen, from_lines}

-- ---- the last call

last_call : (calls : List ScriptCall) (call : ScriptCall) → slice_get (calls ++ call ∷ []) (length calls) ≡ Some call
last_call [] call = refl
last_call (first ∷ calls) call = last_call calls call

flushed_by : (calls : List ScriptCall) (call : ScriptCall) → is_flushed (calls ++ call ∷ []) ≡ is_flush call
flushed_by calls call =
    let at : length (calls ++ call ∷ []) - 1 ≡ length calls = omega (arith, length-append calls (call ∷ [])) in
    rw (at, last_call calls call)

unflushed : (n : ℕ) → is_flushed (replicate n (Act Send)) ≡ false
unflushed zero = refl
unflushed (suc n) =
    let more : replicate n (Act Send) ++ Act Send ∷ [] ≡ replicate (suc n) (Act Send) = rw add-one at (replicate_more n (Act Send)) in
    ap is_flushed (sym more) ∙ flushed_by (replicate n (Act Send)) (Act Send)

-- ---- Booleans

both_right : (a b : Bool) → (a && b) ≡ true → b ≡ true
both_right true b e = e
both_right false b e = cc

both_left : (a b : Bool) → (a && b) ≡ true → a ≡ true
both_left true b e = refl
both_left false b e = cc

not_true : (b : Bool) → not b ≡ true → b ≡ false
not_true true e = cc
not_true false e = refl

not_false : (b : Bool) → not b ≡ false → b ≡ true
not_false true e = refl
not_false false e = cc

-- ---- line by line

-- frames so far, and whether the flush stands behind them
pub record IsJobs (draft : Draft) : Type 0 where
  pub is : draft.dialect ≡ Gops
  pub moving : list_any is_still draft.script.settings ≡ false
  pub few : length draft.script.calls ≤ MOST_CALLS
  pub frames : ℕ
  pub calls : (draft.script.calls ≡ replicate frames (Act Send)) ⊎ (draft.script.calls ≡ replicate frames (Act Send) ++ Act Flush ∷ [])

still_moving : (settings : List Setting) (setting : Setting) → list_any is_still settings ≡ false → not (is_still setting) ≡ true →
    list_any is_still (settings ++ setting ∷ []) ≡ false
still_moving settings setting before has = rw (list_any-append is_still settings (setting ∷ []), before, not_true (is_still setting) has)

answered : (draft : Draft) (answer : Answer) → IsJobs draft → IsJobs (record draft { script = with_answer draft.script answer })
answered draft (Cut frame) jobs =
    record { is = jobs.is; moving = jobs.moving; few = jobs.few; frames = jobs.frames; calls = jobs.calls }
answered draft (ByteCount frame count) jobs =
    record { is = jobs.is; moving = jobs.moving; few = jobs.few; frames = jobs.frames; calls = jobs.calls }
answered draft (Fault call) jobs =
    record { is = jobs.is; moving = jobs.moving; few = jobs.few; frames = jobs.frames; calls = jobs.calls }
answered draft (Scale frame value) jobs =
    record { is = jobs.is; moving = jobs.moving; few = jobs.few; frames = jobs.frames; calls = jobs.calls }

within : (calls : List ScriptCall) (count : ℕ) (call : ScriptCall) → leb (length calls + count) MOST_CALLS ≡ true →
    length (calls ++ replicate count call) ≤ MOST_CALLS
within calls count call e =
    let joined = length-append calls (replicate count call) in
    let more = length-replicate count call in
    let sum : length calls + count ≤ MOST_CALLS = grind (arith, nat_tests) in
    omega (arith, joined, more, sum)

module _ (draft : Draft) (jobs : IsJobs draft) (count : ℕ) (may : may_call draft count ≡ true) where
  room : leb (length draft.script.calls + count) MOST_CALLS ≡ true
  room = both_left _ _ may

  not_flushed : is_flushed draft.script.calls ≡ false
  not_flushed =
      let free = not_true _ (both_right (leb (length draft.script.calls + count) MOST_CALLS) _ may) in
      rw jobs.is at free

  sends : (draft.script.calls ≡ replicate jobs.frames (Act Send)) ⊎ (draft.script.calls ≡ replicate jobs.frames (Act Send) ++ Act Flush ∷ []) →
      draft.script.calls ≡ replicate jobs.frames (Act Send)
  sends (inl e) = e
  sends (inr e) =
      let flushed : is_flushed draft.script.calls ≡ true = ap is_flushed e ∙ flushed_by (replicate jobs.frames (Act Send)) (Act Flush) in
      let never : true ≡ false = sym flushed ∙ not_flushed in
      cc

  frames_sent : IsJobs (record draft { script = record draft.script { calls = draft.script.calls ++ replicate count (Act Send) } })
  frames_sent = record {
    is = jobs.is;
    moving = jobs.moving;
    few = within draft.script.calls count (Act Send) room;
    frames = jobs.frames + count;
    calls = inl (ap (λ calls. calls ++ replicate count (Act Send)) (sends jobs.calls)
        ∙ replicate-append-replicate jobs.frames count (Act Send));
  }

  frames_flushed : count ≡ 1 → IsJobs (record draft { script = record draft.script { calls = draft.script.calls ++ replicate count (Act Flush) } })
  frames_flushed one = record {
    is = jobs.is;
    moving = jobs.moving;
    few = within draft.script.calls count (Act Flush) room;
    frames = jobs.frames;
    calls = inr (rw (sends jobs.calls, one));
  }

jobs_called : (draft : Draft) (action : Action) (count : ℕ) → IsJobs draft → is_send_or_flush action count ≡ true →
    may_call draft count ≡ true →
    IsJobs (record draft { script = record draft.script { calls = draft.script.calls ++ replicate count (Act action) } })
jobs_called draft Send count jobs of may = frames_sent draft jobs count may
jobs_called draft Flush count jobs of may = frames_flushed draft jobs count may (grind (arith, nat_tests))
jobs_called draft SendKey count jobs of may = cc
jobs_called draft (SendOpaque value) count jobs of may = cc
jobs_called draft (SendSize width height) count jobs of may = cc
jobs_called draft Receive count jobs of may = cc

jobs_line : (draft next : Draft) (word : List ℕ) (line : Line) → IsJobs draft → has_line draft.dialect line ≡ true →
    with_line draft word line ≡ Some next → IsJobs next
jobs_line draft next word Blank jobs has e = let same : draft ≡ next = cc in subst IsJobs same jobs
jobs_line draft next word (Set setting) jobs has e =
    let moving : not (is_still setting) ≡ true = rw jobs.is at has in
    subst IsJobs (chosen (may_set draft word) _ next e).1 (record {
      is = jobs.is;
      moving = still_moving draft.script.settings setting jobs.moving moving;
      few = jobs.few;
      frames = jobs.frames;
      calls = jobs.calls;
    })
jobs_line draft next word (Answers answer) jobs has e =
    subst IsJobs (chosen (length draft.script.calls == 0) _ next e).1 (answered draft answer jobs)
jobs_line draft next word (Prints print) jobs has e =
    subst IsJobs (chosen (may_set draft word) _ next e).1
    (record { is = jobs.is; moving = jobs.moving; few = jobs.few; frames = jobs.frames; calls = jobs.calls })
jobs_line draft next word (Summary bytes) jobs has e =
    subst IsJobs (chosen (may_set draft word) _ next e).1
    (record { is = jobs.is; moving = jobs.moving; few = jobs.few; frames = jobs.frames; calls = jobs.calls })
jobs_line draft next word (Calls action count) jobs has e =
    let of : is_send_or_flush action count ≡ true = rw jobs.is at has in
    let choice = chosen (may_call draft count) _ next e in
    subst IsJobs choice.1 (jobs_called draft action count jobs of choice.0)
jobs_line draft next word (Gives bytes) jobs has e = let never : false ≡ true = rw jobs.is at has in cc

-- ---- at the end

ending : (draft : Draft) (jobs : IsJobs draft) → is_flushed draft.script.calls ≡ true →
    ((draft.script.calls ≡ replicate jobs.frames (Act Send)) ⊎ (draft.script.calls ≡ replicate jobs.frames (Act Send) ++ Act Flush ∷ [])) →
    IsOfGops draft.script
ending draft jobs flushed (inl e) =
    let open_yet : is_flushed draft.script.calls ≡ false = ap is_flushed e ∙ unflushed jobs.frames in
    absurd cc
ending draft jobs flushed (inr e) =
    let counted : length draft.script.calls ≡ length (replicate jobs.frames (Act Send) ++ Act Flush ∷ []) = ap length e in
    let joined = length-append (replicate jobs.frames (Act Send)) (Act Flush ∷ []) in
    let sent = length-replicate jobs.frames (Act Send) in
    let few = jobs.few in
    record { frames = jobs.frames; calls = e; few = omega (arith, counted, joined, sent, few); moving = jobs.moving }

pub of_gops : (bytes : List ℕ) (script : Script) → script_of Gops bytes ≡ Ok script → IsOfGops script
of_gops bytes script e =
    from_lines IsJobs IsOfGops jobs_line
    (λ draft jobs lacks. (let shut : not (is_flushed draft.script.calls) ≡ false = rw jobs.is at lacks in ending draft jobs (not_false _ shut) jobs.calls))
    Gops bytes script (record { is = refl; moving = refl; few = omega arith; frames = 0; calls = inl refl }) e
