-- Runs of any machine: joined, cut, one turn longer, with an invariant, and under another step.
use Rattle.std.proofs.Common.{◌≡◌, ℕ, zero, suc, ◌+◌, ◌≤◌, List, [], ◌∷◌, ◌++◌, length, take, refl, sym, ap, ◌∙◌, subst, arith}
use Rattle.coding_base.specs.Runs.{after_calls, Runs}

module _ {M C R : Type 0} (Step : M → C → R → Type 0) (next : M → C → R → M) where
  -- as many turns as calls
  pub runs-length : (m : M) (calls : List C) (turns : List R) → Runs Step next m calls turns → length turns ≡ length calls
  runs-length m [] [] runs = refl
  runs-length m [] (turn ∷ turns) runs = absurd runs
  runs-length m (call ∷ calls) [] runs = absurd runs
  runs-length m (call ∷ calls) (turn ∷ turns) runs = ap suc (runs-length (next m call turn) calls turns runs.1)

  pub after-append : (m : M) (calls : List C) (turns : List R) (more : List C) (further : List R) → length turns ≡ length calls →
      after_calls next m (calls ++ more) (turns ++ further) ≡ after_calls next (after_calls next m calls turns) more further
  after-append m [] [] more further same = refl
  after-append m [] (turn ∷ turns) more further same = absurd (omega arith)
  after-append m (call ∷ calls) [] more further same = absurd (omega arith)
  after-append m (call ∷ calls) (turn ∷ turns) more further same =
      after-append (next m call turn) calls turns more further (omega arith)

  pub runs-append : (m : M) (calls : List C) (turns : List R) (more : List C) (further : List R) → Runs Step next m calls turns →
      Runs Step next (after_calls next m calls turns) more further → Runs Step next m (calls ++ more) (turns ++ further)
  runs-append m [] [] more further runs then = then
  runs-append m [] (turn ∷ turns) more further runs then = absurd runs
  runs-append m (call ∷ calls) [] more further runs then = absurd runs
  runs-append m (call ∷ calls) (turn ∷ turns) more further runs then =
      (runs.0, runs-append (next m call turn) calls turns more further runs.1 then)

  -- one more call and its turn
  pub after-push : (m : M) (calls : List C) (turns : List R) (call : C) (turn : R) → Runs Step next m calls turns →
      after_calls next m (calls ++ call ∷ []) (turns ++ turn ∷ []) ≡ next (after_calls next m calls turns) call turn
  after-push m calls turns call turn runs = after-append m calls turns (call ∷ []) (turn ∷ []) (runs-length m calls turns runs)

  pub runs-push : (m : M) (calls : List C) (turns : List R) (call : C) (turn : R) → Runs Step next m calls turns →
      Step (after_calls next m calls turns) call turn → Runs Step next m (calls ++ call ∷ []) (turns ++ turn ∷ [])
  runs-push m calls turns call turn runs step = runs-append m calls turns (call ∷ []) (turn ∷ []) runs (step, tt)

  -- the first calls with their turns
  pub runs-take : (m : M) (calls : List C) (turns : List R) (count : ℕ) → Runs Step next m calls turns →
      Runs Step next m (take count calls) (take count turns)
  runs-take m calls turns zero runs = tt
  runs-take m [] [] (suc count) runs = tt
  runs-take m [] (turn ∷ turns) (suc count) runs = absurd runs
  runs-take m (call ∷ calls) [] (suc count) runs = absurd runs
  runs-take m (call ∷ calls) (turn ∷ turns) (suc count) runs = (runs.0, runs-take (next m call turn) calls turns count runs.1)

  -- what holds at first and is kept by each turn holds at the end
  pub runs-keep : (P : M → Type 0) → ((m : M) (call : C) (turn : R) → P m → Step m call turn → P (next m call turn)) →
      (m : M) (calls : List C) (turns : List R) → P m → Runs Step next m calls turns → P (after_calls next m calls turns)
  runs-keep P keep m [] turns holds runs = holds
  runs-keep P keep m (call ∷ calls) [] holds runs = holds
  runs-keep P keep m (call ∷ calls) (turn ∷ turns) holds runs =
      runs-keep P keep (next m call turn) calls turns (keep m call turn holds runs.0) runs.1

-- the same run under another step and next moment, where each turn of the first is one of the second with the same
-- moment after it
pub runs-same : {M C R : Type 0} (Step Other : M → C → R → Type 0) (next other : M → C → R → M) →
    ((m : M) (call : C) (turn : R) → Step m call turn → Other m call turn × (other m call turn ≡ next m call turn)) →
    (m : M) (calls : List C) (turns : List R) → Runs Step next m calls turns →
    Runs Other other m calls turns × (after_calls other m calls turns ≡ after_calls next m calls turns)
runs-same Step Other next other each m [] [] runs = (tt, refl)
runs-same Step Other next other each m [] (turn ∷ turns) runs = absurd runs
runs-same Step Other next other each m (call ∷ calls) [] runs = absurd runs
runs-same {M} {C} {R} Step Other next other each m (call ∷ calls) (turn ∷ turns) runs =
    let here = each m call turn runs.0 in
    let rest = runs-same Step Other next other each (next m call turn) calls turns runs.1 in (
      (here.0, subst (λ (at : M). Runs Other other at calls turns) (sym here.1) rest.0),
      ap (λ (at : M). after_calls other at calls turns) here.1 ∙ rest.1,
    )
