-- What each turn of a run keeps, of the moment and of the calls and turns up to it; and the rest of a run.
use Rattle.std.proofs.Common.{ℕ, zero, suc, List, [], ◌∷◌, ◌++◌, take, drop, sym, subst₂, append_assoc, append-nil}
use Rattle.coding_base.specs.Runs.{after_calls, Runs}

module _ {M C R : Type 0} (Step : M → C → R → Type 0) (next : M → C → R → M) where
  -- what every turn keeps, all turns keep
  pub runs-along : (Q : M → List C → List R → Type 0) →
      ((m : M) (done : List C) (answered : List R) (call : C) (turn : R) → Q m done answered → Step m call turn →
      Q (next m call turn) (done ++ call ∷ []) (answered ++ turn ∷ [])) →
      (m : M) (done : List C) (answered : List R) (calls : List C) (turns : List R) → Q m done answered →
      Runs Step next m calls turns → Q (after_calls next m calls turns) (done ++ calls) (answered ++ turns)
  runs-along Q step m done answered [] [] q runs = subst₂ (Q m) (sym (append-nil done)) (sym (append-nil answered)) q
  runs-along Q step m done answered [] (turn ∷ turns) q runs = absurd runs
  runs-along Q step m done answered (call ∷ calls) [] q runs = absurd runs
  runs-along Q step m done answered (call ∷ calls) (turn ∷ turns) q runs =
      subst₂ (Q (after_calls next (next m call turn) calls turns)) (append_assoc done (call ∷ []) calls) (append_assoc answered (turn ∷ []) turns)
      (runs-along Q step (next m call turn) (done ++ call ∷ []) (answered ++ turn ∷ []) calls turns (step m done answered call turn q runs.0) runs.1)

  -- the calls behind the first `count`, from the moment after these
  pub runs-drop : (m : M) (calls : List C) (turns : List R) (count : ℕ) → Runs Step next m calls turns →
      Runs Step next (after_calls next m (take count calls) (take count turns)) (drop count calls) (drop count turns)
  runs-drop m calls turns zero runs = runs
  runs-drop m [] [] (suc count) runs = tt
  runs-drop m [] (turn ∷ turns) (suc count) runs = absurd runs
  runs-drop m (call ∷ calls) [] (suc count) runs = absurd runs
  runs-drop m (call ∷ calls) (turn ∷ turns) (suc count) runs = runs-drop (next m call turn) calls turns count runs.1
