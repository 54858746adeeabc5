-- How many calls are left before the first that fails.
use Rattle.std.proofs.Common.{◌≡◌, ◌-◌, ℕ, List, [], length, map, min, Option, Some, None, option_map, refl, ap, ◌∙◌, arith}
use Rattle.std.specs.List.{reduce}
use Rattle.session_core.specs.Told.{CoderTold}
use Rattle.scripted.specs.declared.coder.Given.{Given}
use Rattle.scripted.specs.CoderLog.{scripted_next_from, told_first_from, told_of}

none_given : (first : Option ℕ) → option_map (λ first. first - 0) first ≡ first
none_given None = refl
none_given (Some first) =
    let same : first - 0 ≡ first = omega arith in
    ap (λ (n : ℕ). Some n) same

-- what a coder without a log tells
pub first-told : (start : ℕ) (counts rules : List (ℕ × ℕ)) (first : Option ℕ) (faults : List ℕ) (log : List Given) → log ≡ [] → counts ≡ rules → first ≡ reduce min faults →
    ◌≡◌ {A = CoderTold ℕ} (record {
      calls = Some (map told_of log);
      gives = Some (scripted_next_from start counts);
      fails_after = Some (option_map (λ first. first - length log) first);
      faults = 0;
    }) (told_first_from start rules faults)
first-told start counts rules first faults log none same least =
    rw (none, same)
    (ap (λ (left : Option ℕ). let told : CoderTold ℕ = record { calls = Some []; gives = Some (scripted_next_from start rules); fails_after = Some left; faults = 0 } in told)
    (none_given first ∙ least))
