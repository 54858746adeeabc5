-- What a worker does, number by number: the entries that it sets in a row, and its pass.
use Rattle.std.proofs.Common.{◌≡◌, ◌⊎◌, ◌&&◌, ℕ, ◌<◌, ◌≤◌, Bool, true, false, cond, not, ltb, List, [], ◌∷◌, ◌++◌, length, set, get_or, Option, Some, None, is_none, refl, sym, ap, ◌∙◌, subst, inl, inr, append_assoc, append-nil, arith}
use Rattle.std.specs.Prelude.{Contains, option_map}
use Rattle.std.proofs.lemmas.Bool.{cases_eq, cases_lt, and_right, false≢true}
use Rattle.std.proofs.lemmas.List.{get_or-set_same, get_or-set_other, get_or_past, length-set, set_past}
use Rattle.std.proofs.lemmas.List.Elements.{Contains-append_cases, Contains-append_left, Contains-append_right, Contains-push, Contains-push_cases}
use Rattle.std.proofs.lemmas.Option.{none-some, same_Some}
use Rattle.gop_board.specs.declared.job_result.JobResult.{JobResult}
use Rattle.gop_board.specs.Handing.{Passing, after_pop}
use Rattle.gop_board.specs.Rows.{Row, entry_at, is_absent, with_absent_entry, with_entry}
use Rattle.gop_board.specs.Workers.{Fills, IsFilled}

-- ---- a row

contains-none : (job : ℕ) → Contains [] job → ⊥
contains-none job at = omega (arith, at.1)

contains-one : (number job : ℕ) → Contains (number ∷ []) job → number ≡ job
contains-one number job at = elim (Contains-push_cases [] number job at) [ inl none ↦ absurd (contains-none job none) | inr same ↦ same ]

module _ {T C : Type 0} where
  absent-same : (before after : Row T C) (job : ℕ) → entry_at after job ≡ entry_at before job → after.collected ≡ before.collected →
      is_absent after job ≡ is_absent before job
  absent-same before after job entry collected =
      ap (λ (count : ℕ). not (ltb job count) && is_none (entry_at after job)) collected
      ∙ ap (λ (found : Option (JobResult T C)). not (ltb job before.collected) && is_none found) entry

  -- nothing set
  filled-none : (belongs : ℕ → JobResult T C → Type 0) (row : Row T C) → IsFilled belongs [] row row
  filled-none belongs row = record {
    there = λ job in_none within. absurd (contains-none job in_none);
    kept = λ job there. refl;
    others = λ job out. refl;
    its = λ job result is. inl is;
    collected = refl;
    same_length = refl;
  }

  -- an entry that was set is there
  set-there : (entries : List (Option (JobResult T C))) (job : ℕ) (result : JobResult T C) → job < length entries →
      get_or (set entries job (Some result)) job None ≡ Some result
  set-there entries job result within = get_or-set_same entries job (Some result) None within

  there-now : (row : Row T C) (number : ℕ) (result : JobResult T C) → number < length row.entries → is_absent (with_entry row number result) number ≡ false
  there-now row number result within =
      and_right (not (ltb number row.collected)) (is_none (entry_at (with_entry row number result) number))
      (ap (λ (found : Option (JobResult T C)). is_none found) (set-there row.entries number result within))

  other-entry : (row : Row T C) (number job : ℕ) (result : JobResult T C) → (job ≡ number → ⊥) → entry_at (with_entry row number result) job ≡ entry_at row job
  other-entry row number job result other = get_or-set_other row.entries number job (Some result) None other

  past-entry : (row : Row T C) (number : ℕ) (result : JobResult T C) → length row.entries ≤ number → entry_at (with_entry row number result) number ≡ None
  past-entry row number result past =
      ap (λ (l : List (Option (JobResult T C))). get_or l number None) (set_past row.entries number (Some result) past)
      ∙ get_or_past row.entries number None past

  module _ (belongs : ℕ → JobResult T C → Type 0) (row : Row T C) (number : ℕ) (result : JobResult T C) (its : belongs number result) where
    its-one : (job : ℕ) (found : JobResult T C) → entry_at (with_entry row number result) job ≡ Some found → (entry_at row job ≡ Some found) ⊎ belongs job found
    its-one job found is = elim (cases_eq job number) [
      | inr other ↦ inl (sym (other-entry row number job result other) ∙ is)
      | inl same ↦ elim (cases_lt number (length row.entries)) [
        | inl within ↦
            let at : entry_at (with_entry row number result) number ≡ Some found = subst (λ (n : ℕ). entry_at (with_entry row number result) n ≡ Some found) same is in
            let here : result ≡ found = same_Some result found (sym (set-there row.entries number result within) ∙ at) in
            inr (subst (λ (n : ℕ). belongs n found) (sym same) (subst (λ (r : JobResult T C). belongs number r) here its))
        | inr past ↦
            let at : entry_at (with_entry row number result) number ≡ Some found = subst (λ (n : ℕ). entry_at (with_entry row number result) n ≡ Some found) same is in
            absurd (none-some found (sym (past-entry row number result past) ∙ at))
      ]
    ]

    set-one : is_absent row number ≡ true → IsFilled belongs (number ∷ []) row (with_entry row number result)
    set-one absent = record {
      there = λ job in_one within.
          let same : number ≡ job = contains-one number job in_one in
          subst (λ (n : ℕ). is_absent (with_entry row number result) n ≡ false) same
          (there-now row number result (subst (λ (n : ℕ). n < length row.entries) (sym same) within));
      kept = λ job there. other-entry row number job result
          (λ same. false≢true (sym there ∙ ap (λ (n : ℕ). is_absent row n) same ∙ absent));
      others = λ job out. other-entry row number job result
          (λ same. out (subst (λ (n : ℕ). Contains (number ∷ []) n) (sym same) (Contains-push [] number)));
      its = its-one;
      collected = refl;
      same_length = length-set row.entries number (Some result);
    }

    left-one : is_absent row number ≡ false → IsFilled belongs (number ∷ []) row row
    left-one there = record {
      there = λ job in_one within. subst (λ (n : ℕ). is_absent row n ≡ false) (contains-one number job in_one) there;
      kept = λ job kept. refl;
      others = λ job out. refl;
      its = λ job found is. inl is;
      collected = refl;
      same_length = refl;
    }

    filled-one : IsFilled belongs (number ∷ []) row (with_absent_entry row number result)
    filled-one = by (is_absent row number) refl
      where
        by : (b : Bool) → is_absent row number ≡ b → IsFilled belongs (number ∷ []) row (cond b (with_entry row number result) row)
        by true is = set-one is
        by false is = left-one is

  -- one after the other
  filled-join : (belongs : ℕ → JobResult T C → Type 0) (first second : List ℕ) (before mid after : Row T C) → IsFilled belongs first before mid → IsFilled belongs second mid after →
      IsFilled belongs (first ++ second) before after
  filled-join belongs first second before mid after a b = record {
    there = λ job in_both within. elim (Contains-append_cases first second job in_both) [
      | inl in_first ↦
          let there : is_absent mid job ≡ false = a.there job in_first within in
          absent-same mid after job (b.kept job there) b.collected ∙ there
      | inr in_second ↦ b.there job in_second (subst (λ (n : ℕ). job < n) (sym a.same_length) within)
    ];
    kept = λ job there.
        let still : is_absent mid job ≡ false = absent-same before mid job (a.kept job there) a.collected ∙ there in
        b.kept job still ∙ a.kept job there;
    others = λ job out.
        b.others job (λ in_second. out (Contains-append_right first second job in_second))
        ∙ a.others job (λ in_first. out (Contains-append_left first second job in_first));
    its = λ job result is. elim (b.its job result is) [
      | inl before_that ↦ a.its job result before_that
      | inr belonging ↦ inr belonging
    ];
    collected = b.collected ∙ a.collected;
    same_length = b.same_length ∙ a.same_length;
  }

  -- ---- a row that may be told

  fills-none : (belongs : ℕ → JobResult T C → Type 0) (told : Option (Row T C)) → Fills belongs [] told told
  fills-none belongs None = tt
  fills-none belongs (Some row) = filled-none belongs row

  fills-one : (belongs : ℕ → JobResult T C → Type 0) (number : ℕ) (result : JobResult T C) (told after : Option (Row T C)) → belongs number result →
      after ≡ option_map (λ row. with_absent_entry row number result) told → Fills belongs (number ∷ []) told after
  fills-one belongs number result None after its is = tt
  fills-one belongs number result (Some row) after its is =
      subst (λ (seen : Option (Row T C)). Fills belongs (number ∷ []) (Some row) seen) (sym is) (filled-one belongs row number result its)

  fills-join : (belongs : ℕ → JobResult T C → Type 0) (first second : List ℕ) (before mid after : Option (Row T C)) → Fills belongs first before mid → Fills belongs second mid after →
      Fills belongs (first ++ second) before after
  fills-join belongs first second None mid after a b = tt
  fills-join belongs first second (Some before) None after a b = absurd a
  fills-join belongs first second (Some before) (Some mid) None a b = absurd b
  fills-join belongs first second (Some before) (Some mid) (Some after) a b = filled-join belongs first second before mid after a b

-- ---- a worker on its way

-- the pass was given these numbers, and their entries are set
pub record IsWorking {T C : Type 0} (belongs : ℕ → JobResult T C → Type 0) (before now : Passing) (told seen : Option (Row T C)) : Type 0 where
  pub numbers : List ℕ
  pub pass : now ≡ record before { part = record before.part { popped = before.part.popped ++ numbers } }
  pub fills : Fills belongs numbers told seen

pub working-none : {T C : Type 0} (belongs : ℕ → JobResult T C → Type 0) (before : Passing) (told : Option (Row T C)) → IsWorking belongs before before told told
working-none belongs before told = record {
  numbers = [];
  pass = ap (λ (l : List ℕ). record before { part = record before.part { popped = l } }) (sym (append-nil before.part.popped));
  fills = fills-none belongs told;
}

pub working-more : {T C : Type 0} (belongs : ℕ → JobResult T C → Type 0) (before now next : Passing) (told seen later : Option (Row T C)) (number : ℕ) (result : JobResult T C) →
    IsWorking belongs before now told seen → next ≡ after_pop now (Some number) → belongs number result →
    later ≡ option_map (λ row. with_absent_entry row number result) seen → IsWorking belongs before next told later
working-more belongs before now next told seen later number result working popped its is = record {
  numbers = working.numbers ++ number ∷ [];
  pass = popped
      ∙ ap (λ (p : Passing). after_pop p (Some number)) working.pass
      ∙ ap (λ (l : List ℕ). record before { part = record before.part { popped = l } }) (append_assoc before.part.popped working.numbers (number ∷ []));
  fills = fills-join belongs working.numbers (number ∷ []) told seen later working.fills (fills-one belongs number result seen later its is);
}
