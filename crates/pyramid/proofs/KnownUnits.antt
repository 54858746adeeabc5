-- What is known begins the plan, and stays, whatever is accepted and decided later.
use Rattle.std.proofs.Common.{◌≡◌, ℕ, ◌+◌, ◌-◌, ◌*◌, ◌^◌, ◌<◌, ◌≤◌, Bool, true, false, cond, eqb, ltb, ◌⊎◌, inl, inr, List, [], ◌∷◌, ◌++◌, map, refl, sym, ap, ap₂, ◌∙◌, subst, append_assoc, append-nil, arith, zero, suc}
use Rattle.std.specs.Prelude.{take_while}
use Rattle.std.specs.List.{flat_map, range_with_len}
use Rattle.std.proofs.lemmas.Bool.{cases_lt, cases_eq, cond-true, cond-false, lt-ltb, le-ltb, ltb-true, eq-eqb, ne_eqb}
use Rattle.std.proofs.lemmas.List.FromFn.{map-range_with_len_more}
use Rattle.std.proofs.lemmas.Nat.{pow_pos}
use Rattle.pyramid.specs.declared.command.Command.{Command}
use Rattle.pyramid.specs.Begins.{Begins}
use Rattle.pyramid.specs.Gop.{within, group, groups, group_count}
use Rattle.pyramid.specs.Known.{CodingUnit, group_needs, group_unit, key_unit, first_unit, units_after, units, known, AreUndecided}
use Rattle.pyramid.specs.Numbers.{Numbers, ahead}
use Rattle.pyramid.specs.Plan.{key_above, start_after, starts_from, gop_at, plan}
use Rattle.pyramid.specs.Positions.{row_position}
use Rattle.pyramid.specs.RowCommand.{key_of, command_of}
use Rattle.pyramid.specs.Rows.{rows, HasTable, is_row}
use Rattle.pyramid.proofs.Fronts.{begins_nothing, begins_then, begins_more, begins_joined, flat_map-append, take_while-begins, take_while-no, take_while-passes, passing-begins, passing-behind, passing-stops, passing-range}
use Rattle.pyramid.proofs.GroupCount.{groups_enough, group_within}
use Rattle.pyramid.proofs.Lists.{all_weaker, filter_all}
use Rattle.pyramid.proofs.PlanSteps.{start_after-later, starts_from-done, starts_from-one}
use Rattle.pyramid.proofs.Tables.{fits, table}

-- a key above the start stays the first one, and where there is none, the further ones decide
record FirstStays (keys : List ℕ) (start key : ℕ) : Type 0 where
  here : (frames : ℕ) → key_above frames keys start ≡ key
  further : (frames : ℕ) (more : List ℕ) → key_above frames (keys ++ more) start ≡ key

record NoneAbove (keys : List ℕ) (start : ℕ) : Type 0 where
  here : (frames : ℕ) → key_above frames keys start ≡ frames
  further : (frames : ℕ) (more : List ℕ) → key_above frames (keys ++ more) start ≡ key_above frames more start

first_key : (keys : List ℕ) (start : ℕ) → ((key : ℕ) × FirstStays keys start key) ⊎ NoneAbove keys start
first_key [] start = inr (record { here = λ frames. refl; further = λ frames more. refl })
first_key (key ∷ keys) start = by_test (ltb start key) refl (first_key keys start)
  where
    by_test : (t : Bool) → ltb start key ≡ t → ((k : ℕ) × FirstStays keys start k) ⊎ NoneAbove keys start → ((k : ℕ) × FirstStays (key ∷ keys) start k) ⊎ NoneAbove (key ∷ keys) start
    by_test true e rest = inl (
      key,
      record {
        here = λ frames. cond-true (ltb start key) key (key_above frames keys start) e;
        further = λ frames more. cond-true (ltb start key) key (key_above frames (keys ++ more) start) e;
      },
    )
    by_test false e (inl found) = inl (
      found.0,
      record {
        here = λ frames. cond-false (ltb start key) key (key_above frames keys start) e ∙ found.1.here frames;
        further = λ frames more. cond-false (ltb start key) key (key_above frames (keys ++ more) start) e ∙ found.1.further frames more;
      },
    )
    by_test false e (inr none) = inr (record {
      here = λ frames. cond-false (ltb start key) key (key_above frames keys start) e ∙ none.here frames;
      further = λ frames more. cond-false (ltb start key) key (key_above frames (keys ++ more) start) e ∙ none.further frames more;
    })

undecided-key : (numbers : Numbers) (frames later start : ℕ) (more : List ℕ) → frames ≤ later → AreUndecided numbers frames more → frames ≤ key_above later more start + ahead numbers
undecided-key numbers frames later start [] h undecided = omega arith
undecided-key numbers frames later start (key ∷ more) h undecided =
    by_test (ltb start key) (undecided 0 key (omega arith)) (undecided-key numbers frames later start more h (λ k d low. undecided (suc k) d (omega arith)))
  where
    by_test : (t : Bool) → frames ≤ key + ahead numbers → frames ≤ key_above later more start + ahead numbers → frames ≤ cond t key (key_above later more start) + ahead numbers
    by_test true first rest = first
    by_test false first rest = rest

-- a moment and a later one
module _ (numbers : Numbers) (interval frames later : ℕ) (keys more : List ℕ) (has : HasTable numbers.depth) (some : 1 ≤ interval) (on : frames ≤ later) (undecided : AreUndecided numbers frames more) where
  abbrev next_of : ℕ → ℕ
  next_of start = start_after interval frames keys start

  abbrev later_next : ℕ → ℕ
  later_next start = start_after interval later (keys ++ more) start

  -- a start that is decided stays
  pub same-next : (start : ℕ) → next_of start + ahead numbers ≤ frames → later_next start ≡ next_of start
  same-next start decided = elim (first_key keys start) [
    | inl found ↦ omega (arith, found.1.here frames, found.1.further later more)
    | inr none ↦ omega (arith, none.here frames, none.further later more, undecided-key numbers frames later start more on undecided)
  ]

  -- and no start comes into what is decided
  pub apart-next : (start last : ℕ) → last + ahead numbers < frames → last < next_of start → last < later_next start
  apart-next start last decided below = elim (first_key keys start) [
    | inl found ↦ omega (arith, found.1.here frames, found.1.further later more)
    | inr none ↦ omega (arith, none.here frames, none.further later more, undecided-key numbers frames later start more on undecided)
  ]

  -- a group whose positions are all within the GOP has all rows
  whole-group : (start length number : ℕ) → 2 ^ numbers.depth * (number + 1) < length → group numbers start length number ≡ map (command_of numbers start number) (rows numbers.depth)
  whole-group start length number h =
      let all = all_weaker (is_row numbers.depth) (λ r. ltb (row_position numbers number r) length) (λ r passes. let f = fits numbers.depth r passes in lt-ltb (row_position numbers number r) length (omega (arith, f.within))) (rows numbers.depth) (table numbers.depth has).all in
      ap (map (command_of numbers start number)) (filter_all (λ r. ltb (row_position numbers number r) length) (rows numbers.depth) all)

  -- a known group is there later, and the same
  same-group : (start number : ℕ) → start < frames → number < group_count numbers (next_of start - start) → group_needs numbers start number < frames → (number < group_count numbers (later_next start - start)) × (group_unit numbers start (next_of start - start) number ≡ group_unit numbers start (later_next start - start) number)
  same-group start number within there is_known =
      let inputs = 2 ^ numbers.depth in
      let last = start + inputs * (number + 1) in
      let unit : ℕ → CodingUnit = λ length. group_unit numbers start length number in
      let P : ℕ → Type 0 = λ next. (number < group_count numbers (next - start)) × (unit (next_of start - start) ≡ unit (next - start)) in
      elim (cases_lt last (next_of start)) [
        | inl below ↦
            let below_later = apart-next start last (omega arith) below in
            let here = whole-group start (next_of start - start) number (omega arith) in
            let there = whole-group start (later_next start - start) number (omega arith) in
            let commands : List Command → CodingUnit = λ cs. record { needs = group_needs numbers start number; commands = cs } in
            let positive = pow_pos numbers.depth in
            (group_within numbers (later_next start - start) number (omega arith), ap commands (here ∙ sym there))
        | inr above ↦ subst P (sym (same-next start (omega arith))) (there, refl)
      ]

  abbrev is_known : CodingUnit → Bool
  is_known unit = ltb unit.needs frames

  abbrev from : ℕ → ℕ → List CodingUnit
  from count start = flat_map (units_after numbers interval frames keys) (starts_from interval frames keys count start)

  abbrev later_from : ℕ → ℕ → List CodingUnit
  later_from count start = flat_map (units_after numbers interval later (keys ++ more)) (starts_from interval later (keys ++ more) count start)

  abbrev groups_to : ℕ → ℕ → List CodingUnit
  groups_to start next = map (group_unit numbers start (next - start)) (range_with_len 0 (group_count numbers (next - start)))

  abbrev keys_at : ℕ → ℕ → ℕ → List CodingUnit
  keys_at start next end = cond (ltb next end) (key_unit numbers start (group_count numbers (next - start)) next ∷ []) []

  -- a key whose place isn't decided isn't known, nor is what follows
  undecided-stops : (start count : ℕ) → start < frames → frames < next_of start + ahead numbers → take_while is_known (keys_at start (next_of start) frames ++ from count (next_of start)) ≡ []
  undecided-stops start count within unsettled = elim (cases_lt (next_of start) frames) [
    | inl inside ↦
        let unit = key_unit numbers start (group_count numbers (next_of start - start)) (next_of start) in
        let enough = groups_enough numbers (next_of start - start) in
        let after = start_after-later interval frames keys start some within in
        let positive = pow_pos numbers.depth in
        let late : frames ≤ unit.needs = omega arith in
        ap (λ (b : Bool). take_while is_known (cond b (unit ∷ []) [] ++ from count (next_of start))) (lt-ltb (next_of start) frames inside)
        ∙ take_while-no is_known unit (from count (next_of start)) (le-ltb unit.needs frames late)
    | inr past ↦
        let unit = key_unit numbers start (group_count numbers (next_of start - start)) (next_of start) in
        ap (λ (b : Bool). take_while is_known (cond b (unit ∷ []) [] ++ from count (next_of start))) (le-ltb (next_of start) frames past)
        ∙ ap (λ (s : List ℕ). take_while is_known (flat_map (units_after numbers interval frames keys) s)) (starts_from-done interval frames keys count (next_of start) past)
  ]

  known-walk : (count more_count start : ℕ) → start < frames → frames ≤ start + count → later ≤ start + more_count → Begins (take_while is_known (from count start)) (later_from more_count start)
  known-walk zero more_count start within enough later_enough = absurd (omega arith)
  known-walk (suc count) zero start within enough later_enough = absurd (omega arith)
  known-walk (suc count) (suc more_count) start within enough later_enough =
      let next = next_of start in
      let after = start_after-later interval frames keys start some within in
      let P : List ℕ → List ℕ → Type 0 = λ here there. Begins (take_while is_known (flat_map (units_after numbers interval frames keys) here)) (flat_map (units_after numbers interval later (keys ++ more)) there) in
      let both : P (start ∷ starts_from interval frames keys count next) (start ∷ starts_from interval later (keys ++ more) more_count (later_next start)) =
      elim (cases_lt frames (next + ahead numbers)) [
        | inl unsettled ↦
            let stops : take_while is_known ((groups_to start next ++ keys_at start next frames) ++ from count next) ≡ take_while is_known (groups_to start next) = ap (take_while is_known) (append_assoc (groups_to start next) (keys_at start next frames) (from count next)) ∙ passing-stops is_known (groups_to start next) (keys_at start next frames ++ from count next) (undecided-stops start count within unsettled) in
            let range = passing-range is_known (group_unit numbers start (next - start)) (group_unit numbers start (later_next start - start)) 0 (group_count numbers (next - start)) (group_count numbers (later_next start - start))
            (λ k above below passes.
            let there = same-group start k within (omega arith) (ltb-true (group_needs numbers start k) frames passes) in
            (omega (arith, there.0), there.1)) in
            let all = begins_more (take_while is_known (groups_to start next)) (groups_to start (later_next start) ++ keys_at start (later_next start) later) (later_from more_count (later_next start))
            (begins_more (take_while is_known (groups_to start next)) (groups_to start (later_next start)) (keys_at start (later_next start) later) range) in
            subst (λ (front : List CodingUnit). Begins front ((groups_to start (later_next start) ++ keys_at start (later_next start) later) ++ later_from more_count (later_next start))) (sym stops) all
        | inr decided ↦
            let same = same-next start decided in
            let inside : next < frames = omega arith in
            let here : ℕ → ℕ → List CodingUnit = λ n end. groups_to start n ++ keys_at start n end in
            let rest = known-walk count more_count next inside (omega arith) (omega arith) in
            let key = key_unit numbers start (group_count numbers (next - start)) next in
            let with_key : List CodingUnit = groups_to start next ++ (key ∷ []) in
            let now : here next frames ≡ with_key = ap (λ (b : Bool). groups_to start next ++ cond b (key ∷ []) []) (lt-ltb next frames inside) in
            let then : here (later_next start) later ++ later_from more_count (later_next start) ≡ with_key ++ later_from more_count next =
            ap (λ (n : ℕ). here n later ++ later_from more_count n) same ∙ ap (λ (b : Bool). (groups_to start next ++ cond b (key ∷ []) []) ++ later_from more_count next) (lt-ltb next later (omega arith)) in
            let begins = passing-behind is_known with_key (from count next) (later_from more_count next) rest in
            let front : take_while is_known (with_key ++ from count next) ≡ take_while is_known (here next frames ++ from count next) = ap (λ (s : List CodingUnit). take_while is_known (s ++ from count next)) (sym now) in
            subst (λ (s : List CodingUnit). Begins s (here (later_next start) later ++ later_from more_count (later_next start))) front
            (subst (λ (s : List CodingUnit). Begins (take_while is_known (with_key ++ from count next)) s) (sym then) begins)
      ] in
      subst (λ (here : List ℕ). P here (starts_from interval later (keys ++ more) (suc more_count) start)) (sym (starts_from-one interval frames keys count start within))
      (subst (λ (there : List ℕ). P (start ∷ starts_from interval frames keys count next) there) (sym (starts_from-one interval later (keys ++ more) more_count start (omega arith))) both)

  units-begin : Begins (take_while is_known (units numbers interval frames keys)) (units numbers interval later (keys ++ more))
  units-begin = elim (cases_eq frames 0) [
    | inl none ↦
        let nothing : units numbers interval frames keys ≡ [] = cond-true (eqb frames 0) [] (first_unit numbers ∷ from frames 0) (eq-eqb frames 0 none) in
        subst (λ (s : List CodingUnit). Begins (take_while is_known s) (units numbers interval later (keys ++ more))) (sym nothing) (begins_nothing (units numbers interval later (keys ++ more)))
    | inr exist ↦
        let here : units numbers interval frames keys ≡ first_unit numbers ∷ from frames 0 = cond-false (eqb frames 0) [] (first_unit numbers ∷ from frames 0) (ne_eqb frames 0 exist) in
        let there : units numbers interval later (keys ++ more) ≡ first_unit numbers ∷ later_from later 0 = cond-false (eqb later 0) [] (first_unit numbers ∷ later_from later 0) (ne_eqb later 0 (λ e. exist (omega arith))) in
        let positive : 0 < frames = omega arith in
        let begins = passing-behind is_known (first_unit numbers ∷ []) (from frames 0) (later_from later 0) (known-walk frames later 0 positive (omega arith) (omega arith)) in
        subst (λ (s : List CodingUnit). Begins (take_while is_known s) (units numbers interval later (keys ++ more))) (sym here)
        (subst (λ (s : List CodingUnit). Begins (take_while is_known (first_unit numbers ∷ from frames 0)) s) (sym there) begins)
  ]

  pub known-stays : Begins (known numbers interval frames keys) (known numbers interval later (keys ++ more))
  known-stays =
      let front = take_while is_known (units numbers interval frames keys) in
      let passes = all_weaker is_known (λ unit. ltb unit.needs later) (λ unit h. let low = ltb-true unit.needs frames h in lt-ltb unit.needs later (omega arith)) front (take_while-passes is_known (units numbers interval frames keys)) in
      begins_joined (λ unit. unit.commands) front (take_while (λ unit. ltb unit.needs later) (units numbers interval later (keys ++ more)))
      (passing-begins (λ unit. ltb unit.needs later) front (units numbers interval later (keys ++ more)) passes units-begin)

-- the units of a plan make the plan
groups-joined : (numbers : Numbers) (start length count : ℕ) → flat_map (λ (unit : CodingUnit). unit.commands) (map (group_unit numbers start length) (range_with_len 0 count)) ≡ groups numbers start length count
groups-joined numbers start length zero = refl
groups-joined numbers start length (suc count) =
    let commands : CodingUnit → List Command = λ unit. unit.commands in
    let one_more : suc count ≡ count + 1 = omega arith in
    ap (λ (n : ℕ). flat_map commands (map (group_unit numbers start length) (range_with_len 0 n))) one_more
    ∙ ap (flat_map commands) (map-range_with_len_more (group_unit numbers start length) 0 count count (omega arith))
    ∙ flat_map-append commands (map (group_unit numbers start length) (range_with_len 0 count)) (group_unit numbers start length count ∷ [])
    ∙ ap₂ (λ (before last : List Command). before ++ last) (groups-joined numbers start length count) (append-nil (group numbers start length count))

module _ (numbers : Numbers) (interval frames : ℕ) (keys : List ℕ) (some : 1 ≤ interval) where
  abbrev joined : List CodingUnit → List Command
  joined = flat_map (λ (unit : CodingUnit). unit.commands)

  abbrev units_from : ℕ → ℕ → List CodingUnit
  units_from count start = flat_map (units_after numbers interval frames keys) (starts_from interval frames keys count start)

  abbrev gops_from : ℕ → ℕ → List Command
  gops_from count start = flat_map (gop_at numbers interval frames keys) (starts_from interval frames keys count start)

  units-walk : (count start : ℕ) → start < frames → frames ≤ start + count → key_of start ∷ joined (units_from count start) ≡ gops_from count start
  units-walk zero start within enough = absurd (omega arith)
  units-walk (suc count) start within enough =
      let next = start_after interval frames keys start in
      let after = start_after-later interval frames keys start some within in
      let length = next - start in
      let all = groups numbers start length (group_count numbers length) in
      let units_of = map (group_unit numbers start length) (range_with_len 0 (group_count numbers length)) in
      let key = key_unit numbers start (group_count numbers length) next in
      let last : Bool → List CodingUnit = λ b. cond b (key ∷ []) [] in
      let split : joined ((units_of ++ last (ltb next frames)) ++ units_from count next) ≡ all ++ joined (last (ltb next frames) ++ units_from count next) =
      ap joined (append_assoc units_of (last (ltb next frames)) (units_from count next))
      ∙ flat_map-append (λ (unit : CodingUnit). unit.commands) units_of (last (ltb next frames) ++ units_from count next)
      ∙ ap (λ (s : List Command). s ++ joined (last (ltb next frames) ++ units_from count next)) (groups-joined numbers start length (group_count numbers length)) in
      let rest : joined (last (ltb next frames) ++ units_from count next) ≡ gops_from count next =
      elim (cases_lt next frames) [
        | inl inside ↦ ap (λ (b : Bool). joined (last b ++ units_from count next)) (lt-ltb next frames inside) ∙ units-walk count next inside (omega arith)
        | inr past ↦
            ap (λ (b : Bool). joined (last b ++ units_from count next)) (le-ltb next frames past)
            ∙ ap (λ (s : List ℕ). joined (flat_map (units_after numbers interval frames keys) s)) (starts_from-done interval frames keys count next past)
            ∙ ap (flat_map (gop_at numbers interval frames keys)) (sym (starts_from-done interval frames keys count next past))
      ] in
      ap (λ (s : List ℕ). key_of start ∷ joined (flat_map (units_after numbers interval frames keys) s)) (starts_from-one interval frames keys count start within)
      ∙ ap (λ (s : List Command). key_of start ∷ s) (split ∙ ap (λ (s : List Command). all ++ s) rest)
      ∙ sym (ap (flat_map (gop_at numbers interval frames keys)) (starts_from-one interval frames keys count start within))

  pub units-plan : joined (units numbers interval frames keys) ≡ plan numbers interval frames keys
  units-plan = elim (cases_eq frames 0) [
    | inl none ↦
        ap joined (cond-true (eqb frames 0) [] (first_unit numbers ∷ units_from frames 0) (eq-eqb frames 0 none))
        ∙ ap (flat_map (gop_at numbers interval frames keys)) (sym (starts_from-done interval frames keys frames 0 (omega arith)))
    | inr exist ↦
        ap joined (cond-false (eqb frames 0) [] (first_unit numbers ∷ units_from frames 0) (ne_eqb frames 0 exist)) ∙ units-walk frames 0 (omega arith) (omega arith)
  ]

  -- what is known begins it
  pub known-begins : Begins (known numbers interval frames keys) (plan numbers interval frames keys)
  known-begins =
      let is_known : CodingUnit → Bool = λ unit. ltb unit.needs frames in
      let all = units numbers interval frames keys in
      subst (λ (s : List Command). Begins (known numbers interval frames keys) s) units-plan
      (begins_joined (λ (unit : CodingUnit). unit.commands) (take_while is_known all) all (take_while-begins is_known all))

-- and every later one
pub known-begins_later : (numbers : Numbers) (interval frames later : ℕ) (keys more : List ℕ) → HasTable numbers.depth → 1 ≤ interval → frames ≤ later → AreUndecided numbers frames more → Begins (known numbers interval frames keys) (plan numbers interval later (keys ++ more))
known-begins_later numbers interval frames later keys more has some on undecided =
    begins_then (known numbers interval frames keys) (known numbers interval later (keys ++ more)) (plan numbers interval later (keys ++ more)) (known-stays numbers interval frames later keys more has some on undecided) (known-begins numbers interval later (keys ++ more) some)
