-- Building a plan's units one after the other.
use Rattle.std.proofs.Common.{◌≡◌, ℕ, ◌+◌, ◌-◌, ◌*◌, ◌^◌, ◌<◌, ◌≤◌, min, Bool, true, false, cond, eqb, ltb, ◌||◌, ◌&&◌, inl, inr, List, [], ◌∷◌, ◌++◌, map, refl, sym, ap, ap₂, ◌∙◌, subst, append_assoc, append-nil, arith, suc}
use Rattle.std.specs.Prelude.{take_while}
use Rattle.std.specs.List.{flat_map, list_all, range_with_len}
use Rattle.std.proofs.lemmas.Bool.{cases_lt, cases_Bool, cond-true, cond-false, lt-ltb, le-ltb, ltb-true, ltb-false, eq-eqb, ne_eqb, and_parts, and_from, or_cases, or_left, or_right, true≢false}
use Rattle.std.proofs.lemmas.Nat.{pow_pos}
use Rattle.pyramid.specs.declared.place.Place.{Place}
use Rattle.pyramid.specs.declared.spot.Spot.{Spot}
use Rattle.pyramid.specs.Building.{opening_spot, unit_left, needs_at, unit_to, spot_to, due_to, next_of, Walk, AreKeysFrom}
use Rattle.pyramid.specs.Gop.{group_count}
use Rattle.pyramid.specs.Known.{group_needs, AreUndecided}
use Rattle.pyramid.specs.Numbers.{Numbers, ahead}
use Rattle.pyramid.specs.Places.{PlacedUnit, placed_group, placed_key, placed_first, placed_after, placed_units, places_of, row_place, settled_places}
use Rattle.pyramid.specs.Plan.{key_above, start_after, starts, starts_from}
use Rattle.pyramid.specs.Positions.{row_position}
use Rattle.pyramid.specs.Rows.{rows, HasTable, is_row}
use Rattle.pyramid.proofs.Fronts.{take_while-yes, take_while-no}
use Rattle.pyramid.proofs.GroupCount.{group_within}
use Rattle.pyramid.proofs.KnownUnits.{same-next, apart-next}
use Rattle.pyramid.proofs.Lists.{all_weaker}
use Rattle.pyramid.proofs.PlacedUnits.{whole-rows}
use Rattle.pyramid.proofs.PlanSteps.{starts_from-done, starts_left, starts_left-more}
use Rattle.pyramid.proofs.Tables.{fits, table}

-- ---- keys

pub key_above-append : (frames : ℕ) (xs ys : List ℕ) (start : ℕ) → key_above frames (xs ++ ys) start ≡ key_above (key_above frames ys start) xs start
key_above-append frames [] ys start = refl
key_above-append frames (x ∷ xs) ys start = ap (λ (n : ℕ). cond (ltb start x) x n) (key_above-append frames xs ys start)

-- one more key, above the start
pub keys-push : (start : ℕ) (left keys : List ℕ) (key : ℕ) → AreKeysFrom start left keys → AreKeysFrom start (left ++ key ∷ []) (keys ++ key ∷ [])
keys-push start left keys key are frames later h =
    key_above-append frames left (key ∷ []) later ∙ are (key_above frames (key ∷ []) later) later h ∙ sym (key_above-append frames keys (key ∷ []) later)

-- and not above it
pub keys-skip : (start : ℕ) (left keys : List ℕ) (key : ℕ) → key ≤ start → AreKeysFrom start left keys → AreKeysFrom start left (keys ++ key ∷ [])
keys-skip start left keys key low are frames later h =
    let none : key_above frames (key ∷ []) later ≡ frames = cond-false (ltb later key) key frames (le-ltb later key (omega arith)) in
    are frames later h ∙ ap (λ (n : ℕ). key_above n keys later) (sym none) ∙ sym (key_above-append frames keys (key ∷ []) later)

pub next-same : (interval frames start : ℕ) (left keys : List ℕ) → AreKeysFrom start left keys → start_after interval frames left start ≡ start_after interval frames keys start
next-same interval frames start left keys are =
    ap (λ (n : ℕ). min n (min (start + interval) frames)) (are frames start (omega arith))

-- ---- the units that are left

module _ (numbers : Numbers) (interval : ℕ) (some : 1 ≤ interval) (frames : ℕ) (keys : List ℕ) where
  abbrev groups_from : ℕ → ℕ → ℕ → List PlacedUnit
  groups_from start next number = map (placed_group numbers start (next - start)) (range_with_len number (group_count numbers (next - start) - number))

  abbrev key_from : ℕ → ℕ → List PlacedUnit
  key_from start next = cond (ltb next frames) (placed_key numbers start (group_count numbers (next - start)) next ∷ []) []

  abbrev gops_from : ℕ → List PlacedUnit
  gops_from start = flat_map (placed_after numbers interval frames keys) (starts_left interval frames keys start)

  abbrev next_at : ℕ → ℕ
  next_at start = start_after interval frames keys start

  abbrev left_at : Bool → ℕ → ℕ → List PlacedUnit
  left_at true start number = groups_from start (next_at start) number ++ (key_from start (next_at start) ++ gops_from (next_at start))
  left_at false start number = placed_units numbers interval frames keys

  -- the units from a spot on
  abbrev left_of : Spot → List PlacedUnit
  left_of spot = left_at spot.begun spot.start spot.number

  -- where a spot can be
  abbrev Stands : Bool → ℕ → ℕ → Type 0
  Stands true start number = (start < frames) × (number ≤ group_count numbers (next_at start - start))
  Stands false start number = (start ≡ 0) × (number ≡ 0)

  abbrev IsSpot : Spot → Type 0
  IsSpot spot = Stands spot.begun spot.start spot.number

  gops-more : (start : ℕ) → start < frames → gops_from start ≡ groups_from start (next_at start) 0 ++ (key_from start (next_at start) ++ gops_from (next_at start))
  gops-more start h =
      let next = next_at start in
      let count = group_count numbers (next - start) in
      let same : count ≡ count - 0 = omega arith in
      ap (flat_map (placed_after numbers interval frames keys)) (starts_left-more interval frames keys start some h)
      ∙ append_assoc (map (placed_group numbers start (next - start)) (range_with_len 0 count)) (key_from start next) (gops_from next)
      ∙ ap (λ (n : ℕ). map (placed_group numbers start (next - start)) (range_with_len 0 n) ++ (key_from start next ++ gops_from next)) same

  abbrev spot_at : Bool → ℕ → ℕ → Spot
  spot_at begun start number = record { begun = begun; start = start; number = number }

  -- one unit more
  left-step : (begun : Bool) (start number : ℕ) → Stands begun start number → unit_left numbers frames (next_at start) (spot_at begun start number) ≡ true →
      (left_at begun start number ≡ unit_to numbers (next_at start) (spot_at begun start number) ∷ left_of (spot_to numbers (next_at start) (spot_at begun start number)))
      × IsSpot (spot_to numbers (next_at start) (spot_at begun start number))
  left-step false start number stands h = (
    subst (λ (s : ℕ). placed_units numbers interval frames keys ≡ placed_first numbers ∷ left_at true s number) (sym stands.0)
        (subst (λ (n : ℕ). placed_units numbers interval frames keys ≡ placed_first numbers ∷ left_at true 0 n) (sym stands.1) whole),
    (omega (arith, positive, stands.0), omega (arith, stands.1)),
  )
    where
      positive : 0 < frames
      positive = ltb-true 0 frames h

      whole : placed_units numbers interval frames keys ≡ placed_first numbers ∷ left_at true 0 0
      whole =
          let none : frames ≡ frames - 0 = omega arith in
          cond-false (eqb frames 0) [] (placed_first numbers ∷ flat_map (placed_after numbers interval frames keys) (starts interval frames keys)) (ne_eqb frames 0 (λ e. omega (arith, positive)))
          ∙ ap (λ (us : List PlacedUnit). placed_first numbers ∷ us)
          (ap (λ (n : ℕ). flat_map (placed_after numbers interval frames keys) (starts_from interval frames keys n 0)) none ∙ gops-more 0 positive)
  left-step true start number stands h = by (ltb number (group_count numbers (next_at start - start))) refl
    where
      there : ltb number (group_count numbers (next_at start - start)) ≡ false → next_at start < frames
      there e =
          let parts = and_parts (ltb start frames) (ltb number (group_count numbers (next_at start - start)) || ltb (next_at start) frames) h in
          elim (or_cases (ltb number (group_count numbers (next_at start - start))) (ltb (next_at start) frames) parts.1) [
            | inl there_is ↦ absurd (true≢false (sym there_is ∙ e))
            | inr below ↦ ltb-true (next_at start) frames below
          ]

      by : (b : Bool) → ltb number (group_count numbers (next_at start - start)) ≡ b →
          (left_at true start number ≡ cond b (placed_group numbers start (next_at start - start) number) (placed_key numbers start number (next_at start)) ∷ left_of (cond b (spot_at true start (number + 1)) (spot_at true (next_at start) 0)))
          × IsSpot (cond b (spot_at true start (number + 1)) (spot_at true (next_at start) 0))
      by true e =
          let next = next_at start in
          let count = group_count numbers (next - start) in
          let low : number < count = ltb-true number count e in
          let more : count - number ≡ suc (count - (number + 1)) = omega arith in (
            ap (λ (n : ℕ). map (placed_group numbers start (next - start)) (range_with_len number n) ++ (key_from start next ++ gops_from next)) more,
            (stands.0, omega arith),
          )
      by false e =
          let next = next_at start in
          let count = group_count numbers (next - start) in
          let high : count ≤ number = ltb-false number count e in
          let all : count ≡ number = omega (arith, stands.1) in
          let none : count - number ≡ 0 = omega arith in
          let below = there e in (
            ap (λ (n : ℕ). map (placed_group numbers start (next - start)) (range_with_len number n) ++ (key_from start next ++ gops_from next)) none
                ∙ ap (λ (b : Bool). cond b (placed_key numbers start count next ∷ []) [] ++ gops_from next) (lt-ltb next frames below)
                ∙ ap (λ (n : ℕ). placed_key numbers start n next ∷ gops_from next) all
                ∙ ap (λ (us : List PlacedUnit). placed_key numbers start number next ∷ us) (gops-more next below),
            (below, omega arith),
          )

  -- and none
  left-end : (begun : Bool) (start number : ℕ) → Stands begun start number → unit_left numbers frames (next_at start) (spot_at begun start number) ≡ false → left_at begun start number ≡ []
  left-end false start number stands h =
      let none : frames ≡ 0 = omega (arith, ltb-false 0 frames h) in
      cond-true (eqb frames 0) [] (placed_first numbers ∷ flat_map (placed_after numbers interval frames keys) (starts interval frames keys)) (eq-eqb frames 0 none)
  left-end true start number stands h =
      let next = next_at start in
      let count = group_count numbers (next - start) in
      let neither : (ltb number count || ltb next frames) ≡ false = ap (λ (b : Bool). b && (ltb number count || ltb next frames)) (sym (lt-ltb start frames stands.0)) ∙ h in
      let high : count ≤ number = elim (cases_lt number count) [
        | inl low ↦ absurd (true≢false (sym (or_left (ltb number count) (ltb next frames) (lt-ltb number count low)) ∙ neither))
        | inr high ↦ high
      ] in
      let past : frames ≤ next = elim (cases_lt next frames) [
        | inl low ↦ absurd (true≢false (sym (or_right (ltb number count) (ltb next frames) (lt-ltb next frames low)) ∙ neither))
        | inr high ↦ high
      ] in
      let none : count - number ≡ 0 = omega arith in
      ap (λ (n : ℕ). map (placed_group numbers start (next - start)) (range_with_len number n) ++ (key_from start next ++ gops_from next)) none
      ∙ ap (λ (b : Bool). cond b (placed_key numbers start count next ∷ []) [] ++ gops_from next) (le-ltb next frames past)
      ∙ ap (flat_map (placed_after numbers interval frames keys)) (starts_from-done interval frames keys (frames - next) next past)

  needs-are : (begun : Bool) (start number next : ℕ) → (unit_to numbers next (spot_at begun start number)).needs ≡ needs_at numbers (spot_at begun start number)
  needs-are false start number next = refl
  needs-are true start number next = by (ltb number (group_count numbers (next - start)))
    where
      by : (b : Bool) → (cond b (placed_group numbers start (next - start) number) (placed_key numbers start number next)).needs ≡ group_needs numbers start number
      by true = refl
      by false = refl

  module _ (flushed : Bool) where
    abbrev is_settled : PlacedUnit → Bool
    is_settled unit = flushed || ltb unit.needs frames

    -- the units of a walk are those that are left before it, behind which those are left after it
    pub walk-left : (units : List PlacedUnit) (from to : Spot) → IsSpot from → Walk numbers interval frames flushed keys from units to → (take_while is_settled (left_of from) ≡ units ++ take_while is_settled (left_of to)) × IsSpot to
    walk-left [] from to stands same = (ap (λ (s : Spot). take_while is_settled (left_of s)) same, subst IsSpot same stands)
    walk-left (unit ∷ units) from to stands walk =
        let next = next_of interval frames keys from in
        let parts = and_parts (unit_left numbers frames next from) (flushed || ltb (needs_at numbers from) frames) walk.0 in
        let step = left-step from.begun from.start from.number stands parts.0 in
        let rest = walk-left units (spot_to numbers next from) to step.1 walk.2 in
        let settled : is_settled (unit_to numbers next from) ≡ true = ap (λ (n : ℕ). flushed || ltb n frames) (needs-are from.begun from.start from.number next) ∙ parts.1 in (
          ap (take_while is_settled) step.0
              ∙ take_while-yes is_settled (unit_to numbers next from) (left_of (spot_to numbers next from)) settled
              ∙ ap₂ (λ (u : PlacedUnit) (us : List PlacedUnit). u ∷ us) (sym walk.1) rest.0,
          rest.1,
        )

    -- where none is due none is left that is known
    pub ended-left : (spot : Spot) → IsSpot spot → due_to numbers frames flushed (next_of interval frames keys spot) spot ≡ false → take_while is_settled (left_of spot) ≡ []
    ended-left spot stands ended = elim (cases_Bool (unit_left numbers frames (next_of interval frames keys spot) spot)) [
      | inl left ↦
          let next = next_of interval frames keys spot in
          let step = left-step spot.begun spot.start spot.number stands left in
          let unsettled : is_settled (unit_to numbers next spot) ≡ false =
          ap (λ (n : ℕ). flushed || ltb n frames) (needs-are spot.begun spot.start spot.number next)
          ∙ ap (λ (b : Bool). b && (flushed || ltb (needs_at numbers spot) frames)) (sym left) ∙ ended in
          ap (take_while is_settled) step.0 ∙ take_while-no is_settled (unit_to numbers next spot) (left_of (spot_to numbers next spot)) unsettled
      | inr none ↦ ap (take_while is_settled) (left-end spot.begun spot.start spot.number stands none)
    ]

    -- the places that are known are those that were built
    pub settled-walk : (units : List PlacedUnit) (spot : Spot) → Walk numbers interval frames flushed keys opening_spot units spot → due_to numbers frames flushed (next_of interval frames keys spot) spot ≡ false → settled_places numbers interval frames flushed keys ≡ places_of units
    settled-walk units spot walk ended =
        let all = walk-left units opening_spot spot (refl, refl) walk in
        ap places_of (all.0 ∙ ap (λ (us : List PlacedUnit). units ++ us) (ended-left spot all.1 ended) ∙ append-nil units)

-- ---- one walk behind another

pub walk-append : (numbers : Numbers) (interval frames : ℕ) (flushed : Bool) (keys : List ℕ) (us vs : List PlacedUnit) (from mid to : Spot) → Walk numbers interval frames flushed keys from us mid → Walk numbers interval frames flushed keys mid vs to → Walk numbers interval frames flushed keys from (us ++ vs) to
walk-append numbers interval frames flushed keys [] vs from mid to same rest = subst (λ (s : Spot). Walk numbers interval frames flushed keys s vs to) (sym same) rest
walk-append numbers interval frames flushed keys (u ∷ us) vs from mid to walk rest =
    (walk.0, walk.1, walk-append numbers interval frames flushed keys us vs (spot_to numbers (next_of interval frames keys from) from) mid to walk.2 rest)

-- ---- later moments

-- what is due stays so, and is the same unit
record Stays (numbers : Numbers) (later next then : ℕ) (flushed : Bool) (spot : Spot) : Type 0 where
  due : due_to numbers later flushed then spot ≡ true
  unit : unit_to numbers then spot ≡ unit_to numbers next spot
  spot_is : spot_to numbers then spot ≡ spot_to numbers next spot

module _ (numbers : Numbers) (interval frames later : ℕ) (keys more : List ℕ) (has : HasTable numbers.depth) (some : 1 ≤ interval) (on : frames ≤ later) (undecided : AreUndecided numbers frames more) where
  abbrev next_now : ℕ → ℕ
  next_now start = start_after interval frames keys start

  abbrev next_then : ℕ → ℕ
  next_then start = start_after interval later (keys ++ more) start

  -- a group behind which the GOP goes on is the same, however long the GOP is
  whole-group : (start length number : ℕ) → 2 ^ numbers.depth * (number + 1) < length → (a : ℕ) → 2 ^ numbers.depth * (number + 1) < a → map (row_place numbers start length number) (rows numbers.depth) ≡ map (row_place numbers start a number) (rows numbers.depth)
  whole-group start length number h a g = whole-rows numbers start length number (rows numbers.depth) (all length h) ∙ sym (whole-rows numbers start a number (rows numbers.depth) (all a g))
    where
      all : (n : ℕ) → 2 ^ numbers.depth * (number + 1) < n → list_all (λ row. ltb (row_position numbers number row) n) (rows numbers.depth) ≡ true
      all n below = all_weaker (is_row numbers.depth) (λ r. ltb (row_position numbers number r) n) (λ r passes. let f = fits numbers.depth r passes in lt-ltb (row_position numbers number r) n (omega (arith, f.within))) (rows numbers.depth) (table numbers.depth has).all

  step-stays : (flushed begun : Bool) (start number : ℕ) → due_to numbers frames false (next_now start) (record { begun = begun; start = start; number = number }) ≡ true → Stays numbers later (next_now start) (next_then start) flushed (record { begun = begun; start = start; number = number })
  step-stays flushed false start number h =
      let parts = and_parts (ltb 0 frames) (ltb (ahead numbers) frames) h in
      let enough = ltb-true (ahead numbers) frames parts.1 in
      record {
        due = and_from (ltb 0 later) (flushed || ltb (ahead numbers) later) (lt-ltb 0 later (omega arith)) (or_right flushed (ltb (ahead numbers) later) (lt-ltb (ahead numbers) later (omega arith)));
        unit = refl;
        spot_is = refl;
      }
  step-stays flushed true start number h = elim (cases_lt frames (next + ahead numbers)) [
    | inl unsettled ↦
        let below : start + 2 ^ numbers.depth * (number + 1) < next = omega (arith, enough, unsettled) in
        let below_then = apart-next numbers interval frames later keys more has some on undecided start (start + 2 ^ numbers.depth * (number + 1)) (omega (arith, enough)) below in
        let positive = pow_pos numbers.depth in
        let group_now = lt-ltb number (count next) (group_within numbers (next - start) number (omega (arith, positive, below))) in
        let group_then = lt-ltb number (count then) (group_within numbers (then - start) number (omega (arith, positive, below_then))) in
        let same = whole-group start (then - start) number (omega (arith, below_then)) (next - start) (omega (arith, below)) in
        let at : List Place → PlacedUnit = λ ps. record { needs = group_needs numbers start number; places = ps } in
        record {
          due = and_from (ltb start later && (ltb number (count then) || ltb then later)) (flushed || ltb (group_needs numbers start number) later)
              (and_from (ltb start later) (ltb number (count then) || ltb then later) (lt-ltb start later (omega (arith, within))) (or_left (ltb number (count then)) (ltb then later) group_then))
              settled;
          unit =
              cond-true (ltb number (count then)) (placed_group numbers start (then - start) number) (placed_key numbers start number then) group_then
              ∙ ap at same
              ∙ sym (cond-true (ltb number (count next)) (placed_group numbers start (next - start) number) (placed_key numbers start number next) group_now);
          spot_is =
              cond-true (ltb number (count then)) (spot_after (number + 1)) (record { begun = true; start = then; number = 0 }) group_then
              ∙ sym (cond-true (ltb number (count next)) (spot_after (number + 1)) (record { begun = true; start = next; number = 0 }) group_now);
        }
    | inr decided ↦
        let same = same-next numbers interval frames later keys more has some on undecided start decided in
        let due : due_to numbers later flushed next (spot_after number) ≡ true =
        and_from (ltb start later && (ltb number (count next) || ltb next later)) (flushed || ltb (group_needs numbers start number) later)
        (and_from (ltb start later) (ltb number (count next) || ltb next later) (lt-ltb start later (omega (arith, within))) (or_right (ltb number (count next)) (ltb next later) (lt-ltb next later (omega (arith, decided)))))
        settled in
        record {
          due = subst (λ (n : ℕ). due_to numbers later flushed n (spot_after number) ≡ true) (sym same) due;
          unit = ap (λ (n : ℕ). unit_to numbers n (spot_after number)) same;
          spot_is = ap (λ (n : ℕ). spot_to numbers n (spot_after number)) same;
        }
  ]
    where
      next : ℕ
      next = next_now start

      then : ℕ
      then = next_then start

      count : ℕ → ℕ
      count n = group_count numbers (n - start)

      spot_after : ℕ → Spot
      spot_after n = record { begun = true; start = start; number = n }

      parts : ((ltb start frames && (ltb number (group_count numbers (next_now start - start)) || ltb (next_now start) frames)) ≡ true) × (ltb (group_needs numbers start number) frames ≡ true)
      parts = and_parts (ltb start frames && (ltb number (group_count numbers (next_now start - start)) || ltb (next_now start) frames)) (ltb (group_needs numbers start number) frames) h

      enough : group_needs numbers start number < frames
      enough = ltb-true (group_needs numbers start number) frames parts.1

      within : start < frames
      within = omega (arith, enough)

      settled : (flushed || ltb (group_needs numbers start number) later) ≡ true
      settled = or_right flushed (ltb (group_needs numbers start number) later) (lt-ltb (group_needs numbers start number) later (omega (arith, enough)))

  pub walk-stays : (flushed : Bool) (units : List PlacedUnit) (from to : Spot) → Walk numbers interval frames false keys from units to → Walk numbers interval later flushed (keys ++ more) from units to
  walk-stays flushed [] from to walk = walk
  walk-stays flushed (unit ∷ units) from to walk =
      let same = step-stays flushed from.begun from.start from.number walk.0 in (
        same.due,
        walk.1 ∙ sym same.unit,
        subst (λ (s : Spot). Walk numbers interval later flushed (keys ++ more) s units to) (sym same.spot_is)
            (walk-stays flushed units (spot_to numbers (next_now from.start) from) to walk.2),
      )

-- where nothing is due, a key that isn't decided changes nothing
pub due-none : (numbers : Numbers) (interval frames : ℕ) (keys more : List ℕ) → HasTable numbers.depth → 1 ≤ interval → AreUndecided numbers frames more → (begun : Bool) (start number : ℕ) →
    due_to numbers frames false (start_after interval frames keys start) (record { begun = begun; start = start; number = number }) ≡ false →
    due_to numbers frames false (start_after interval frames (keys ++ more) start) (record { begun = begun; start = start; number = number }) ≡ false
due-none numbers interval frames keys more has some undecided false start number h = h
due-none numbers interval frames keys more has some undecided true start number h = elim (cases_Bool (due_at then)) [
  | inr none ↦ none
  | inl due ↦ absurd (true≢false (sym (back due) ∙ h))
]
  where
    next : ℕ
    next = start_after interval frames keys start

    then : ℕ
    then = start_after interval frames (keys ++ more) start

    due_at : ℕ → Bool
    due_at n = due_to numbers frames false n (record { begun = true; start = start; number = number })

    back : due_at then ≡ true → due_at next ≡ true
    back due = elim (cases_lt frames (next + ahead numbers)) [
      | inl unsettled ↦
          let below : start + 2 ^ numbers.depth * (number + 1) < next = omega (arith, enough, unsettled) in
          let positive = pow_pos numbers.depth in
          let group = lt-ltb number (group_count numbers (next - start)) (group_within numbers (next - start) number (omega (arith, positive, below))) in
          and_from (ltb start frames && (ltb number (group_count numbers (next - start)) || ltb next frames)) (ltb (group_needs numbers start number) frames)
          (and_from (ltb start frames) (ltb number (group_count numbers (next - start)) || ltb next frames) (lt-ltb start frames (omega (arith, enough))) (or_left (ltb number (group_count numbers (next - start))) (ltb next frames) group))
          parts.1
      | inr decided ↦ subst (λ (n : ℕ). due_at n ≡ true) (same-next numbers interval frames frames keys more has some (omega arith) undecided start decided) due
    ]
      where
        parts : ((ltb start frames && (ltb number (group_count numbers (then - start)) || ltb then frames)) ≡ true) × (ltb (group_needs numbers start number) frames ≡ true)
        parts = and_parts (ltb start frames && (ltb number (group_count numbers (then - start)) || ltb then frames)) (ltb (group_needs numbers start number) frames) due

        enough : group_needs numbers start number < frames
        enough = ltb-true (group_needs numbers start number) frames parts.1
