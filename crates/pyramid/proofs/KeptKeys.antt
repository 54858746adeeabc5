-- The keys that a schedule keeps: those above the start of the first place's GOP.
use Rattle.std.proofs.Common.{◌≡◌, ℕ, ◌+◌, ◌-◌, ◌^◌, ◌<◌, ◌≤◌, Bool, true, false, cond, ltb, leb, ◌&&◌, ◌||◌, inl, inr, List, [], ◌∷◌, ◌++◌, length as size, get_or, map, drop, Option, None, Some, refl, sym, ap, ◌∙◌, subst, arith, zero, suc}
use Rattle.std.specs.Prelude.{is_some}
use Rattle.std.specs.List.{slice_get, list_all}
use Rattle.std.proofs.lemmas.Bool.{cases_lt, cases_Bool, cond-true, cond-false, lt-ltb, le-ltb, ltb-true, le-leb, lt-leb, leb-true, and_parts, and_from, true≢false}
use Rattle.std.proofs.lemmas.List.Sums.{prefix_len-le-length, prefix_len_passes, prefix_len_stops}
use Rattle.std.proofs.lemmas.Option.{none-some, same_Some}
use Rattle.pyramid.specs.declared.command.Command.{Command}
use Rattle.pyramid.specs.declared.command.Command.TheVariants.{Code, Show}
use Rattle.pyramid.specs.declared.place.Place.{Place}
use Rattle.pyramid.specs.declared.rows.Row.{Row}
use Rattle.pyramid.specs.declared.spot.Spot.{Spot}
use Rattle.pyramid.specs.Building.{opening_spot, needs_at, unit_left, unit_to, spot_to, due_to, next_of, group_left, Walk, AreKeysFrom, begins_with_command, passed_keys, kept_from, frame_of, is_near}
use Rattle.pyramid.specs.Levels.{slot_of}
use Rattle.pyramid.specs.Numbers.{Numbers}
use Rattle.pyramid.specs.Places.{PlacedUnit, placed_group, placed_key, places_from, places_of, row_place}
use Rattle.pyramid.specs.Plan.{key_above, start_after}
use Rattle.pyramid.specs.Positions.{row_position}
use Rattle.pyramid.specs.RowCommand.{code_of}
use Rattle.pyramid.specs.Rows.{rows}
use Rattle.pyramid.proofs.PlacedLists.{from-some}
use Rattle.pyramid.proofs.PlanSteps.{start_after-later}

-- ---- the first keys, which aren't above a start

pub passed-within : (start : ℕ) (keys : List ℕ) → passed_keys start keys ≤ size keys
passed-within start keys = prefix_len-le-length (λ key. leb key start) keys

pub passed-step : (start : ℕ) (keys : List ℕ) (i d : ℕ) → i ≤ passed_keys start keys → i < size keys → get_or keys i d ≤ start → i + 1 ≤ passed_keys start keys
passed-step start keys i d h within low = elim (cases_lt i (passed_keys start keys)) [
  | inl below ↦ omega arith
  | inr high ↦
      let p : ℕ → Bool = λ key. leb key start in
      let last : passed_keys start keys ≡ i = omega arith in
      let stops = prefix_len_stops p keys d (omega (arith, last, within)) in
      let same : p (get_or keys i d) ≡ false = subst (λ (k : ℕ). p (get_or keys k d) ≡ false) last stops in
      absurd (true≢false (sym (le-leb (get_or keys i d) start low) ∙ same))
]

pub passed-stop : (start : ℕ) (keys : List ℕ) (i d : ℕ) → i ≤ passed_keys start keys → start < get_or keys i d → i ≡ passed_keys start keys
passed-stop start keys i d h above = elim (cases_lt i (passed_keys start keys)) [
  | inl below ↦
      let passes = prefix_len_passes (λ key. leb key start) keys i d below in
      let low = leb-true (get_or keys i d) start passes in
      absurd (omega arith)
  | inr high ↦ omega arith
]

-- a later start passes no fewer
pub passed-later : (start later : ℕ) (keys : List ℕ) → start ≤ later → passed_keys start keys ≤ passed_keys later keys
passed-later start later [] h = omega arith
passed-later start later (key ∷ keys) h = elim (cases_lt start key) [
  | inl above ↦
      let none : passed_keys start (key ∷ keys) ≡ 0 = cond-false (leb key start) (1 + passed_keys start keys) 0 (lt-leb key start above) in
      omega (arith, none)
  | inr low ↦
      let more = cond-true (leb key start) (1 + passed_keys start keys) 0 (le-leb key start low) in
      let more_later = cond-true (leb key later) (1 + passed_keys later keys) 0 (le-leb key later (omega arith)) in
      omega (arith, more, more_later, passed-later start later keys h)
]

-- one more key passes no fewer
pub passed-push : (start : ℕ) (keys : List ℕ) (key : ℕ) → passed_keys start keys ≤ passed_keys start (keys ++ key ∷ [])
passed-push start [] key = omega arith
passed-push start (k ∷ keys) key = by (leb k start) (passed-push start keys key)
  where
    by : (b : Bool) → passed_keys start keys ≤ passed_keys start (keys ++ key ∷ []) → cond b (1 + passed_keys start keys) 0 ≤ cond b (1 + passed_keys start (keys ++ key ∷ [])) 0
    by true rest = omega (arith, rest)
    by false rest = omega arith

-- the first is let go
pub passed-rest : (start passed : ℕ) (keys : List ℕ) → passed ≡ passed_keys start keys → 0 < passed → passed - 1 ≡ passed_keys start (drop 1 keys)
passed-rest start passed [] e h = absurd (omega (arith, e))
passed-rest start passed (key ∷ keys) e h = elim (cases_Bool (leb key start)) [
  | inl passes ↦
      let more = cond-true (leb key start) (1 + passed_keys start keys) 0 passes in
      omega (arith, e, more)
  | inr stops ↦
      let none = cond-false (leb key start) (1 + passed_keys start keys) 0 stops in
      absurd (omega (arith, e, none))
]

get-next : (key : ℕ) (keys : List ℕ) (i : ℕ) → slice_get (key ∷ keys) (1 + i) ≡ slice_get keys i
get-next key keys i = let e : 1 + i ≡ suc i = omega arith in ap (slice_get (key ∷ keys)) e

-- the first one behind them is the first above the start
pub next-passed : (start : ℕ) (keys : List ℕ) (key frames : ℕ) → slice_get keys (passed_keys start keys) ≡ Some key → (key_above frames keys start ≡ key) × (start < key)
next-passed start [] key frames e = absurd (none-some key e)
next-passed start (k ∷ keys) key frames e =
    let P : ℕ → Type 0 = λ n. slice_get (k ∷ keys) n ≡ Some key in
    elim (cases_lt start k) [
      | inl above ↦
          let first = subst P (cond-false (leb k start) (1 + passed_keys start keys) 0 (lt-leb k start above)) e in
          let same : k ≡ key = same_Some k key first in
          (cond-true (ltb start k) k (key_above frames keys start) (lt-ltb start k above) ∙ same, omega (arith, same, above))
      | inr low ↦
          let there : slice_get (k ∷ keys) (1 + passed_keys start keys) ≡ Some key = subst P (cond-true (leb k start) (1 + passed_keys start keys) 0 (le-leb k start low)) e in
          let rest = next-passed start keys key frames (sym (get-next k keys (passed_keys start keys)) ∙ there) in
          (cond-false (ltb start k) k (key_above frames keys start) (le-ltb start k low) ∙ rest.0, rest.1)
    ]

pub none-passed : (start : ℕ) (keys : List ℕ) (frames : ℕ) → slice_get keys (passed_keys start keys) ≡ None → key_above frames keys start ≡ frames
none-passed start [] frames e = refl
none-passed start (k ∷ keys) frames e =
    let P : ℕ → Type 0 = λ n. slice_get (k ∷ keys) n ≡ None in
    elim (cases_lt start k) [
      | inl above ↦ absurd (none-some k (sym (subst P (cond-false (leb k start) (1 + passed_keys start keys) 0 (lt-leb k start above)) e)))
      | inr low ↦
          let there : slice_get (k ∷ keys) (1 + passed_keys start keys) ≡ None = subst P (cond-true (leb k start) (1 + passed_keys start keys) 0 (le-leb k start low)) e in
          cond-false (ltb start k) k (key_above frames keys start) (le-ltb start k low)
          ∙ none-passed start keys frames (sym (get-next k keys (passed_keys start keys)) ∙ there)
    ]

-- the first key is let go where it isn't above the start from which keys are kept
pub keys-drop : (start : ℕ) (keys all : List ℕ) (d : ℕ) → 0 < size keys → get_or keys 0 d ≤ start → AreKeysFrom start keys all → AreKeysFrom start (drop 1 keys) all
keys-drop start [] all d some low are frames later h = absurd (omega (arith, some))
keys-drop start (key ∷ keys) all d some low are frames later h =
    sym (cond-false (ltb later key) key (key_above frames keys later) (le-ltb later key (omega arith))) ∙ are frames later h

pub keys-later : (start later : ℕ) (left keys : List ℕ) → start ≤ later → AreKeysFrom start left keys → AreKeysFrom later left keys
keys-later start later left keys h are frames place above = are frames place (omega arith)

-- ---- starts rise along the places

-- a command's frame isn't before a start
abbrev pub FromStart : ℕ → Option Command → Type 0
FromStart start None = Unit {0}
FromStart start (Some (Code frame kind refs refresh shown)) = start ≤ frame
FromStart start (Some (Show slot)) = Unit {0}

-- the starts of these places rise from one to another, and each command is from its place's start on
abbrev pub Rise : ℕ → List Place → ℕ → Type 0
Rise low [] high = low ≤ high
Rise low (place ∷ places) high = (low ≤ place.start) × FromStart place.start place.command × Rise place.start places high

pub rise-lower : (lower low : ℕ) (places : List Place) (high : ℕ) → lower ≤ low → Rise low places high → Rise lower places high
rise-lower lower low [] high h r = omega arith
rise-lower lower low (place ∷ places) high h r = (omega (arith, r.0), r.1, r.2)

pub rise-within : (low : ℕ) (places : List Place) (high : ℕ) → Rise low places high → low ≤ high
rise-within low [] high r = r
rise-within low (place ∷ places) high r = omega (arith, r.0, rise-within place.start places high r.2)

rise-append : (low : ℕ) (xs : List Place) (mid : ℕ) (ys : List Place) (high : ℕ) → Rise low xs mid → Rise mid ys high → Rise low (xs ++ ys) high
rise-append low [] mid ys high r s = rise-lower low mid ys high r s
rise-append low (x ∷ xs) mid ys high r s = (r.0, r.1, rise-append x.start xs mid ys high r.2 s)

pub rise-from : (low count : ℕ) (places : List Place) (high : ℕ) → Rise low places high → Rise low (places_from count places) high
rise-from low count [] high r = r
rise-from low count (place ∷ places) high r = by place.command count (λ n. rise-lower low place.start (places_from n places) high r.0 (rise-from place.start n places high r.2))
  where
    by : (o : Option Command) (n : ℕ) → ((m : ℕ) → Rise low (places_from m places) high) → Rise low (elim o [ None ↦ places_from n places | Some command ↦ elim n [ zero ↦ place ∷ places | suc m ↦ places_from m places ] ]) high
    by None n rest = rest n
    by (Some command) zero rest = r
    by (Some command) (suc m) rest = rest m

row-from : (numbers : Numbers) (start length number : ℕ) (r : Row) → FromStart start (row_place numbers start length number r).command
row-from numbers start length number r = by (ltb (row_position numbers number r) length) r.existing
  where
    slot : ℕ
    slot = slot_of numbers.depth (row_position numbers number r)

    by : (b existing : Bool) → FromStart start (cond b (Some (cond existing (Show slot) (code_of numbers start number r))) None)
    by false existing = tt
    by true true = tt
    by true false = omega arith

rows-rise : (numbers : Numbers) (start length number : ℕ) (rs : List Row) → Rise start (map (row_place numbers start length number) rs) start
rows-rise numbers start length number [] = omega arith
rows-rise numbers start length number (r ∷ rs) = (omega arith, row-from numbers start length number r, rows-rise numbers start length number rs)

unit-rise : (numbers : Numbers) (interval frames : ℕ) (flushed : Bool) (keys : List ℕ) → 1 ≤ interval → (begun : Bool) (start number : ℕ) → (begun ≡ false → start ≡ 0) →
    let next = start_after interval frames keys start in
    let spot : Spot = record { begun = begun; start = start; number = number } in
    due_to numbers frames flushed next spot ≡ true →
    Rise start (unit_to numbers next spot).places (spot_to numbers next spot).start
unit-rise numbers interval frames flushed keys some false start number opens due = let first : start ≡ 0 = opens refl in (omega (arith, first), omega arith, omega arith)
unit-rise numbers interval frames flushed keys some true start number opens due = by (group_left numbers next spot)
  where
    next : ℕ
    next = start_after interval frames keys start

    spot : Spot
    spot = record { begun = true; start = start; number = number }

    later : start < next
    later =
        let parts = and_parts (unit_left numbers frames next spot) (flushed || ltb (needs_at numbers spot) frames) due in
        let within = and_parts (ltb start frames) (group_left numbers next spot || ltb next frames) parts.0 in
        start_after-later interval frames keys start some (ltb-true start frames within.0)

    by : (b : Bool) → Rise start (cond {A = PlacedUnit} b (placed_group numbers start (next - start) number) (placed_key numbers start number next)).places (cond {A = Spot} b (record { begun = true; start = start; number = number + 1 }) (record { begun = true; start = next; number = 0 })).start
    by true = rows-rise numbers start (next - start) number (rows numbers.depth)
    by false = (omega (arith, later), omega arith, omega arith)

pub begun-after : (numbers : Numbers) (next : ℕ) (begun : Bool) (start number : ℕ) → (spot_to numbers next (record { begun = begun; start = start; number = number })).begun ≡ true
begun-after numbers next false start number = refl
begun-after numbers next true start number = by (group_left numbers next (record { begun = true; start = start; number = number }))
  where
    by : (b : Bool) → (cond {A = Spot} b (record { begun = true; start = start; number = number + 1 }) (record { begun = true; start = next; number = 0 })).begun ≡ true
    by true = refl
    by false = refl

pub walk-rise : (numbers : Numbers) (interval frames : ℕ) (flushed : Bool) (keys : List ℕ) → 1 ≤ interval → (units : List PlacedUnit) (from to : Spot) → (from.begun ≡ false → from.start ≡ 0) →
    Walk numbers interval frames flushed keys from units to → Rise from.start (places_of units) to.start
walk-rise numbers interval frames flushed keys some [] from to opens walk = omega (arith, ap (λ (s : Spot). s.start) walk)
walk-rise numbers interval frames flushed keys some (unit ∷ units) from to opens walk =
    let next = next_of interval frames keys from in
    let mid = spot_to numbers next from in
    let one = unit-rise numbers interval frames flushed keys some from.begun from.start from.number opens walk.0 in
    let first : Rise from.start unit.places mid.start = subst (λ (u : PlacedUnit). Rise from.start u.places mid.start) (sym walk.1) one in
    let begun : mid.begun ≡ false → mid.start ≡ 0 = λ e. absurd (true≢false (sym (begun-after numbers next from.begun from.start from.number) ∙ e)) in
    rise-append from.start unit.places mid.start (places_of units) to.start first (walk-rise numbers interval frames flushed keys some units mid to begun walk.2)

pub all-rise : (numbers : Numbers) (interval frames : ℕ) (flushed : Bool) (keys : List ℕ) (commands : ℕ) → 1 ≤ interval → (units : List PlacedUnit) (to : Spot) →
    Walk numbers interval frames flushed keys opening_spot units to → Rise 0 (places_from commands (places_of units)) to.start
all-rise numbers interval frames flushed keys commands some units to walk =
    rise-from 0 commands (places_of units) to.start (walk-rise numbers interval frames flushed keys some units opening_spot to (λ e. refl) walk)

-- ---- from where keys are kept

low-kept : (low : ℕ) (places : List Place) (high : ℕ) → Rise low places high → low ≤ kept_from places high
low-kept low [] high r = r
low-kept low (place ∷ places) high r = r.0

pub kept-within : (low : ℕ) (places : List Place) (high : ℕ) → Rise low places high → kept_from places high ≤ high
kept-within low [] high r = omega arith
kept-within low (place ∷ places) high r = rise-within place.start places high r.2

-- a command is coded
pub kept-next : (low : ℕ) (places : List Place) (high : ℕ) → Rise low places high → kept_from places high ≤ kept_from (places_from 0 (drop 1 places)) high
kept-next low [] high r = omega arith
kept-next low (place ∷ places) high r = low-kept place.start (places_from 0 places) high (rise-from place.start 0 places high r.2)

-- units are built
pub kept-built : (before more : List Place) (start later : ℕ) → begins_with_command before ≡ true → Rise start more later → kept_from before start ≤ kept_from (places_from 0 (before ++ more)) later
kept-built [] more start later ready r = low-kept start (places_from 0 more) later (rise-from start 0 more later r)
kept-built (place ∷ before) more start later ready r = by place.command refl ready
  where
    by : (o : Option Command) → place.command ≡ o → is_some o ≡ true → place.start ≤ kept_from (places_from 0 ((place ∷ before) ++ more)) later
    by None e h = absurd (true≢false (sym h))
    by (Some command) e h = omega (arith, ap (λ (ps : List Place). kept_from ps later) (from-some place (before ++ more) command e))

-- where no command is coded every key is kept
pub kept-opening : (numbers : Numbers) (interval frames : ℕ) (flushed : Bool) (keys : List ℕ) (units : List PlacedUnit) (to : Spot) →
    Walk numbers interval frames flushed keys opening_spot units to → kept_from (places_from 0 (places_of units)) to.start ≡ 0
kept-opening numbers interval frames flushed keys [] to walk = sym (ap (λ (s : Spot). s.start) walk)
kept-opening numbers interval frames flushed keys (unit ∷ units) to walk =
    ap (λ (u : PlacedUnit). kept_from (places_from 0 (u.places ++ places_of units)) to.start) walk.1

-- ---- near places

pub near-from : (count : ℕ) (places : List Place) → list_all is_near places ≡ true → list_all is_near (places_from count places) ≡ true
near-from count [] h = refl
near-from count (place ∷ places) h =
    let parts = and_parts (is_near place) (list_all is_near places) h in
    by place.command count (λ n. near-from n places parts.1)
  where
    by : (o : Option Command) (n : ℕ) → ((m : ℕ) → list_all is_near (places_from m places) ≡ true) → list_all is_near (elim o [ None ↦ places_from n places | Some command ↦ elim n [ zero ↦ place ∷ places | suc m ↦ places_from m places ] ]) ≡ true
    by None n rest = rest n
    by (Some command) zero rest = h
    by (Some command) (suc m) rest = rest m

pub near-drop : (places : List Place) → list_all is_near places ≡ true → list_all is_near (drop 1 places) ≡ true
near-drop [] h = refl
near-drop (place ∷ places) h = (and_parts (is_near place) (list_all is_near places) h).1

near-place : (place : Place) → place.start ≤ 2 ^ 31 → place.number ≤ 2 ^ 40 → frame_of place.command ≤ 2 ^ 31 → is_near place ≡ true
near-place place start number frame =
    and_from (leb place.start (2 ^ 31) && leb place.number (2 ^ 40)) (leb (frame_of place.command) (2 ^ 31))
    (and_from (leb place.start (2 ^ 31)) (leb place.number (2 ^ 40)) (le-leb place.start (2 ^ 31) start) (le-leb place.number (2 ^ 40) number))
    (le-leb (frame_of place.command) (2 ^ 31) frame)

-- a row's place is near
pub near-row : (numbers : Numbers) (start length number : ℕ) (r : Row) (place : Place) → start + length ≤ 2 ^ 31 → place.start ≡ start → place.number ≤ 2 ^ 40 → place.command ≡ (row_place numbers start length number r).command → is_near place ≡ true
near-row numbers start length number r place end is few command =
    near-place place (omega (arith, end, is)) few (omega (arith, ap frame_of command, by (ltb (row_position numbers number r) length) refl r.existing))
  where
    slot : ℕ
    slot = slot_of numbers.depth (row_position numbers number r)

    by : (b : Bool) → ltb (row_position numbers number r) length ≡ b → (existing : Bool) → frame_of (cond b (Some (cond existing (Show slot) (code_of numbers start number r))) None) ≤ 2 ^ 31
    by false e existing = omega arith
    by true e true = omega arith
    by true e false = omega (arith, end, ltb-true (row_position numbers number r) length e)

pub kept-rise : (low : ℕ) (places : List Place) (high : ℕ) → Rise low places high → Rise (kept_from places high) places high
kept-rise low [] high r = omega arith
kept-rise low (place ∷ places) high r = (omega arith, r.1, r.2)
