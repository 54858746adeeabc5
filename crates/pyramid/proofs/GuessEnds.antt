-- The walk of a guess ends because it has met the wanted temporal units.
use Rattle.std.proofs.Common.{◌≡◌, ℕ, ◌+◌, ◌-◌, ◌*◌, ◌/◌, ◌%◌, ◌^◌, ◌<◌, ◌≤◌, Bool, true, false, cond, eqb, leb, ◌⊎◌, inl, inr, List, Option, None, Some, refl, sym, ap, ◌∙◌, subst, arith, zero, suc}
use Rattle.std.specs.List.{slice_get, list_all}
use Rattle.std.proofs.lemmas.Bool.{cases_lt, cond-true, le-leb, leb-true, eq-eqb, and_parts, false≢true}
use Rattle.std.proofs.lemmas.Nat.{pow_pos, div-add-mod', div-mul-add, mod-mul-add, mod_below, mul-le}
use Rattle.av1_settings.specs.declared.frame_type.FrameType.TheVariants.{KEY, INTER, INTRA_ONLY, SWITCH}
use Rattle.pyramid.specs.declared.command.Command.{Command}
use Rattle.pyramid.specs.declared.command.Command.TheVariants.{Code, Show}
use Rattle.pyramid.specs.declared.guess.GuessWalk.{GuessWalk}
use Rattle.pyramid.specs.declared.place.Place.{Place}
use Rattle.pyramid.specs.declared.place.PlaceRow.{PlaceRow}
use Rattle.pyramid.specs.declared.rows.Row.{Row}
use Rattle.pyramid.specs.Guess.{known_at, endless_start_after, first_place, walk_from, past_guessed_key, past_cut, past_show, past_frame, key_at, has_whole_gop, past_row, past_place, walked, enough_steps, whole_walk}
use Rattle.pyramid.specs.Numbers.{Numbers, group_places}
use Rattle.pyramid.specs.Places.{place_row}
use Rattle.pyramid.specs.Positions.{index_of}
use Rattle.pyramid.specs.Rows.{rows, row_at, HasTable}
use Rattle.pyramid.proofs.GuessSteps.{row_fits, fit-table, past_with, walked-done, walked-more}

abbrev Grows : ℕ → GuessWalk → GuessWalk → Type 0
Grows places before after =
    (1 ≤ after.since_key)
    × ((after.tus ≡ before.tus + 1) ⊎ ((after.tus ≡ before.tus) × (after.since_key ≡ before.since_key + 1) × (1 ≤ before.since_key) × ((before.since_key - 1) % places + 1 < places)))

-- the last place of a group: whole groups reach it
module _ (numbers : Numbers) (has : HasTable numbers.depth) (walk : GuessWalk) (some : 1 ≤ walk.since_key) (last : (walk.since_key - 1) % group_places numbers + 1 ≡ group_places numbers) where
  last-group : walk.since_key / group_places numbers ≡ (walk.since_key - 1) / group_places numbers + 1
  last-group =
      let places = group_places numbers in
      let positive = pow_pos numbers.depth in
      let whole = div-add-mod' (walk.since_key - 1) places in
      let all : walk.since_key ≡ ((walk.since_key - 1) / places + 1) * places + 0 = omega (arith, whole, last, some) in
      ap (λ (n : ℕ). n / places) all ∙ div-mul-add ((walk.since_key - 1) / places + 1) places 0 (omega (arith, positive))

  last-index : index_of numbers walk.since_key ≡ 2 ^ numbers.depth + numbers.depth - 1
  last-index = omega (arith, last)

  last-shown : (place_row numbers walk.since_key).shown ≡ true
  last-shown =
      ap (λ (i : ℕ). (row_at numbers.depth i).shown) last-index
      ∙ (and_parts (list_all (λ (r : Row). leb r.level 2) (rows numbers.depth)) (row_at numbers.depth (2 ^ numbers.depth + numbers.depth - 1)).shown (fit-table numbers.depth has)).1

  last-whole : (next : ℕ) → next ≤ walk.key_input + (place_row numbers walk.since_key).position → has_whole_gop numbers next walk ≡ true
  last-whole next h =
      let inputs = 2 ^ numbers.depth in
      let places = group_places numbers in
      let group = (walk.since_key - 1) / places in
      let positive = pow_pos numbers.depth in
      let within = mod_below (walk.since_key - 1) places (omega (arith, positive)) in
      let fit = row_fits numbers.depth (index_of numbers walk.since_key) has within in
      let all : walk.since_key / places * inputs ≡ inputs * group + inputs = ap (λ (n : ℕ). n * inputs) last-group ∙ omega arith in
      le-leb (next - walk.key_input) (1 + walk.since_key / places * inputs) (omega (arith, h, all, fit.within))

row-grows : (numbers : Numbers) (interval : ℕ) (keys : List ℕ) (walk : GuessWalk) → HasTable numbers.depth → 1 ≤ walk.since_key → Grows (group_places numbers) walk (past_row numbers interval keys walk)
row-grows numbers interval keys walk has some = by (leb next input) refl (has_whole_gop numbers next walk) refl row.show_existing row.shown refl
  where
    next : ℕ
    next = endless_start_after interval keys walk.key_input

    row : PlaceRow
    row = place_row numbers walk.since_key

    input : ℕ
    input = walk.key_input + row.position

    places : ℕ
    places = group_places numbers

    inner : (((walk.since_key - 1) % places + 1 ≡ places) → ⊥) → (walk.since_key - 1) % places + 1 < places
    inner none =
        let positive = pow_pos numbers.depth in
        let below = mod_below (walk.since_key - 1) places (omega (arith, positive)) in
        elim (cases_lt ((walk.since_key - 1) % places + 1) places) [
          | inl low ↦ low
          | inr high ↦ absurd (none (omega (arith, below, high)))
        ]

    by : (a : Bool) → leb next input ≡ a → (b : Bool) → has_whole_gop numbers next walk ≡ b → (c d : Bool) → row.shown ≡ d → Grows places walk (cond a (cond b (past_guessed_key input walk) (past_cut walk)) (cond c (past_show walk) (past_frame row.level row.shown walk)))
    by true e true f c d g = (omega arith, inl refl)
    by true e false f c d g = (omega arith, inr (refl, refl, some, inner (λ last. false≢true (sym f ∙ last-whole numbers has walk some last next (leb-true next input e)))))
    by false e b f true d g = (omega arith, inl refl)
    by false e b f false true g = (omega arith, inl (ap (λ (s : Bool). walk.tus + cond s 1 0) g))
    by false e b f false false g = (omega arith, inr (ap (λ (s : Bool). walk.tus + cond s 1 0) g ∙ omega arith, refl, some, inner (λ last. false≢true (sym g ∙ last-shown numbers has walk some last))))

-- a walk behind a key, or at the place that is being coded
abbrev IsUnderway : GuessWalk → Type 0
IsUnderway walk = walk.since_key ≡ 0 → walk.behind ≡ 0

step-grows : (numbers : Numbers) (interval : ℕ) (keys : List ℕ) (places : List Place) (walk : GuessWalk) → HasTable numbers.depth → IsUnderway walk → Grows (group_places numbers) walk (past_place numbers interval keys places walk)
step-grows numbers interval keys places walk has underway = elim (cases_lt 0 walk.since_key) [
  | inl some ↦ by some (known_at places walk.behind)
  | inr none ↦
      let start : walk.since_key ≡ 0 = omega (arith, none) in
      let coded : eqb walk.behind 0 ≡ true = eq-eqb walk.behind 0 (underway start) in
      let unknown : known_at places walk.behind ≡ None = cond-true (eqb walk.behind 0) None (elim (slice_get places walk.behind) [ None ↦ None | Some place ↦ place.command ]) coded in
      let own : key_at None walk ≡ Some walk.key_input = cond-true (eqb walk.since_key 0) (Some walk.key_input) None (eq-eqb walk.since_key 0 start) in
      subst P (sym (ap (λ (o : Option Command). key_at o walk) unknown ∙ own)) (omega arith, inl refl)
]
  where
    P : Option ℕ → Type 0
    P key = Grows (group_places numbers) walk (past_with numbers interval keys walk key)

    own : 1 ≤ walk.since_key → (b : Bool) → P (cond b (Some walk.key_input) None)
    own some true = (omega arith, inl refl)
    own some false = row-grows numbers interval keys walk has some

    by : 1 ≤ walk.since_key → (o : Option Command) → P (key_at o walk)
    by some None = own some (eqb walk.since_key 0)
    by some (Some (Show slot)) = row-grows numbers interval keys walk has some
    by some (Some (Code frame KEY refs refresh shown)) = (omega arith, inl refl)
    by some (Some (Code frame INTER refs refresh shown)) = row-grows numbers interval keys walk has some
    by some (Some (Code frame INTRA_ONLY refs refresh shown)) = row-grows numbers interval keys walk has some
    by some (Some (Code frame SWITCH refs refresh shown)) = row-grows numbers interval keys walk has some

-- the steps that are left suffice: those to the group's last place, and a group's for each further unit
abbrev AreEnough : ℕ → ℕ → ℕ → GuessWalk → Type 0
AreEnough places wanted steps walk = places * (wanted - walk.tus) ≤ steps + (walk.since_key - 1) % places

reaches : (numbers : Numbers) (interval : ℕ) (keys : List ℕ) (places : List Place) (wanted steps : ℕ) (walk : GuessWalk) → HasTable numbers.depth → IsUnderway walk → walk.tus ≤ wanted → AreEnough (group_places numbers) wanted steps walk → (walked numbers interval keys places wanted steps walk).tus ≡ wanted
reaches numbers interval keys places wanted zero walk has underway most enough = elim (cases_lt walk.tus wanted) [
  | inr done ↦ omega (arith, done, most)
  | inl left ↦
      let size = group_places numbers in
      let positive = pow_pos numbers.depth in
      let below = mod_below (walk.since_key - 1) size (omega (arith, positive)) in
      let one : size * 1 ≤ size * (wanted - walk.tus) = mul-le size 1 size (wanted - walk.tus) (omega arith) (omega (arith, left)) in
      absurd (omega (arith, enough, below, one))
]
reaches numbers interval keys places wanted (suc steps) walk has underway most enough = elim (cases_lt walk.tus wanted) [
  | inr done ↦ omega (arith, done, most, ap (λ (w : GuessWalk). w.tus) (walked-done numbers interval keys places wanted (suc steps) walk done))
  | inl left ↦
      let size = group_places numbers in
      let next = past_place numbers interval keys places walk in
      let positive = pow_pos numbers.depth in
      let below = mod_below (walk.since_key - 1) size (omega (arith, positive)) in
      let grows = step-grows numbers interval keys places walk has underway in
      let underway_next : IsUnderway next = λ none. absurd (omega (arith, none, grows.0)) in
      let most_next : next.tus ≤ wanted = elim grows.1 [ inl unit ↦ omega (arith, unit, left) | inr row ↦ omega (arith, row.0, most) ] in
      let enough_next : AreEnough size wanted steps next = elim grows.1 [
        | inl unit ↦
            let more : size * (wanted - walk.tus) ≡ size * (wanted - next.tus) + size =
            ap (λ (n : ℕ). size * n) (let e : wanted - walk.tus ≡ (wanted - next.tus) + 1 = omega (arith, unit, left) in e) ∙ (let e : size * ((wanted - next.tus) + 1) ≡ size * (wanted - next.tus) + size = omega arith in e) in
            omega (arith, enough, below, more)
        | inr row ↦
            let same : size * (wanted - next.tus) ≡ size * (wanted - walk.tus) = ap (λ (n : ℕ). size * (wanted - n)) row.0 in
            let index : (next.since_key - 1) % size ≡ (walk.since_key - 1) % size + 1 =
            ap (λ (n : ℕ). n % size) (let e : next.since_key - 1 ≡ (walk.since_key - 1) / size * size + ((walk.since_key - 1) % size + 1) = omega (arith, row.1, row.2, div-add-mod' (walk.since_key - 1) size) in e)
            ∙ mod-mul-add ((walk.since_key - 1) / size) size ((walk.since_key - 1) % size + 1) row.3 in
            omega (arith, enough, same, index)
      ] in
      omega (arith, reaches numbers interval keys places wanted steps next has underway_next most_next enough_next, ap (λ (w : GuessWalk). w.tus) (walked-more numbers interval keys places wanted steps walk left))
]

pub walk-reaches : (numbers : Numbers) (interval : ℕ) (keys : List ℕ) (places : List Place) (wanted : ℕ) → HasTable numbers.depth → (whole_walk numbers interval keys places wanted).tus ≡ wanted
walk-reaches numbers interval keys places wanted has =
    let walk = walk_from (first_place places) in
    let all : group_places numbers * (wanted - walk.tus) ≡ group_places numbers * wanted = ap (λ (n : ℕ). group_places numbers * n) (let e : wanted - 0 ≡ wanted = omega arith in e) in
    reaches numbers interval keys places wanted (enough_steps numbers wanted) walk has (λ e. refl) (omega arith) (omega (arith, all))
