-- The walk of a guess, step by step: its numbers stay small, and the loop's steps are the definition's.
use Rattle.std.proofs.Common.{◌≡◌, ℕ, ◌+◌, ◌-◌, ◌*◌, ◌/◌, ◌^◌, ◌<◌, ◌≤◌, Bool, true, false, cond, eqb, ltb, leb, ◌&&◌, ◌⊎◌, inl, inr, List, [], ◌∷◌, length as size, Option, None, Some, refl, sym, ap, ◌∙◌, subst, arith, zero, suc}
use Rattle.std.specs.List.{slice_get, list_all}
use Rattle.std.proofs.lemmas.Bool.{cases_Bool, cond-true, cond-false, lt-ltb, le-ltb, leb-true, eqb-true, and_parts, false≢true}
use Rattle.std.proofs.lemmas.List.Sums.{AllPass-from_list_all}
use Rattle.std.proofs.lemmas.Nat.{pow_pos, div-add-mod', mod_below, mul-le}
use Rattle.av1_settings.specs.declared.frame_type.FrameType.TheVariants.{KEY, INTER, INTRA_ONLY, SWITCH}
use Rattle.pyramid.specs.declared.command.Command.{Command}
use Rattle.pyramid.specs.declared.command.Command.TheVariants.{Code, Show}
use Rattle.pyramid.specs.declared.guess.GuessWalk.{GuessWalk}
use Rattle.pyramid.specs.declared.place.Place.{Place}
use Rattle.pyramid.specs.declared.place.PlaceRow.{PlaceRow}
use Rattle.pyramid.specs.declared.rows.Row.{Row}
use Rattle.pyramid.specs.Building.{is_near, frame_of}
use Rattle.pyramid.specs.Guess.{count_at, one_more, no_counts, sum_of_counts, known_at, endless_start_after, first_place, walk_from, at_key, past_key, past_guessed_key, past_cut, past_show, past_frame, key_at, has_whole_gop, past_row, past_place, walked}
use Rattle.pyramid.specs.WalkBounds.{IsBelow}
use Rattle.pyramid.specs.Numbers.{Numbers, group_places}
use Rattle.pyramid.specs.Places.{key_place, place_row}
use Rattle.pyramid.specs.Positions.{index_of, position_of}
use Rattle.pyramid.specs.Rows.{rows, rows_of_depth_zero, rows_of_depth_two, row_at, is_row, HasTable}
use Rattle.pyramid.proofs.DepthFacts.{few_inputs}
use Rattle.pyramid.proofs.Tables.{Fits, fits, table}

-- ---- rows of the table

pub row_fits : (depth index : ℕ) → HasTable depth → index < 2 ^ depth + depth → Fits depth (row_at depth index)
row_fits depth index has within =
    let t = table depth has in
    fits depth (row_at depth index) (AllPass-from_list_all (is_row depth) (rows depth) t.all index _ (omega (arith, within, t.size)))

-- a frame of a row is of level 0 to 2, and that of a group's last place is shown
abbrev pub is_fit : ℕ → Bool
is_fit depth = list_all (λ (r : Row). leb r.level 2) (rows depth) && (row_at depth (2 ^ depth + depth - 1)).shown

pub fit-table : (depth : ℕ) → HasTable depth → is_fit depth ≡ true
unfolding rows
fit-table depth has = by (cases_Bool (eqb depth 0)) (cases_Bool (eqb depth 2))
  where
    P : ℕ → Type 0
    P d = is_fit d ≡ true

    by : (eqb depth 0 ≡ true) ⊎ (eqb depth 0 ≡ false) → (eqb depth 2 ≡ true) ⊎ (eqb depth 2 ≡ false) → is_fit depth ≡ true
    by (inl e) second = subst P (sym (eqb-true depth 0 e)) refl
    by (inr low) (inl e) = subst P (sym (eqb-true depth 2 e)) refl
    by (inr low) (inr none) =
        let Q : Bool → Bool → Type 0 = λ a b. ltb 0 (size (cond a rows_of_depth_zero (cond b rows_of_depth_two []))) ≡ true in
        absurd (false≢true (subst (λ (b : Bool). Q false b) none (subst (λ (a : Bool). Q a (eqb depth 2)) low has)))

pub row_level : (depth index : ℕ) → HasTable depth → index < 2 ^ depth + depth → (row_at depth index).level ≤ 2
row_level depth index has within =
    let parts = and_parts (list_all (λ (r : Row). leb r.level 2) (rows depth)) (row_at depth (2 ^ depth + depth - 1)).shown (fit-table depth has) in
    let all = AllPass-from_list_all (λ (r : Row). leb r.level 2) (rows depth) parts.0 in
    leb-true (row_at depth index).level 2 (all index _ (omega (arith, within, (table depth has).size)))

-- ---- small numbers

one_more-at : (subtype : ℕ) (counts : List ℕ) (i : ℕ) → count_at (one_more subtype counts) i ≤ count_at counts i + 1
one_more-at subtype [] i = omega arith
one_more-at zero (c ∷ cs) zero = omega arith
one_more-at zero (c ∷ cs) (suc i) = omega arith
one_more-at (suc subtype) (c ∷ cs) zero = omega arith
one_more-at (suc subtype) (c ∷ cs) (suc i) = one_more-at subtype cs i

no_counts-at : (i : ℕ) → count_at no_counts i ≡ 0
no_counts-at zero = refl
no_counts-at (suc zero) = refl
no_counts-at (suc (suc zero)) = refl
no_counts-at (suc (suc (suc zero))) = refl
no_counts-at (suc (suc (suc (suc zero)))) = refl
no_counts-at (suc (suc (suc (suc (suc i))))) = refl

sum-at : (xs ys : List ℕ) (i : ℕ) → count_at (sum_of_counts xs ys) i ≤ count_at xs i + count_at ys i
sum-at xs ys zero = omega arith
sum-at xs ys (suc zero) = omega arith
sum-at xs ys (suc (suc zero)) = omega arith
sum-at xs ys (suc (suc (suc zero))) = omega arith
sum-at xs ys (suc (suc (suc (suc zero)))) = omega arith
sum-at xs ys (suc (suc (suc (suc (suc i))))) = omega arith

pub position-near : (numbers : Numbers) (place : ℕ) → HasTable numbers.depth → position_of numbers place (index_of numbers place) ≤ place + 16
position-near numbers place has =
    let inputs = 2 ^ numbers.depth in
    let places = group_places numbers in
    let t = table numbers.depth has in
    let positive = pow_pos numbers.depth in
    let whole = div-add-mod' (place - 1) places in
    let within = mod_below (place - 1) places (omega (arith, positive)) in
    let fit = row_fits numbers.depth (index_of numbers place) has within in
    let fewer : inputs * ((place - 1) / places) ≤ places * ((place - 1) / places) = mul-le inputs ((place - 1) / places) places ((place - 1) / places) (omega arith) (omega arith) in
    omega (arith, whole, fewer, fit.within, few_inputs numbers.depth t.small)

pub below-from : (place : Place) → place.start ≤ 2 ^ 31 → place.number ≤ 2 ^ 40 → IsBelow (2 ^ 41) (walk_from place)
below-from place start number = record {
  behind = omega arith;
  input = omega (arith, start, number);
  frames = omega arith;
  tus = omega arith;
  counts = λ subtype. omega (arith, no_counts-at subtype);
}

-- a key at the walk's place
module _ (limit input : ℕ) (walk : GuessWalk) (is : IsBelow limit walk) where
  at_key-counts : (subtype : ℕ) → count_at (at_key input walk).before subtype + count_at (at_key input walk).since subtype ≤ limit + 1
  at_key-counts subtype = omega (arith, is.counts subtype, sum-at walk.before walk.since subtype, one_more-at 0 no_counts subtype, no_counts-at subtype)

  past_key-below : input + 1 ≤ limit → IsBelow (limit + 20) (past_key input walk)
  past_key-below small = record {
    behind = omega (arith, is.behind);
    input = omega (arith, small);
    frames = omega (arith, is.frames);
    tus = omega (arith, is.tus);
    counts = λ subtype. omega (arith, at_key-counts subtype);
  }

  past_guessed-below : input ≤ limit + 16 → IsBelow (limit + 20) (past_guessed_key input walk)
  past_guessed-below small = record {
    behind = omega (arith, is.behind);
    input = omega (arith, small);
    frames = omega (arith, is.frames);
    tus = omega (arith, is.tus);
    counts = λ subtype. omega (arith, at_key-counts subtype);
  }

module _ (limit : ℕ) (walk : GuessWalk) (is : IsBelow limit walk) where
  past_cut-below : IsBelow (limit + 20) (past_cut walk)
  past_cut-below = record {
    behind = omega (arith, is.behind);
    input = omega (arith, is.input);
    frames = omega (arith, is.frames);
    tus = omega (arith, is.tus);
    counts = λ subtype. omega (arith, is.counts subtype);
  }

  past_show-below : IsBelow (limit + 20) (past_show walk)
  past_show-below = record {
    behind = omega (arith, is.behind);
    input = omega (arith, is.input);
    frames = omega (arith, is.frames);
    tus = omega (arith, is.tus);
    counts = λ subtype. omega (arith, is.counts subtype, one_more-at 4 walk.since subtype);
  }

  past_frame-below : (level : ℕ) (shown : Bool) → IsBelow (limit + 20) (past_frame level shown walk)
  past_frame-below level shown = record {
    behind = omega (arith, is.behind);
    input = omega (arith, is.input);
    frames = omega (arith, is.frames);
    tus = by shown;
    counts = λ subtype. omega (arith, is.counts subtype, one_more-at (1 + level) walk.since subtype);
  }
    where
      by : (b : Bool) → walk.tus + cond b 1 0 ≤ limit + 20
      by true = omega (arith, is.tus)
      by false = omega (arith, is.tus)

past_row-below : (numbers : Numbers) (interval : ℕ) (keys : List ℕ) (limit : ℕ) (walk : GuessWalk) → HasTable numbers.depth → IsBelow limit walk → IsBelow (limit + 20) (past_row numbers interval keys walk)
past_row-below numbers interval keys limit walk has is = by (leb next input) (has_whole_gop numbers next walk) row.show_existing
  where
    next : ℕ
    next = endless_start_after interval keys walk.key_input

    row : PlaceRow
    row = place_row numbers walk.since_key

    input : ℕ
    input = walk.key_input + row.position

    by : (a b c : Bool) → IsBelow (limit + 20) (cond a (cond b (past_guessed_key input walk) (past_cut walk)) (cond c (past_show walk) (past_frame row.level row.shown walk)))
    by true true c = past_guessed-below limit input walk is (omega (arith, is.input, position-near numbers walk.since_key has))
    by true false c = past_cut-below limit walk is
    by false b true = past_show-below limit walk is
    by false b false = past_frame-below limit walk is row.level row.shown

-- the command at a near place
near-known : (places : List Place) (behind : ℕ) → list_all is_near places ≡ true → frame_of (known_at places behind) ≤ 2 ^ 31
near-known places behind near = by (eqb behind 0)
  where
    near_at : (ps : List Place) (i : ℕ) → list_all is_near ps ≡ true → frame_of (elim (slice_get ps i) [ None ↦ None | Some place ↦ place.command ]) ≤ 2 ^ 31
    near_at [] i h = omega arith
    near_at (p ∷ ps) zero h =
        let first = and_parts (is_near p) (list_all is_near ps) h in
        let last = and_parts (leb p.start (2 ^ 31) && leb p.number (2 ^ 40)) (leb (frame_of p.command) (2 ^ 31)) first.0 in
        leb-true (frame_of p.command) (2 ^ 31) last.1
    near_at (p ∷ ps) (suc i) h = near_at ps i (and_parts (is_near p) (list_all is_near ps) h).1

    by : (b : Bool) → frame_of (cond b None (elim (slice_get places behind) [ None ↦ None | Some place ↦ place.command ])) ≤ 2 ^ 31
    by true = omega arith
    by false = near_at places behind near

abbrev pub past_with : Numbers → ℕ → List ℕ → GuessWalk → Option ℕ → GuessWalk
past_with numbers interval keys walk key = elim key [
  | Some input ↦ past_key input walk
  | None ↦ past_row numbers interval keys walk
]

pub below-step : (numbers : Numbers) (interval : ℕ) (keys : List ℕ) (places : List Place) (limit : ℕ) (walk : GuessWalk) → HasTable numbers.depth → list_all is_near places ≡ true → 2 ^ 32 ≤ limit → IsBelow limit walk → IsBelow (limit + 20) (past_place numbers interval keys places walk)
below-step numbers interval keys places limit walk has near large is = by (known_at places walk.behind) (near-known places walk.behind near)
  where
    P : Option ℕ → Type 0
    P key = IsBelow (limit + 20) (past_with numbers interval keys walk key)

    own : (b : Bool) → P (cond b (Some walk.key_input) None)
    own true = record {
      behind = omega (arith, is.behind);
      input = omega (arith, is.input);
      frames = omega (arith, is.frames);
      tus = omega (arith, is.tus);
      counts = λ subtype. omega (arith, at_key-counts limit walk.key_input walk is subtype);
    }
    own false = past_row-below numbers interval keys limit walk has is

    by : (o : Option Command) → frame_of o ≤ 2 ^ 31 → P (key_at o walk)
    by None h = own (eqb walk.since_key 0)
    by (Some (Show slot)) h = past_row-below numbers interval keys limit walk has is
    by (Some (Code frame KEY refs refresh shown)) h = past_key-below limit frame walk is (omega (arith, h, large))
    by (Some (Code frame INTER refs refresh shown)) h = past_row-below numbers interval keys limit walk has is
    by (Some (Code frame INTRA_ONLY refs refresh shown)) h = past_row-below numbers interval keys limit walk has is
    by (Some (Code frame SWITCH refs refresh shown)) h = past_row-below numbers interval keys limit walk has is

-- ---- the loop

pub below-more : (limit more : ℕ) (walk : GuessWalk) → limit ≤ more → IsBelow limit walk → IsBelow more walk
below-more limit more walk h is = record {
  behind = omega (arith, is.behind);
  input = omega (arith, is.input);
  frames = omega (arith, is.frames);
  tus = omega (arith, is.tus);
  counts = λ subtype. omega (arith, is.counts subtype);
}

pub below-first : (places : List Place) → list_all is_near places ≡ true → IsBelow (2 ^ 41) (walk_from (first_place places))
below-first [] near = below-from (key_place 0) (omega arith) (omega arith)
below-first (place ∷ places) near =
    let first = and_parts (is_near place) (list_all is_near places) near in
    let last = and_parts (leb place.start (2 ^ 31) && leb place.number (2 ^ 40)) (leb (frame_of place.command) (2 ^ 31)) first.0 in
    let both = and_parts (leb place.start (2 ^ 31)) (leb place.number (2 ^ 40)) last.0 in
    below-from place (leb-true place.start (2 ^ 31) both.0) (leb-true place.number (2 ^ 40) both.1)

pub walked-done : (numbers : Numbers) (interval : ℕ) (keys : List ℕ) (places : List Place) (wanted steps : ℕ) (walk : GuessWalk) → wanted ≤ walk.tus → walked numbers interval keys places wanted steps walk ≡ walk
walked-done numbers interval keys places wanted zero walk h = refl
walked-done numbers interval keys places wanted (suc steps) walk h = cond-false (ltb walk.tus wanted) (walked numbers interval keys places wanted steps (past_place numbers interval keys places walk)) walk (le-ltb walk.tus wanted h)

pub walked-more : (numbers : Numbers) (interval : ℕ) (keys : List ℕ) (places : List Place) (wanted steps : ℕ) (walk : GuessWalk) → walk.tus < wanted → walked numbers interval keys places wanted (suc steps) walk ≡ walked numbers interval keys places wanted steps (past_place numbers interval keys places walk)
walked-more numbers interval keys places wanted steps walk h = cond-true (ltb walk.tus wanted) (walked numbers interval keys places wanted steps (past_place numbers interval keys places walk)) walk (lt-ltb walk.tus wanted h)

-- the steps that are left lead to the same
module _ (numbers : Numbers) (interval : ℕ) (keys : List ℕ) (places : List Place) (wanted : ℕ) (whole : GuessWalk) where
  abbrev pub LeadsOn : ℕ → ℕ → GuessWalk → Type 0
  LeadsOn end counter walk = walked numbers interval keys places wanted (end - counter) walk ≡ whole

  pub leads-step : (end counter : ℕ) (walk next : GuessWalk) → counter < end → walk.tus < wanted → next ≡ past_place numbers interval keys places walk → LeadsOn end counter walk → LeadsOn end (counter + 1) next
  leads-step end counter walk next within left is so_far =
      let more : end - counter ≡ suc (end - (counter + 1)) = omega (arith, within) in
      ap (walked numbers interval keys places wanted (end - (counter + 1))) is
      ∙ sym (walked-more numbers interval keys places wanted (end - (counter + 1)) walk left)
      ∙ ap (λ (n : ℕ). walked numbers interval keys places wanted n walk) (sym more)
      ∙ so_far

  pub leads-done : (end counter : ℕ) (walk : GuessWalk) → wanted ≤ walk.tus → LeadsOn end counter walk → walk ≡ whole
  leads-done end counter walk done so_far = sym (walked-done numbers interval keys places wanted (end - counter) walk done) ∙ so_far

  pub leads-end : (end counter : ℕ) (walk : GuessWalk) → end ≤ counter → LeadsOn end counter walk → walk ≡ whole
  leads-end end counter walk last so_far =
      let none : end - counter ≡ 0 = omega (arith, last) in
      sym (ap (λ (n : ℕ). walked numbers interval keys places wanted n walk) none) ∙ so_far
