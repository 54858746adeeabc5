-- The rows of a group, replayed from any eight full slots.
use Rattle.std.proofs.Common.{◌≡◌, ℕ, ◌+◌, ◌-◌, ◌*◌, ◌%◌, ◌^◌, ◌<◌, ◌≤◌, Bool, true, false, not, cond, eqb, ltb, ◌&&◌, List, [], ◌∷◌, ◌++◌, map, None, Some, refl, sym, ap, ap₂, ◌∙◌, subst, inl, inr, arith, suc}
use Rattle.std.specs.Prelude.{is_some}
use Rattle.std.specs.Option.{option_to_list}
use Rattle.std.specs.List.{list_all, count_by, range_with_len}
use Rattle.std.proofs.lemmas.Bool.{and_parts, and_from, and_left, cond_both, cases_Bool, cases_eq, cond-true, cond-false, eq-eqb, ne_eqb, lt-ltb, ltb-true}
use Rattle.std.proofs.lemmas.Option.{none-some, same_Some}
use Rattle.av1_settings.specs.declared.frame_type.FrameType.TheVariants.{INTER, SWITCH}
use Rattle.pyramid.specs.declared.command.Command.TheVariants.{Show}
use Rattle.pyramid.specs.declared.rows.Row.{Row}
use Rattle.pyramid.specs.Display.{Slots, held, refreshed, names_full, shown_by, slots_after_one, slots_after}
use Rattle.pyramid.specs.Levels.{slot_at, slot_of}
use Rattle.pyramid.specs.Numbers.{Numbers, group_places}
use Rattle.pyramid.specs.Positions.{row_position}
use Rattle.pyramid.specs.RowCommand.{distinct, level_zero_refs, refs_of, kind_of, refresh_of, code_of, command_of}
use Rattle.pyramid.specs.Rows.{is_row}
use Rattle.pyramid.proofs.Bits.{bit-own, bit-pow, held-set, held-kept}
use Rattle.pyramid.proofs.LevelLemmas.{small-slot_at, small-slot_of, level_slot, level_slot-small, row-slot_at, row-slot_of, level-within}
use Rattle.pyramid.proofs.Lists.{all-filter, count-cons}
use Rattle.pyramid.proofs.Machine.{IsFull, bit, is_some-held, IsFull-refreshed, Replays, Replays-nil, Replays-cons}
use Rattle.pyramid.proofs.Tables.{fits, seen_at, seen_after, next_after, shows_next, ShowsNext, shows_first}

-- slots that there are
abbrev pub are_small : List ℕ → Bool
are_small slots = list_all (λ slot. ltb slot 8) slots

small-distinct : (xs : List ℕ) → are_small xs ≡ true → are_small (distinct xs) ≡ true
small-distinct [] h = refl
small-distinct (x ∷ xs) h =
    let parts = and_parts (ltb x 8) (are_small xs) h in
    and_from (ltb x 8) _ parts.0 (all-filter (λ slot. ltb slot 8) (λ y. not (eqb y x)) (distinct xs) (small-distinct xs parts.1))

small-three : (a b c : ℕ) → a < 8 → b < 8 → c < 8 → are_small (a ∷ b ∷ c ∷ []) ≡ true
small-three a b c ha hb hc =
    and_from (ltb a 8) _ (lt-ltb a 8 ha) (and_from (ltb b 8) _ (lt-ltb b 8 hb) (and_from (ltb c 8) true (lt-ltb c 8 hc) refl))

small-zero : (m : Bool) (slot : ℕ) → are_small ((slot + 3) % 4 ∷ cond m ((slot + 2) % 4 ∷ []) []) ≡ true
small-zero true slot =
    and_from (ltb ((slot + 3) % 4) 8) _ (lt-ltb _ 8 (omega arith)) (and_from (ltb ((slot + 2) % 4) 8) true (lt-ltb _ 8 (omega arith)) refl)
small-zero false slot = and_from (ltb ((slot + 3) % 4) 8) true (lt-ltb _ 8 (omega arith)) refl

pub small-refs : (numbers : Numbers) (level position : ℕ) → numbers.depth ≤ 4 → level ≤ 4 → are_small (refs_of numbers level position) ≡ true
small-refs numbers level position small low =
    let slot = slot_at numbers.depth level position in
    let half = 2 ^ (numbers.depth - level) in
    let three = slot_of numbers.depth (position - half) ∷ slot_of numbers.depth (position + half) ∷ slot ∷ [] in
    elim (cases_Bool (eqb level 0)) [
      | inl e ↦ ap are_small (cond-true (eqb level 0) (level_zero_refs numbers slot) (distinct three) e) ∙ small-zero numbers.multiref slot
      | inr e ↦
          ap are_small (cond-false (eqb level 0) (level_zero_refs numbers slot) (distinct three) e)
          ∙ small-distinct three (small-three (slot_of numbers.depth (position - half)) (slot_of numbers.depth (position + half)) slot (small-slot_of numbers.depth (position - half) small) (small-slot_of numbers.depth (position + half) small) (small-slot_at numbers.depth level position low))
    ]

-- full slots have each slot that is named
all_held : (slots : Slots) (refs : List ℕ) → IsFull slots → are_small refs ≡ true → list_all (λ slot. is_some (held slots slot)) refs ≡ true
all_held slots [] full h = refl
all_held slots (r ∷ refs) full h =
    let parts = and_parts (ltb r 8) (are_small refs) h in
    let low = ltb-true r 8 parts.0 in
    and_from (is_some (held slots r)) _ (is_some-held slots r full.all (omega (arith, full.eight))) (all_held slots refs full parts.1)

-- the level's slot has the frame of the position that was seen last
abbrev pub Knows : ℕ → ℕ → ℕ → List Row → Slots → Type 0
Knows start base number seen slots =
    (level offset : ℕ) → level ≤ 4 → seen_at level seen ≡ Some offset → held slots (level_slot number level) ≡ Some (start + (base + offset))

pub kind-above : (numbers : Numbers) (level place : ℕ) → (level ≡ 0 → ⊥) → kind_of numbers level place ≡ INTER
kind-above numbers level place h =
    let zeroth = ne_eqb level 0 h in
    above (ltb 0 numbers.switch_interval) (eqb level 0) (eqb (place % numbers.switch_interval) 0) zeroth
  where
    above : (a b c : Bool) → b ≡ false → cond (a && b && c) SWITCH INTER ≡ INTER
    above true b c e = cond-false (b && c) _ INTER (and_left b c e)
    above false b c e = refl

other_slot : (number level own : ℕ) → (level ≡ own → ⊥) → (own ≡ 0 → ⊥) → eqb (3 + own) (level_slot number level) ≡ false
other_slot number level own apart above =
    cond_both (eqb level 0) ((number + 1) % 4) (3 + level) (λ n. eqb (3 + own) n ≡ false)
    (λ e. ne_eqb (3 + own) ((number + 1) % 4) (λ same. omega arith)) (λ e. ne_eqb (3 + own) (3 + level) (λ same. apart (omega arith)))

-- a row that is coded
module _ (numbers : Numbers) (start number : ℕ) (small : numbers.depth ≤ 4) where
  abbrev pub base : ℕ
  base = 2 ^ numbers.depth * number

  abbrev pub frame_of : Row → ℕ
  frame_of r = start + row_position numbers number r

  abbrev pub bits_of : Row → ℕ
  bits_of r = refresh_of (kind_of numbers r.level (group_places numbers * number + r.index + 1)) (slot_at numbers.depth r.level (row_position numbers number r))

  abbrev pub after_code : Row → Slots → Slots
  after_code r slots = refreshed (bits_of r) (frame_of r) slots

  pub low_level : (r : Row) → is_row numbers.depth r ≡ true → r.level ≤ 4
  low_level r h = let within = level-within numbers.depth r.offset in omega (arith, (fits numbers.depth r h).level)

  -- the slots that the others have stay where the row is above level 0
  knows-more : (seen : List Row) (r : Row) (slots : Slots) → is_row numbers.depth r ≡ true → IsFull slots → Knows start base number seen slots → Knows start base number (r ∷ seen) (after_code r slots)
  knows-more seen r slots h full knows level offset low is = elim (cases_eq r.level level) [
    | inl same ↦
        let own = row-slot_at numbers number r h in
        let position : r.offset ≡ offset = same_Some r.offset offset (sym (cond-true (eqb r.level level) (Some r.offset) _ (eq-eqb r.level level same)) ∙ is) in
        let slot = slot_at numbers.depth r.level (row_position numbers number r) in
        let kind = kind_of numbers r.level (group_places numbers * number + r.index + 1) in
        let here : held (after_code r slots) slot ≡ Some (frame_of r) = held-set (bits_of r) (frame_of r) slots slot full (small-slot_at numbers.depth r.level (row_position numbers number r) (low_level r h)) (bit-own kind slot (small-slot_at numbers.depth r.level (row_position numbers number r) (low_level r h))) in
        ap (λ (l : ℕ). held (after_code r slots) (level_slot number l)) (sym same) ∙ ap (λ (s : ℕ). held (after_code r slots) s) (sym own) ∙ here ∙ ap (λ (o : ℕ). Some (start + (base + o))) position
    | inr other ↦
        let rest : cond (eqb r.level 0) None (seen_at level seen) ≡ Some offset = sym (cond-false (eqb r.level level) (Some r.offset) _ (ne_eqb r.level level other)) ∙ is in
        elim (cases_eq r.level 0) [
          | inl lowest ↦ absurd (none-some offset (sym (cond-true (eqb r.level 0) None (seen_at level seen) (eq-eqb r.level 0 lowest)) ∙ rest))
          | inr above ↦
              let before : seen_at level seen ≡ Some offset = sym (cond-false (eqb r.level 0) None (seen_at level seen) (ne_eqb r.level 0 above)) ∙ rest in
              let high : slot_at numbers.depth r.level (row_position numbers number r) ≡ 3 + r.level = cond-false (eqb r.level 0) _ (3 + r.level) (ne_eqb r.level 0 above) in
              let kind = kind-above numbers r.level (group_places numbers * number + r.index + 1) above in
              let bits : bits_of r ≡ 2 ^ (3 + r.level) = ap (λ k. refresh_of k (slot_at numbers.depth r.level (row_position numbers number r))) kind ∙ ap (λ (s : ℕ). 2 ^ s) high in
              let unset : bit (bits_of r) (level_slot number level) ≡ false = ap (λ (b : ℕ). bit b (level_slot number level)) bits ∙ bit-pow (3 + r.level) (level_slot number level) ∙ other_slot number level r.level (λ e. other (sym e)) above in
              held-kept (bits_of r) (frame_of r) slots (level_slot number level) full (level_slot-small number level low) unset ∙ knows level offset low before
        ]
  ]

  -- what one row's command does
  pub command-after : (r : Row) (slots : Slots) → slots_after_one slots (command_of numbers start number r) ≡ cond r.existing slots (after_code r slots)
  command-after r slots = by_test r.existing
    where
      by_test : (t : Bool) → slots_after_one slots (cond t (Show (slot_of numbers.depth (row_position numbers number r))) (code_of numbers start number r)) ≡ cond t slots (after_code r slots)
      by_test true = refl
      by_test false = refl

  pub full-after : (r : Row) (slots : Slots) → IsFull slots → IsFull (slots_after_one slots (command_of numbers start number r))
  full-after r slots full =
      subst IsFull (sym (command-after r slots)) (cond_both r.existing slots (after_code r slots) IsFull (λ e. full) (λ e. IsFull-refreshed (bits_of r) (frame_of r) slots full))

  pub knows-after : (seen : List Row) (r : Row) (slots : Slots) → is_row numbers.depth r ≡ true → IsFull slots → Knows start base number seen slots → Knows start base number (seen_after seen r) (slots_after_one slots (command_of numbers start number r))
  knows-after seen r slots h full knows =
      subst (Knows start base number (seen_after seen r)) (sym (command-after r slots)) (by_test r.existing)
    where
      by_test : (t : Bool) → Knows start base number (cond t seen (r ∷ seen)) (cond t slots (after_code r slots))
      by_test true = knows
      by_test false = knows-more seen r slots h full knows

  -- where a row shows what a slot holds, that is the frame of its position
  pub existing-held : (seen : List Row) (next : ℕ) (r : Row) (rest : List Row) (slots : Slots) → is_row numbers.depth r ≡ true → ShowsNext seen next r rest → Knows start base number seen slots → r.existing ≡ true → held slots (slot_of numbers.depth (row_position numbers number r)) ≡ Some (frame_of r)
  existing-held seen next r rest slots h shows knows existing =
      ap (λ (s : ℕ). held slots s) (row-slot_of numbers number r h) ∙ knows r.level r.offset (low_level r h) (shows.existing existing)

  command-full : (seen : List Row) (next : ℕ) (r : Row) (rest : List Row) (slots : Slots) → is_row numbers.depth r ≡ true → ShowsNext seen next r rest → Knows start base number seen slots → IsFull slots → names_full slots (command_of numbers start number r) ≡ true
  command-full seen next r rest slots h shows knows full =
      cond_both r.existing (Show (slot_of numbers.depth (row_position numbers number r))) (code_of numbers start number r) (λ c. names_full slots c ≡ true)
      (λ e. ap is_some (existing-held seen next r rest slots h shows knows e))
      (λ e. all_held slots (refs_of numbers r.level (row_position numbers number r)) full (small-refs numbers r.level (row_position numbers number r) small (low_level r h)))

  command-shows : (seen : List Row) (next : ℕ) (r : Row) (rest : List Row) (slots : Slots) → is_row numbers.depth r ≡ true → ShowsNext seen next r rest → Knows start base number seen slots → shown_by slots (command_of numbers start number r) ≡ cond r.shown (frame_of r ∷ []) []
  command-shows seen next r rest slots h shows knows =
      cond_both r.existing (Show (slot_of numbers.depth (row_position numbers number r))) (code_of numbers start number r) (λ c. shown_by slots c ≡ cond r.shown (frame_of r ∷ []) [])
      (λ e. ap option_to_list (existing-held seen next r rest slots h shows knows e) ∙ sym (cond-true r.shown (frame_of r ∷ []) [] ((fits numbers.depth r h).visible e)))
      (λ e. refl)

  -- the rows show their frames in order
  range-more : (next : ℕ) (r : Row) (rest : List Row) → (r.shown ≡ true → r.offset ≡ next) → cond r.shown (frame_of r ∷ []) [] ++ range_with_len (start + (base + next_after next r)) (count_by (λ r. r.shown) rest) ≡ range_with_len (start + (base + next)) (count_by (λ r. r.shown) (r ∷ rest))
  range-more next r rest at =
      by_test r.shown at ∙ ap (range_with_len (start + (base + next))) (sym (count-cons (λ r. r.shown) r rest))
    where
      by_test : (t : Bool) → (t ≡ true → r.offset ≡ next) → cond t (frame_of r ∷ []) [] ++ range_with_len (start + (base + cond t (next + 1) next)) (count_by (λ r. r.shown) rest) ≡ range_with_len (start + (base + next)) (cond t 1 0 + count_by (λ r. r.shown) rest)
      by_test true at =
          let first : frame_of r ≡ start + (base + next) = ap (λ (o : ℕ). start + (base + o)) (at refl) in
          let then : start + (base + (next + 1)) ≡ start + (base + next) + 1 = omega arith in
          let one : suc (count_by (λ r. r.shown) rest) ≡ 1 + count_by (λ r. r.shown) rest = omega arith in
          ap₂ (λ (f a : ℕ). f ∷ range_with_len a (count_by (λ r. r.shown) rest)) first then ∙ ap (range_with_len (start + (base + next))) one
      by_test false at =
          let none : count_by (λ r. r.shown) rest ≡ 0 + count_by (λ r. r.shown) rest = omega arith in
          ap (range_with_len (start + (base + next))) none

  pub rows-replay : (seen : List Row) (next : ℕ) (rs : List Row) (slots : Slots) → list_all (is_row numbers.depth) rs ≡ true → shows_next seen next rs ≡ true → IsFull slots → Knows start base number seen slots → Replays IsFull slots (map (command_of numbers start number) rs) (range_with_len (start + (base + next)) (count_by (λ r. r.shown) rs))
  rows-replay seen next [] slots all order full knows = Replays-nil IsFull slots full
  rows-replay seen next (r ∷ rest) slots all order full knows =
      let parts = and_parts (is_row numbers.depth r) (list_all (is_row numbers.depth) rest) all in
      let shows = shows_first seen next r rest order in
      let command = command_of numbers start number r in
      let after = rows-replay (seen_after seen r) (next_after next r) rest (slots_after_one slots command) parts.1 shows.rest (full-after r slots full) (knows-after seen r slots parts.0 full knows) in
      subst (Replays IsFull slots (command ∷ map (command_of numbers start number) rest)) (range-more next r rest shows.shown)
      (Replays-cons IsFull slots command (map (command_of numbers start number) rest) _ _ (command-full seen next r rest slots parts.0 shows knows full) (command-shows seen next r rest slots parts.0 shows knows) after)

  -- what a slot has that a later row shows
  pub front-held : (seen : List Row) (next : ℕ) (front : List Row) (r : Row) (back : List Row) (slots : Slots) → list_all (is_row numbers.depth) (front ++ (r ∷ back)) ≡ true → shows_next seen next (front ++ (r ∷ back)) ≡ true → IsFull slots → Knows start base number seen slots → r.existing ≡ true → held (slots_after slots (map (command_of numbers start number) front)) (slot_of numbers.depth (row_position numbers number r)) ≡ Some (frame_of r)
  front-held seen next [] r back slots all order full knows existing =
      existing-held seen next r back slots (and_parts (is_row numbers.depth r) (list_all (is_row numbers.depth) back) all).0 (shows_first seen next r back order) knows existing
  front-held seen next (x ∷ front) r back slots all order full knows existing =
      let parts = and_parts (is_row numbers.depth x) (list_all (is_row numbers.depth) (front ++ (r ∷ back))) all in
      let shows = shows_first seen next x (front ++ (r ∷ back)) order in
      front-held (seen_after seen x) (next_after next x) front r back (slots_after_one slots (command_of numbers start number x)) parts.1 shows.rest (full-after x slots full) (knows-after seen x slots parts.0 full knows) existing

-- nothing is known of a group that has no row yet
pub knows-none : (start start_of number : ℕ) (slots : Slots) → Knows start start_of number [] slots
knows-none start start_of number slots level offset low is = absurd (none-some offset is)
