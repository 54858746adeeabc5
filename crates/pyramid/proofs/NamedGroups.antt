-- What the references of a group's commands name, and what the group leaves for the next.
use Rattle.std.proofs.Common.{◌≡◌, ℕ, ◌+◌, ◌-◌, ◌*◌, ◌%◌, ◌^◌, ◌<◌, ◌≤◌, max, Bool, true, false, cond, eqb, ltb, ◌&&◌, ◌||◌, List, [], ◌∷◌, ◌++◌, length as size, map, filter, Some, refl, sym, ap, ◌∙◌, subst, inl, inr, append_assoc, append-nil, arith, zero, suc}
use Rattle.std.specs.List.{AllByRecursion, list_all}
use Rattle.std.proofs.lemmas.Bool.{and_parts, cases_eq, cases_Bool, cond-true, cond-false, cond_both, ne_eqb, ltb-true, or_parts, eqb-false, lt-ltb, false≢true}
use Rattle.std.proofs.lemmas.Nat.{pow_pos}
use Rattle.std.proofs.lemmas.Option.{none-some}
use Rattle.std.proofs.Math.Nat.{pow-suc, pow-le-pow_right}
use Rattle.av1_settings.specs.declared.frame_type.FrameType.{FrameType}
use Rattle.av1_settings.specs.declared.frame_type.FrameType.TheVariants.{KEY, INTER, SWITCH}
use Rattle.pyramid.specs.declared.command.Command.{Command}
use Rattle.pyramid.specs.declared.command.Command.TheVariants.{Code, Show}
use Rattle.pyramid.specs.declared.rows.Row.{Row}
use Rattle.pyramid.specs.Display.{Slots, empty_slots, held, slots_after_one, slots_after}
use Rattle.pyramid.specs.Gop.{within, group, group_count}
use Rattle.pyramid.specs.Levels.{level_of, slot_at, slot_of}
use Rattle.pyramid.specs.NamedPositions.{Named, named_positions, is_key, is_full, last_of, last_key, last_full, HoldsNamed, NamesRight, SwitchesInOrder}
use Rattle.pyramid.specs.Numbers.{Numbers, group_places}
use Rattle.pyramid.specs.Positions.{row_position}
use Rattle.pyramid.specs.RowCommand.{distinct, refs_of, kind_of, refresh_of, code_of, command_of}
use Rattle.pyramid.specs.Rows.{rows, HasTable, is_row}
use Rattle.pyramid.proofs.Bits.{bit-pow, every_bit, held-set, held-kept}
use Rattle.pyramid.proofs.Current.{Holds, holds-after_one}
use Rattle.pyramid.proofs.GroupCount.{groups_needed}
use Rattle.pyramid.proofs.LevelLemmas.{level_slot, row-level, row-slot_at}
use Rattle.pyramid.proofs.Lists.{all-filter, all-passes, all_weaker, filter_all}
use Rattle.pyramid.proofs.Machine.{IsFull, bit, slots_after-append}
use Rattle.pyramid.proofs.NamedRows.{Behind, refs-named, zero-right, above-right}
use Rattle.pyramid.proofs.NamedSteps.{Each, last_of-append}
use Rattle.pyramid.proofs.RowReplay.{Knows, knows-none, after_code, bits_of, frame_of, full-after, knows-after, command-after}
use Rattle.pyramid.proofs.Tables.{fits, table, has_level, seen_after, seen_all, names_next, row_names, row_names-say, group-names, group_cut, inputs_of, shows_next, shows_first}

-- what is to be shown of each command of a plan
abbrev pub RightAt : Numbers → (ℕ → ℕ) → List Command → Command → Type 0
RightAt numbers next_of before (Code frame kind refs refresh shown) =
    (kind ≡ KEY → ⊥) → NamesRight numbers (next_of (last_key before)) before frame refs
RightAt numbers next_of before (Show slot) = Unit {0}

-- the moment after the commands `before`, in the GOP of `length` inputs from `start`, in group `number` behind the rows
-- seen; `full` is the position of the last key or switch frame
pub record At (numbers : Numbers) (start length number full : ℕ) (seen : List Row) (before : List Command) : Type 0 where
  pub key : last_key before ≡ start
  pub last : last_full before ≡ start + full
  pub early : full ≤ 2 ^ numbers.depth * number
  pub filled : IsFull (slots_after empty_slots before)
  pub hold : Holds (slots_after empty_slots before) start (start + length)
  pub behind : Behind numbers start full number seen (slots_after empty_slots before)
  pub knows : Knows start (2 ^ numbers.depth * number) number seen (slots_after empty_slots before)

one_more : (before : List Command) (command : Command) → slots_after empty_slots (before ++ command ∷ []) ≡ slots_after_one (slots_after empty_slots before) command
one_more before command = slots_after-append empty_slots before (command ∷ [])

-- what is right of a row is right of its command
names_right : (numbers : Numbers) (next_of : ℕ → ℕ) (start full next number : ℕ) (r : Row) (before : List Command) → is_row numbers.depth r ≡ true → last_key before ≡ start → last_full before ≡ start + full → next_of start ≡ next → AllByRecursion (HoldsNamed (slots_after empty_slots before) start (start + full) next) (named_positions numbers r.level (row_position numbers number r)) → NamesRight numbers (next_of (last_key before)) before (start + row_position numbers number r) (refs_of numbers r.level (row_position numbers number r))
names_right numbers next_of start full next number r before h key last end right =
    let position = row_position numbers number r in
    let frame = start + position in
    let slots = slots_after empty_slots before in
    let level = row-level numbers number r h in
    let at : position ≡ frame - last_key before = omega (arith, key) in
    let names : ℕ → List Named = λ p. named_positions numbers (level_of numbers.depth p) p in
    let names_of : ℕ → List Named = λ l. named_positions numbers l position in
    let H : ℕ → ℕ → ℕ → List Named → Type 0 = λ s f n. AllByRecursion (HoldsNamed slots s f n) in
    record {
      refs_are = refs-named numbers r.level position ∙ ap (λ l. distinct (map (λ (name : Named). name.slot) (names_of l))) level ∙ ap (λ p. distinct (map (λ (name : Named). name.slot) (names p))) at;
      hold =
          subst (λ (n : ℕ). H (last_key before) (last_full before) n (names (frame - last_key before))) (sym end ∙ ap next_of (sym key))
          (subst (λ (s : ℕ). H s (last_full before) next (names (frame - last_key before))) (sym key)
          (subst (λ (f : ℕ). H start f next (names (frame - last_key before))) (sym last)
          (subst (λ (p : ℕ). H start (start + full) next (names p)) at (subst (λ (l : ℕ). H start (start + full) next (names_of l)) level right))));
    }

module _ (numbers : Numbers) (has : HasTable numbers.depth) (start length number : ℕ) where
  abbrev small : numbers.depth ≤ 4
  small = (table numbers.depth has).small

  abbrev command : Row → Command
  command = command_of numbers start number

  abbrev place_of : Row → ℕ
  place_of r = group_places numbers * number + r.index + 1

  -- a frame of its own slot leaves the others
  kept : (r : Row) (slots : Slots) (slot : ℕ) → is_row numbers.depth r ≡ true → kind_of numbers r.level (place_of r) ≡ INTER → IsFull slots → slot < 8 → eqb (level_slot number r.level) slot ≡ false → held (after_code numbers start number small r slots) slot ≡ held slots slot
  kept r slots slot h inter full low other =
      let own = slot_at numbers.depth r.level (row_position numbers number r) in
      let bits : bits_of numbers start number small r ≡ 2 ^ level_slot number r.level = ap (λ k. refresh_of k own) inter ∙ ap (λ (s : ℕ). 2 ^ s) (row-slot_at numbers number r h) in
      held-kept (bits_of numbers start number small r) (frame_of numbers start number small r) slots slot full low
      (ap (λ (b : ℕ). bit b slot) bits ∙ bit-pow (level_slot number r.level) slot ∙ other)

  other_zeroth : (level back : ℕ) → back < 2 → eqb (level_slot number level) ((number + 4 - back) % 4) ≡ false
  other_zeroth level back h =
      cond_both (eqb level 0) ((number + 1) % 4) (3 + level) (λ s. eqb s ((number + 4 - back) % 4) ≡ false)
      (λ e. turn back h) (λ e. ne_eqb (3 + level) ((number + 4 - back) % 4) (λ same. let high = eqb-false level 0 e in high (omega arith)))
    where
      turn : (back : ℕ) → back < 2 → eqb ((number + 1) % 4) ((number + 4 - back) % 4) ≡ false
      turn zero h = ne_eqb ((number + 1) % 4) ((number + 4 - zero) % 4) (λ same. omega arith)
      turn (suc zero) h = ne_eqb ((number + 1) % 4) ((number + 4 - suc zero) % 4) (λ same. omega arith)
      turn (suc (suc back)) h = absurd (omega arith)

  other_above : (level own : ℕ) → 1 ≤ level → eqb own level ≡ false → eqb (level_slot number own) (3 + level) ≡ false
  other_above level own some apart =
      cond_both (eqb own 0) ((number + 1) % 4) (3 + own) (λ s. eqb s (3 + level) ≡ false)
      (λ e. ne_eqb ((number + 1) % 4) (3 + level) (λ same. omega arith)) (λ e. ne_eqb (3 + own) (3 + level) (λ same. eqb-false own level apart (omega arith)))

  -- what the groups before left stays behind one more row
  behind-more : (full : ℕ) (seen : List Row) (r : Row) (slots : Slots) → is_row numbers.depth r ≡ true → kind_of numbers r.level (place_of r) ≡ INTER → IsFull slots → Behind numbers start full number seen slots → Behind numbers start full number (r ∷ seen) (after_code numbers start number small r slots)
  behind-more full seen r slots h inter filled behind = record {
    zeroth = λ back low.
        kept r slots ((number + 4 - back) % 4) h inter filled (omega arith) (other_zeroth r.level back low) ∙ behind.zeroth back low;
    above = λ level some most unseen.
        let parts = or_parts (eqb r.level level) (has_level level seen) unseen in
        kept r slots (3 + level) h inter filled (omega (arith, small)) (other_above level r.level some parts.0) ∙ behind.above level some most parts.1;
  }

  last-after : (test : FrameType → Bool) (before : List Command) (r : Row) → test (kind_of numbers r.level (place_of r)) ≡ false → last_of test 0 (before ++ command r ∷ []) ≡ last_of test 0 before
  last-after test before r other =
      last_of-append test 0 before (command r ∷ []) ∙ by_test r.existing
    where
      by_test : (t : Bool) → last_of test (last_of test 0 before) (cond t (Show (slot_of numbers.depth (row_position numbers number r))) (code_of numbers start number r) ∷ []) ≡ last_of test 0 before
      by_test true = refl
      by_test false = cond-false (test (kind_of numbers r.level (place_of r))) (frame_of numbers start number small r) (last_of test 0 before) other

  coded_within : (r : Row) → row_position numbers number r < length → (start ≤ frame_of numbers start number small r) × (frame_of numbers start number small r < start + length)
  coded_within r inside = (omega arith, omega arith)

  hold-after : (r : Row) (slots : Slots) → row_position numbers number r < length → Holds slots start (start + length) → Holds (slots_after_one slots (command r)) start (start + length)
  hold-after r slots inside hold =
      cond_both r.existing (Show (slot_of numbers.depth (row_position numbers number r))) (code_of numbers start number r) (λ c. Holds (slots_after_one slots c) start (start + length))
      (λ e. hold)
      (λ e. holds-after_one slots (code_of numbers start number r) start (start + length) hold (coded_within r inside))

  at-after : (full : ℕ) (seen : List Row) (r : Row) (before : List Command) → is_row numbers.depth r ≡ true → row_position numbers number r < length → kind_of numbers r.level (place_of r) ≡ INTER → At numbers start length number full seen before → At numbers start length number full (seen_after seen r) (before ++ command r ∷ [])
  at-after full seen r before h inside inter at =
      let slots = slots_after empty_slots before in
      let more = sym (one_more before (command r)) in
      let shape = sym (command-after numbers start number small r slots) in
      record {
        key = last-after is_key before r (ap is_key inter) ∙ at.key;
        last = last-after is_full before r (ap is_full inter) ∙ at.last;
        early = at.early;
        filled = subst IsFull more (full-after numbers start number small r slots at.filled);
        hold = subst (λ (s : Slots). Holds s start (start + length)) more (hold-after r slots inside at.hold);
        behind = subst (Behind numbers start full number (seen_after seen r)) more (subst (Behind numbers start full number (seen_after seen r)) shape (by_test r.existing at.behind (behind-more full seen r slots h inter at.filled at.behind)));
        knows = subst (Knows start (2 ^ numbers.depth * number) number (seen_after seen r)) more (knows-after numbers start number small seen r slots h at.filled at.knows);
      }
    where
      by_test : (t : Bool) → Behind numbers start full number seen (slots_after empty_slots before) → Behind numbers start full number (r ∷ seen) (after_code numbers start number small r (slots_after empty_slots before)) → Behind numbers start full number (cond t seen (r ∷ seen)) (cond t (slots_after empty_slots before) (after_code numbers start number small r (slots_after empty_slots before)))
      by_test true here there = here
      by_test false here there = there

  -- a row names what it is to name
  row-right : (next_of : ℕ → ℕ) (full : ℕ) (seen : List Row) (r : Row) (before : List Command) → is_row numbers.depth r ≡ true → row_position numbers number r < length → next_of start ≡ start + length → (r.existing || row_names numbers.depth (inputs_of numbers length number) seen r) ≡ true → At numbers start length number full seen before → RightAt numbers next_of before (command r)
  row-right next_of full seen r before h inside end names at =
      let slots = slots_after empty_slots before in
      let right : r.existing ≡ false → AllByRecursion (HoldsNamed slots start (start + full) (start + length)) (named_positions numbers r.level (row_position numbers number r)) =
      λ coded.
      let named_here = either_right r.existing (row_names numbers.depth (inputs_of numbers length number) seen r) names coded in
      elim (cases_eq r.level 0) [
        | inl lowest ↦ zero-right numbers start full (start + length) number slots at.early seen r h lowest at.behind
        | inr above ↦ above-right numbers start full (start + length) number slots at.early length seen r small h above refl inside (row_names-say numbers.depth (inputs_of numbers length number) seen r named_here above) at.behind at.knows at.hold.each
      ] in
      cond_both r.existing (Show (slot_of numbers.depth (row_position numbers number r))) (code_of numbers start number r) (RightAt numbers next_of before)
      (λ e. tt)
      (λ e no. names_right numbers next_of start full (start + length) number r before h at.key at.last end (right e))
    where
      either_right : (a b : Bool) → (a || b) ≡ true → a ≡ false → b ≡ true
      either_right true b h e = absurd (false≢true (sym e))
      either_right false b h e = h

  -- where no row is a switch frame
  rows-walk : (next_of : ℕ → ℕ) (full : ℕ) (seen rs : List Row) (before : List Command) → ((r : Row) → kind_of numbers r.level (place_of r) ≡ INTER) → list_all (is_row numbers.depth) rs ≡ true → list_all (λ r. ltb (row_position numbers number r) length) rs ≡ true → next_of start ≡ start + length → names_next numbers.depth (inputs_of numbers length number) seen rs ≡ true → At numbers start length number full seen before → Each (RightAt numbers next_of) before (map command rs) × At numbers start length number full (seen_all seen rs) (before ++ map command rs)
  rows-walk next_of full seen [] before inter all inside end names at =
      (tt, subst (At numbers start length number full seen) (sym (append-nil before)) at)
  rows-walk next_of full seen (r ∷ rs) before inter all inside end names at =
      let parts = and_parts (is_row numbers.depth r) (list_all (is_row numbers.depth) rs) all in
      let within_parts = and_parts (ltb (row_position numbers number r) length) (list_all (λ r. ltb (row_position numbers number r) length) rs) inside in
      let name_parts = and_parts (r.existing || row_names numbers.depth (inputs_of numbers length number) seen r) (names_next numbers.depth (inputs_of numbers length number) (seen_after seen r) rs) names in
      let low = ltb-true (row_position numbers number r) length within_parts.0 in
      let here = row-right next_of full seen r before parts.0 low end name_parts.0 at in
      let rest = rows-walk next_of full (seen_after seen r) rs (before ++ command r ∷ []) inter parts.1 within_parts.1 end name_parts.1 (at-after full seen r before parts.0 low (inter r) at) in
      ((here, rest.0), subst (At numbers start length number full (seen_all (seen_after seen r) rs)) (append_assoc before (command r ∷ []) (map command rs)) rest.1)

  -- behind a whole group each slot is as the next group finds it
  next-at : (full : ℕ) (before : List Command) → At numbers start length number full (seen_all [] (rows numbers.depth)) before → At numbers start length (suc number) full [] before
  next-at full before at =
      let t = table numbers.depth has in
      let inputs = 2 ^ numbers.depth in
      let slots = slots_after empty_slots before in
      let early = at.early in
      let lowest = at.knows 0 inputs (omega arith) t.lowest in
      record {
        key = at.key;
        last = at.last;
        early = omega arith;
        filled = at.filled;
        hold = at.hold;
        behind = record {
          zeroth = zeroth slots full early lowest at.behind;
          above = λ level some most unseen.
              let low : level ≤ 4 = omega (arith, t.small) in
              let slot : 3 + level ≡ level_slot number level = sym (cond-false (eqb level 0) ((number + 1) % 4) (3 + level) (ne_eqb level 0 (λ e. omega arith))) in
              let there = at.knows level (inputs - 2 ^ (numbers.depth - level)) low (t.above level some most) in
              let half : 2 ^ (numbers.depth - level) ≤ inputs = pow-le-pow_right {n = 2} (omega arith) (omega arith) in
              ap (λ (s : ℕ). held slots s) slot ∙ there ∙ ap Some (let e : start + (inputs * number + (inputs - 2 ^ (numbers.depth - level))) ≡ start + max (inputs * suc number - 2 ^ (numbers.depth - level)) full = omega arith in e);
        };
        knows = knows-none start (inputs * suc number) (suc number) slots;
      }
    where
      zeroth : (slots : Slots) (full : ℕ) → full ≤ 2 ^ numbers.depth * number → held slots (level_slot number 0) ≡ Some (start + (2 ^ numbers.depth * number + 2 ^ numbers.depth)) → Behind numbers start full number (seen_all [] (rows numbers.depth)) slots → (back : ℕ) → back < 2 → held slots ((suc number + 4 - back) % 4) ≡ Some (start + max (2 ^ numbers.depth * (suc number - back)) full)
      zeroth slots full early lowest behind zero low =
          let slot : (suc number + 4 - zero) % 4 ≡ (number + 1) % 4 = omega arith in
          let whole : 2 ^ numbers.depth * (suc number - zero) ≡ 2 ^ numbers.depth * number + 2 ^ numbers.depth = let e : suc number - zero ≡ number + 1 = omega arith in ap (λ (n : ℕ). 2 ^ numbers.depth * n) e ∙ omega arith in
          ap (λ (s : ℕ). held slots s) slot ∙ lowest ∙ ap Some (let e : start + (2 ^ numbers.depth * number + 2 ^ numbers.depth) ≡ start + max (2 ^ numbers.depth * (suc number - zero)) full = omega (arith, whole) in e)
      zeroth slots full early lowest behind (suc zero) low =
          let slot : (suc number + 4 - suc zero) % 4 ≡ (number + 4 - 0) % 4 = omega arith in
          let same : number - 0 ≡ suc number - suc zero = omega arith in
          ap (λ (s : ℕ). held slots s) slot ∙ behind.zeroth 0 (omega arith) ∙ ap (λ (n : ℕ). Some (start + max (2 ^ numbers.depth * n) full)) same
      zeroth slots full early lowest behind (suc (suc back)) low = absurd (omega arith)

  abbrev rows_here : List Row
  rows_here = within numbers length number (rows numbers.depth)

  all_rows : list_all (is_row numbers.depth) rows_here ≡ true
  all_rows = all-filter (is_row numbers.depth) (λ r. ltb (row_position numbers number r) length) (rows numbers.depth) (table numbers.depth has).all

  -- a group before the last has all rows
  whole-rows : suc number < group_count numbers length → rows_here ≡ rows numbers.depth
  whole-rows more =
      let inputs = 2 ^ numbers.depth in
      let needed = groups_needed numbers length (suc number) more in
      filter_all (λ r. ltb (row_position numbers number r) length) (rows numbers.depth)
      (all_weaker (is_row numbers.depth) (λ r. ltb (row_position numbers number r) length) (λ r passes. let f = fits numbers.depth r passes in lt-ltb (row_position numbers number r) length (omega (arith, f.within))) (rows numbers.depth) (table numbers.depth has).all)

  abbrev Step : (ℕ → ℕ) → List Command → Type 0
  Step next_of before =
      Each (RightAt numbers next_of) before (group numbers start length number) × (suc number < group_count numbers length → (full : ℕ) × At numbers start length (suc number) full [] (before ++ group numbers start length number))

  -- a group without switch frames
  plain-step : (next_of : ℕ → ℕ) (full : ℕ) (before : List Command) → numbers.switch_interval ≡ 0 → next_of start ≡ start + length → At numbers start length number full [] before → Step next_of before
  plain-step next_of full before none end at =
      let inter : (r : Row) → kind_of numbers r.level (place_of r) ≡ INTER = λ r. ap (λ (w : ℕ). cond (ltb 0 w && eqb r.level 0 && eqb (place_of r % w) 0) SWITCH INTER) none in
      let walk = rows-walk next_of full [] rows_here before inter all_rows (all-passes (λ r. ltb (row_position numbers number r) length) (rows numbers.depth)) end (group-names numbers length number has) at in (
        walk.0,
        λ more.
            let behind = subst (λ (rs : List Row). At numbers start length number full (seen_all [] rs) (before ++ map command rows_here)) (whole-rows more) walk.1 in
            (full, next-at full (before ++ map command rows_here) behind),
      )

  -- a group of one input
  single : (xs : List Row) → size xs ≡ 1 → (r : Row) × (xs ≡ r ∷ [])
  single [] e = absurd (omega arith)
  single (r ∷ []) e = (r, refl)
  single (r ∷ s ∷ xs) e = absurd (omega arith)

  switched : (full : ℕ) (r : Row) (before : List Command) → numbers.depth ≡ 0 → is_row numbers.depth r ≡ true → row_position numbers number r < length → r.existing ≡ false → kind_of numbers r.level (place_of r) ≡ SWITCH → At numbers start length number full [] before → At numbers start length (suc number) (row_position numbers number r) [] (before ++ command r ∷ [])
  switched full r before flat h inside coded switch at =
      let slots = slots_after empty_slots before in
      let frame = frame_of numbers start number small r in
      let code = code_of numbers start number r in
      let f = fits numbers.depth r h in
      let is_code : command r ≡ code = cond-false r.existing (Show (slot_of numbers.depth (row_position numbers number r))) code coded in
      let after = slots_after empty_slots (before ++ command r ∷ []) in
      let shape : after ≡ after_code numbers start number small r slots = one_more before (command r) ∙ ap (slots_after_one slots) is_code in
      let bits : bits_of numbers start number small r ≡ 255 = ap (λ k. refresh_of k (slot_at numbers.depth r.level (row_position numbers number r))) switch in
      let every : (slot : ℕ) → slot < 8 → held after slot ≡ Some frame = λ slot low.
      ap (λ (s : Slots). held s slot) shape ∙ held-set (bits_of numbers start number small r) frame slots slot at.filled low (ap (λ (b : ℕ). bit b slot) bits ∙ every_bit slot low) in
      record {
        key = last-after is_key before r (ap is_key switch) ∙ at.key;
        last =
            last_of-append is_full 0 before (command r ∷ []) ∙ ap (λ c. last_of is_full (last_full before) (c ∷ [])) is_code
            ∙ cond-true (is_full (kind_of numbers r.level (place_of r))) frame (last_full before) (ap is_full switch);
        early = omega (arith, f.within);
        filled = subst IsFull (sym (one_more before (command r))) (full-after numbers start number small r slots at.filled);
        hold = subst (λ (s : Slots). Holds s start (start + length)) (sym (one_more before (command r))) (hold-after r slots inside at.hold);
        behind = record {
          zeroth = λ back low.
              every ((suc number + 4 - back) % 4) (omega arith) ∙ ap Some (let e : frame ≡ start + max (2 ^ numbers.depth * (suc number - back)) (row_position numbers number r) = flat_frame back f.above in e);
          above = λ level some most unseen. absurd (omega arith);
        };
        knows = knows-none start (2 ^ numbers.depth * suc number) (suc number) after;
      }
    where
      one_input : 2 ^ numbers.depth ≡ 1
      one_input = ap (λ (d : ℕ). 2 ^ d) flat

      flat_frame : (back : ℕ) → 0 < r.offset → frame_of numbers start number small r ≡ start + max (2 ^ numbers.depth * (suc number - back)) (row_position numbers number r)
      flat_frame back above =
          let here : 2 ^ numbers.depth * (suc number - back) ≡ 1 * (suc number - back) = ap (λ (n : ℕ). n * (suc number - back)) one_input in
          let there : 2 ^ numbers.depth * number ≡ 1 * number = ap (λ (n : ℕ). n * number) one_input in
          omega (arith, here, there, above)

  flat-step : (next_of : ℕ → ℕ) (full : ℕ) (before : List Command) → numbers.depth ≡ 0 → number < group_count numbers length → next_of start ≡ start + length → At numbers start length number full [] before → Step next_of before
  flat-step next_of full before flat there end at =
      let t = table numbers.depth has in
      let one_input : 2 ^ numbers.depth ≡ 1 = ap (λ (d : ℕ). 2 ^ d) flat in
      let only = single (rows numbers.depth) (omega (arith, t.size, one_input, flat)) in
      let r = only.0 in
      let p : Row → Bool = λ r. ltb (row_position numbers number r) length in
      let h : is_row numbers.depth r ≡ true = (and_parts (is_row numbers.depth r) true (sym (ap (list_all (is_row numbers.depth)) only.1) ∙ t.all)).0 in
      let f = fits numbers.depth r h in
      let needed = groups_needed numbers length number there in
      let inside : row_position numbers number r < length = omega (arith, f.within, one_input) in
      let here : rows_here ≡ r ∷ [] = ap (filter p) only.1 ∙ cond-true (p r) (r ∷ []) [] (lt-ltb (row_position numbers number r) length inside) in
      let shows = shows_first [] 1 r [] (sym (ap (λ rs. shows_next [] 1 rs) here) ∙ (group_cut numbers length number has).shows) in
      let coded : r.existing ≡ false = elim (cases_Bool r.existing) [ inl e ↦ absurd (none-some r.offset (shows.existing e)) | inr e ↦ e ] in
      let names = and_parts (r.existing || row_names numbers.depth (inputs_of numbers length number) [] r) true (sym (ap (names_next numbers.depth (inputs_of numbers length number) []) here) ∙ group-names numbers length number has) in
      let commands : group numbers start length number ≡ command r ∷ [] = ap (map command) here in
      let P : List Command → Type 0 = λ cs. Each (RightAt numbers next_of) before cs × (suc number < group_count numbers length → (full : ℕ) × At numbers start length (suc number) full [] (before ++ cs)) in
      let test = ltb 0 numbers.switch_interval && eqb r.level 0 && eqb (place_of r % numbers.switch_interval) 0 in
      let after : (full : ℕ) × At numbers start length (suc number) full [] (before ++ command r ∷ []) =
      elim (cases_Bool test) [
        | inl e ↦ (row_position numbers number r, switched full r before flat h inside coded (cond-true test SWITCH INTER e) at)
        | inr e ↦
            let plain = at-after full [] r before h inside (cond-false test SWITCH INTER e) at in
            (full, next-at full (before ++ command r ∷ []) (subst (λ (rs : List Row). At numbers start length number full (seen_all [] rs) (before ++ command r ∷ [])) (sym only.1) plain))
      ] in
      subst P (sym commands) ((row-right next_of full [] r before h inside end names.0 at, tt), λ more. after)

  pub group-step : (next_of : ℕ → ℕ) (full : ℕ) (before : List Command) → SwitchesInOrder numbers → number < group_count numbers length → next_of start ≡ start + length → At numbers start length number full [] before → Step next_of before
  group-step next_of full before (inl none) there end at = plain-step next_of full before none end at
  group-step next_of full before (inr flat) there end at = flat-step next_of full before (no_depth numbers.depth flat) there end at
    where
      no_depth : (depth : ℕ) → 2 ^ depth ≡ 1 → depth ≡ 0
      no_depth zero e = refl
      no_depth (suc depth) e = absurd (omega (arith, pow-suc 2 depth, pow_pos depth))
