-- What the references of a group's rows name, row by row.
use Rattle.std.proofs.Common.{◌≡◌, ℕ, ◌+◌, ◌-◌, ◌*◌, ◌/◌, ◌%◌, ◌^◌, ◌<◌, ◌≤◌, max, Bool, true, false, not, cond, eqb, List, [], ◌∷◌, map, Option, Some, refl, sym, ap, ◌∙◌, subst, inl, inr, arith}
use Rattle.std.specs.List.{AllByRecursion}
use Rattle.std.specs.Option.{IsSomeAnd}
use Rattle.std.specs.Prelude.{◌↔◌}
use Rattle.std.specs.Int.Count.{trailing_of_zero}
use Rattle.std.proofs.lemmas.Bool.{cases_lt, cond-true, cond-false, cond_both, eq-eqb, ne_eqb, eqb-true}
use Rattle.std.proofs.lemmas.Nat.{pow_pos, div-mul-add}
use Rattle.pyramid.specs.declared.rows.Row.{Row}
use Rattle.pyramid.specs.Display.{Slots, held}
use Rattle.pyramid.specs.Levels.{level_of, slot_at, slot_of}
use Rattle.pyramid.specs.NamedPositions.{Named, named, named_positions, HoldsNamed}
use Rattle.pyramid.specs.Numbers.{Numbers}
use Rattle.pyramid.specs.Positions.{row_position}
use Rattle.pyramid.specs.RowCommand.{distinct, refs_of}
use Rattle.pyramid.specs.Rows.{is_row}
use Rattle.pyramid.specs.MidGop.{AllHold}
use Rattle.pyramid.proofs.DepthFacts.{half_within}
use Rattle.pyramid.proofs.LevelLemmas.{level-shift, level-within, level_slot, row-slot_at, small-slot_of}
use Rattle.pyramid.proofs.RowReplay.{Knows}
use Rattle.pyramid.proofs.Tables.{fits, Seen, RowNames, has_level, inputs_of}

apart : (slot : ℕ) → eqb ((slot + 2) % 4) ((slot + 3) % 4) ≡ false
apart slot = ne_eqb ((slot + 2) % 4) ((slot + 3) % 4) (λ e. omega arith)

-- the slots of the named positions are those that the frame names
pub refs-named : (numbers : Numbers) (level position : ℕ) → refs_of numbers level position ≡ distinct (map (λ (name : Named). name.slot) (named_positions numbers level position))
refs-named numbers level position =
    by_level (eqb level 0) numbers.multiref
  where
    by_level : (t m : Bool) → cond t ((slot_at numbers.depth level position + 3) % 4 ∷ cond m ((slot_at numbers.depth level position + 2) % 4 ∷ []) []) (distinct (slot_of numbers.depth (position - 2 ^ (numbers.depth - level)) ∷ slot_of numbers.depth (position + 2 ^ (numbers.depth - level)) ∷ slot_at numbers.depth level position ∷ []))
        ≡ distinct (map (λ (name : Named). name.slot)
        (cond t (named ((slot_at numbers.depth level position + 3) % 4) (position - 2 ^ (numbers.depth - level)) false ∷ cond m (named ((slot_at numbers.depth level position + 2) % 4) (position - 2 * 2 ^ (numbers.depth - level)) false ∷ []) [])
        (named (slot_of numbers.depth (position - 2 ^ (numbers.depth - level))) (position - 2 ^ (numbers.depth - level)) false ∷ named (slot_of numbers.depth (position + 2 ^ (numbers.depth - level))) (position + 2 ^ (numbers.depth - level)) true ∷ named (slot_at numbers.depth level position) (position - 2 * 2 ^ (numbers.depth - level)) false ∷ [])))
    by_level true true =
        let s = slot_at numbers.depth level position in
        ap (λ (b : Bool). (s + 3) % 4 ∷ cond (not b) ((s + 2) % 4 ∷ []) []) (sym (apart s))
    by_level true false = refl
    by_level false m = refl

-- what level 0 and each level above that has no row yet have of the groups before: `full` is the last key or switch
pub record Behind (numbers : Numbers) (start full number : ℕ) (seen : List Row) (slots : Slots) : Type 0 where
  pub zeroth : (back : ℕ) → back < 2 → held slots ((number + 4 - back) % 4) ≡ Some (start + max (2 ^ numbers.depth * (number - back)) full)
  pub above : (level : ℕ) → 1 ≤ level → level ≤ numbers.depth → has_level level seen ≡ false → held slots (3 + level) ≡ Some (start + max (2 ^ numbers.depth * number - 2 ^ (numbers.depth - level)) full)

same_held : (slots : Slots) (slot other frame held_frame : ℕ) → slot ≡ other → held slots other ≡ Some held_frame → held_frame ≡ frame → held slots slot ≡ Some frame
same_held slots slot other frame held_frame e h f = ap (λ (s : ℕ). held slots s) e ∙ h ∙ ap Some f

-- the slot of a position that is a number of whole groups, and of one that a row has
whole-slot : (depth number : ℕ) → slot_of depth (2 ^ depth * number) ≡ number % 4
whole-slot depth number =
    let none : 2 ^ depth * number ≡ 2 ^ depth * number + 0 = omega arith in
    let level : level_of depth (2 ^ depth * number) ≡ 0 =
    ap (level_of depth) none ∙ level-shift depth number 0 ∙ (let all = trailing_of_zero depth in omega arith) in
    let groups : 2 ^ depth * number ≡ number * 2 ^ depth + 0 = omega arith in
    ap (λ (l : ℕ). slot_at depth l (2 ^ depth * number)) level
    ∙ ap (λ (n : ℕ). n / 2 ^ depth % 4) groups ∙ ap (λ (n : ℕ). n % 4) (div-mul-add number (2 ^ depth) 0 (pow_pos depth))

seen-slot : (depth number offset : ℕ) → (level_of depth offset ≡ 0 → offset ≡ 2 ^ depth) → slot_of depth (2 ^ depth * number + offset) ≡ level_slot number (level_of depth offset)
seen-slot depth number offset whole =
    let position = 2 ^ depth * number + offset in
    let level = level_of depth offset in
    ap (λ (l : ℕ). slot_at depth l position) (level-shift depth number offset)
    ∙ cond_both (eqb level 0) ((number + 1) % 4) (3 + level) (λ s. slot_at depth level position ≡ s)
    (λ e.
    let end = whole (eqb-true level 0 e) in
    let groups : position ≡ (number + 1) * 2 ^ depth + 0 = omega arith in
    cond-true (eqb level 0) (position / 2 ^ depth % 4) (3 + level) e
    ∙ ap (λ (n : ℕ). n / 2 ^ depth % 4) groups ∙ ap (λ (n : ℕ). n % 4) (div-mul-add (number + 1) (2 ^ depth) 0 (pow_pos depth)))
    (λ e. cond-false (eqb level 0) (position / 2 ^ depth % 4) (3 + level) e)

module _ (numbers : Numbers) (start full next number : ℕ) (slots : Slots) (early : full ≤ 2 ^ numbers.depth * number) where
  abbrev pub inputs : ℕ
  inputs = 2 ^ numbers.depth

  abbrev pub Right : Row → Type 0
  Right r = AllByRecursion (HoldsNamed slots start (start + full) next) (named_positions numbers r.level (row_position numbers number r))

  -- a row of level 0 names the last two of its level
  pub zero-right : (seen : List Row) (r : Row) → is_row numbers.depth r ≡ true → r.level ≡ 0 → Behind numbers start full number seen slots → Right r
  zero-right seen r h lowest behind =
      let position = row_position numbers number r in
      let end = (fits numbers.depth r h).whole lowest in
      let half_is : 2 ^ (numbers.depth - r.level) ≡ inputs = let e : numbers.depth - r.level ≡ numbers.depth = omega arith in ap (λ (n : ℕ). 2 ^ n) e in
      let slot = slot_at numbers.depth r.level position in
      let slot_is : slot ≡ (number + 1) % 4 = row-slot_at numbers number r h ∙ cond-true (eqb r.level 0) ((number + 1) % 4) (3 + r.level) (eq-eqb r.level 0 lowest) in
      let half = 2 ^ (numbers.depth - r.level) in
      let here : inputs * (number - 0) ≡ inputs * number = let e : number - 0 ≡ number = omega arith in ap (λ (n : ℕ). inputs * n) e in
      let last = same_held slots ((slot + 3) % 4) ((number + 4 - 0) % 4) (max (start + (position - half)) (start + full)) (start + max (inputs * (number - 0)) full) (omega arith) (behind.zeroth 0 (omega arith)) (omega (arith, here, end, half_is)) in
      let one_before = same_held slots ((slot + 2) % 4) ((number + 4 - 1) % 4) (max (start + (position - 2 * half)) (start + full)) (start + max (inputs * (number - 1)) full) (omega arith) (behind.zeroth 1 (omega arith)) (before_last end half_is) in
      let names : Bool → List Named = λ m. named ((slot + 3) % 4) (position - half) false ∷ cond m (named ((slot + 2) % 4) (position - 2 * half) false ∷ []) [] in
      let Holds : List Named → Type 0 = AllByRecursion (HoldsNamed slots start (start + full) next) in
      let both : (m : Bool) → Holds (names m) = λ m. elim m as (λ m. Holds (names m)) [ true ↦ (last, (one_before, tt)) | false ↦ (last, tt) ] in
      subst Holds (sym (cond-true (eqb r.level 0) (names numbers.multiref) _ (eq-eqb r.level 0 lowest))) (both numbers.multiref)
    where
      before_last : r.offset ≡ inputs → 2 ^ (numbers.depth - r.level) ≡ inputs → start + max (inputs * (number - 1)) full ≡ max (start + (row_position numbers number r - 2 * 2 ^ (numbers.depth - r.level))) (start + full)
      before_last end half_is = elim (cases_lt 0 number) [
        | inl some ↦
            let count : inputs * number ≡ inputs * (number - 1) + inputs = let e : number ≡ number - 1 + 1 = omega arith in ap (λ (n : ℕ). inputs * n) e ∙ omega arith in
            omega (arith, count)
        | inr none ↦
            let e : number ≡ 0 = omega arith in
            let first : inputs * number ≡ 0 = ap (λ (n : ℕ). inputs * n) e ∙ omega arith in
            let before : inputs * (number - 1) ≡ 0 = ap (λ (n : ℕ). inputs * (n - 1)) e ∙ omega arith in
            omega (arith, first, before)
      ]

  seen-held : (seen : List Row) (offset position : ℕ) → Seen numbers.depth seen offset → numbers.depth ≤ 4 → Knows start (inputs * number) number seen slots → position ≡ inputs * number + offset → held slots (slot_of numbers.depth position) ≡ Some (start + position)
  seen-held seen offset position there small knows e =
      let slot = ap (slot_of numbers.depth) e ∙ seen-slot numbers.depth number offset there.whole in
      let within = level-within numbers.depth offset in
      same_held slots (slot_of numbers.depth position) (level_slot number (level_of numbers.depth offset)) (start + position) (start + (inputs * number + offset)) slot (knows (level_of numbers.depth offset) offset (omega arith) there.there) (omega (arith, e))

  below : (low high frame : ℕ) (o : Option ℕ) → IsSomeAnd o (λ f. (low ≤ f) × (f < high)) → o ≡ Some frame → frame < high
  below low high frame o all is =
      let P : Option ℕ → Type 0 = λ o. IsSomeAnd o (λ f. (low ≤ f) × (f < high)) in
      (subst P is all).1

  -- a row above names the positions that it stands between, and the last one of its level
  pub above-right : (length : ℕ) (seen : List Row) (r : Row) → numbers.depth ≤ 4 → is_row numbers.depth r ≡ true → (r.level ≡ 0 → ⊥) → next ≡ start + length → row_position numbers number r < length → RowNames numbers.depth (inputs_of numbers length number) seen r (2 ^ (numbers.depth - r.level)) → Behind numbers start full number seen slots → Knows start (inputs * number) number seen slots → AllHold slots start next → Right r
  above-right length seen r small h high end inside names behind knows hold =
      let f = fits numbers.depth r h in
      let position = row_position numbers number r in
      let half = 2 ^ (numbers.depth - r.level) in
      let reach : half ≤ r.offset = half_within numbers.depth r.level r.offset half f.level high refl in
      let slot = slot_at numbers.depth r.level position in
      let own_slot : slot ≡ 3 + r.level = row-slot_at numbers number r h ∙ cond-false (eqb r.level 0) ((number + 1) % 4) (3 + r.level) (ne_eqb r.level 0 high) in
      let level_low : r.level ≤ numbers.depth = let within = level-within numbers.depth r.offset in omega (arith, f.level) in
      let before : held slots (slot_of numbers.depth (position - half)) ≡ Some (max (start + (position - half)) (start + full)) =
      elim names.before [
        | inl first ↦
            let at : position - half ≡ inputs * number = omega (arith, first) in
            same_held slots (slot_of numbers.depth (position - half)) ((number + 4 - 0) % 4) (max (start + (position - half)) (start + full)) (start + max (inputs * (number - 0)) full)
            (ap (slot_of numbers.depth) at ∙ whole-slot numbers.depth number ∙ turn number) (behind.zeroth 0 (omega arith)) (let same : inputs * (number - 0) ≡ inputs * number = let e : number - 0 ≡ number = omega arith in ap (λ (n : ℕ). inputs * n) e in omega (arith, at, same))
        | inr there ↦
            let at : position - half ≡ inputs * number + (r.offset - half) = omega arith in
            seen-held seen (r.offset - half) (position - half) there small knows at ∙ ap Some (let e : start + (position - half) ≡ max (start + (position - half)) (start + full) = omega (arith, at) in e)
      ] in
      let after : (held slots (slot_of numbers.depth (position + half)) ≡ Some (start + (position + half))) ↔ (start + (position + half) < next) = (
        (λ is. below start next (start + (position + half)) (held slots (slot_of numbers.depth (position + half))) (hold (slot_of numbers.depth (position + half)) (small-slot_of numbers.depth (position + half) small)) is),
        (λ less.
            let at : position + half ≡ inputs * number + (r.offset + half) = omega arith in
            seen-held seen (r.offset + half) (position + half) (names.after (omega (arith, names.within, end))) small knows at),
      ) in
      let own : held slots slot ≡ Some (max (start + (position - 2 * half)) (start + full)) =
      elim names.own [
        | inl first ↦
            same_held slots slot (3 + r.level) (max (start + (position - 2 * half)) (start + full)) (start + max (inputs * number - half) full) own_slot
            (behind.above r.level (omega arith) level_low first.1) (omega (arith, first.0))
        | inr there ↦
            same_held slots slot (level_slot number r.level) (max (start + (position - 2 * half)) (start + full)) (start + (inputs * number + (r.offset - 2 * half))) (row-slot_at numbers number r h)
            (knows r.level (r.offset - 2 * half) (omega arith) there.1) (omega (arith, there.0))
      ] in
      let Holds : List Named → Type 0 = AllByRecursion (HoldsNamed slots start (start + full) next) in
      let three : Holds (named (slot_of numbers.depth (position - half)) (position - half) false ∷ named (slot_of numbers.depth (position + half)) (position + half) true ∷ named slot (position - 2 * half) false ∷ []) = (before, (after, (own, tt))) in
      subst Holds (sym (cond-false (eqb r.level 0) _ (named (slot_of numbers.depth (position - half)) (position - half) false ∷ named (slot_of numbers.depth (position + half)) (position + half) true ∷ named slot (position - 2 * half) false ∷ []) (ne_eqb r.level 0 high))) three
    where
      turn : (n : ℕ) → n % 4 ≡ (n + 4 - 0) % 4
      turn n = omega arith
