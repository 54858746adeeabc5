-- The subtype of a row's command is that of its level.
use Rattle.std.proofs.Common.{◌≡◌, ℕ, ◌+◌, ◌-◌, ◌*◌, ◌/◌, ◌%◌, ◌^◌, ◌<◌, ◌≤◌, inl, inr, Bool, true, false, cond, eqb, ltb, ◌&&◌, List, [], length as size, refl, sym, ap, ◌∙◌, subst, arith, zero, suc}
use Rattle.std.proofs.lemmas.Bool.{cases_Bool, eqb-true, false≢true}
use Rattle.std.proofs.lemmas.Nat.{mod_below}
use Rattle.std.specs.Int.Count.{count_trailing_zeros}
use Rattle.av1_settings.specs.declared.frame_type.FrameType.TheVariants.{INTER, SWITCH}
use Rattle.pyramid.specs.declared.rows.Row.{Row}
use Rattle.pyramid.specs.Levels.{slot_at}
use Rattle.pyramid.specs.Numbers.{Numbers, group_places}
use Rattle.pyramid.specs.Positions.{row_position}
use Rattle.pyramid.specs.RowCommand.{command_of, refresh_of}
use Rattle.pyramid.specs.Rows.{rows_of_depth_zero, rows_of_depth_two, HasTable, is_row}
use Rattle.pyramid.specs.Subtypes.{frame_subtype, subtype_of}
use Rattle.pyramid.proofs.Tables.{fits}

-- two levels above the lowest at most
low : (depth : ℕ) → HasTable depth → depth ≤ 2
unfolding Rattle.pyramid.specs.Rows.rows
low depth h = by_tests (eqb depth 0) (eqb depth 2) refl refl h
  where
    by_tests : (zeroth second : Bool) → eqb depth 0 ≡ zeroth → eqb depth 2 ≡ second →
        ltb 0 (size (cond zeroth rows_of_depth_zero (cond second rows_of_depth_two []))) ≡ true → depth ≤ 2
    by_tests true second e f h = omega (arith, eqb-true depth 0 e)
    by_tests false true e f h = omega (arith, eqb-true depth 2 f)
    by_tests false false e f h = absurd (false≢true h)

of_zeroth_slots : (slot : ℕ) → slot < 4 → frame_subtype INTER (2 ^ slot) ≡ 1
of_zeroth_slots zero h = refl
of_zeroth_slots (suc zero) h = refl
of_zeroth_slots (suc (suc zero)) h = refl
of_zeroth_slots (suc (suc (suc zero))) h = refl
of_zeroth_slots (suc (suc (suc (suc slot)))) h = absurd (omega arith)

of_level : (level whole : ℕ) → level ≤ 2 → frame_subtype INTER (2 ^ cond (eqb level 0) (whole % 4) (3 + level)) ≡ level + 1
of_level zero whole h = of_zeroth_slots (whole % 4) (mod_below whole 4 (omega arith))
of_level (suc zero) whole h = refl
of_level (suc (suc zero)) whole h = refl
of_level (suc (suc (suc level))) whole h = absurd (omega arith)

pub subtype-of_row : (numbers : Numbers) (start number : ℕ) (row : Row) → HasTable numbers.depth → is_row numbers.depth row ≡ true →
    subtype_of (command_of numbers start number row) ≡ cond row.existing 4 (row.level + 1)
subtype-of_row numbers start number row table is = elim (cases_Bool row.existing) [
  | inl shows ↦ rw shows refl
  | inr codes ↦ rw codes (by_kind (ltb 0 numbers.switch_interval) (eqb row.level 0) (eqb (place % numbers.switch_interval) 0) refl)
]
  where
    place : ℕ
    place = group_places numbers * number + row.index + 1

    position : ℕ
    position = row_position numbers number row

    small : row.level ≤ 2
    small = within row.level numbers.depth (count_trailing_zeros numbers.depth row.offset) (fits numbers.depth row is).level (low numbers.depth table)
      where
        within : (level depth count : ℕ) → level ≡ depth - count → depth ≤ 2 → level ≤ 2
        within level depth count e h = omega arith

    of_inter : frame_subtype INTER (2 ^ slot_at numbers.depth row.level position) ≡ row.level + 1
    of_inter = of_level row.level (position / 2 ^ numbers.depth) small

    by_kind : (every whole turn : Bool) → eqb row.level 0 ≡ whole →
        frame_subtype (cond (every && whole && turn) SWITCH INTER) (refresh_of (cond (every && whole && turn) SWITCH INTER) (slot_at numbers.depth row.level position)) ≡ row.level + 1
    by_kind true true true e = sym (ap (λ (n : ℕ). n + 1) (eqb-true row.level 0 e))
    by_kind true true false e = of_inter
    by_kind true false turn e = of_inter
    by_kind false whole turn e = of_inter
