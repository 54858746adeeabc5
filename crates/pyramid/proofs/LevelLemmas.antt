-- The level of a position is that of its place in its group, and its slot is one of the eight.
use Rattle.std.proofs.Common.{◌≡◌, ℕ, ◌+◌, ◌-◌, ◌*◌, ◌/◌, ◌%◌, ◌^◌, ◌<◌, ◌≤◌, min, true, cond, eqb, refl, sym, ap, ap₂, ◌∙◌, arith, zero, suc}
use Rattle.std.specs.Int.Count.{count_trailing_zeros}
use Rattle.std.proofs.Math.Nat.{pow-suc}
use Rattle.std.proofs.lemmas.Bool.{cond_both, cond-true, cond-false, eqb-true}
use Rattle.std.proofs.lemmas.Nat.{pow_pos, div-mul-add}
use Rattle.pyramid.specs.declared.rows.Row.{Row}
use Rattle.pyramid.specs.Levels.{level_of, slot_at, slot_of}
use Rattle.pyramid.specs.Rows.{is_row}
use Rattle.pyramid.specs.Numbers.{Numbers}
use Rattle.pyramid.specs.Positions.{row_position}
use Rattle.pyramid.proofs.Tables.{fits}
use lib.Count.{under}

zeros-shift : (depth group offset : ℕ) → count_trailing_zeros depth (2 ^ depth * group + offset) ≡ count_trailing_zeros depth offset
unfolding count_trailing_zeros
zeros-shift zero group offset = refl
zeros-shift (suc depth) group offset =
    let twice : 2 ^ suc depth * group + offset ≡ 2 * (2 ^ depth * group) + offset = omega (arith, ap (λ (n : ℕ). n * group) (pow-suc 2 depth)) in
    let digit : (2 * (2 ^ depth * group) + offset) % 2 ≡ offset % 2 = omega arith in
    let rest : (2 * (2 ^ depth * group) + offset) / 2 ≡ 2 ^ depth * group + offset / 2 = omega arith in
    ap (λ (n : ℕ). count_trailing_zeros (suc depth) n) twice
    ∙ ap₂ (λ (d n : ℕ). under d (count_trailing_zeros depth n)) digit rest
    ∙ ap (under (offset % 2)) (zeros-shift depth group (offset / 2))

pub level-shift : (depth group offset : ℕ) → level_of depth (2 ^ depth * group + offset) ≡ level_of depth offset
level-shift depth group offset = ap (λ (n : ℕ). depth - n) (zeros-shift depth group offset)

-- fewer digits looked at
pub zeros_capped : (depth width n : ℕ) → depth ≤ width → min (count_trailing_zeros width n) depth ≡ count_trailing_zeros depth n
unfolding count_trailing_zeros
zeros_capped zero width n h = omega arith
zeros_capped (suc depth) zero n h = absurd (omega arith)
zeros_capped (suc depth) (suc width) n h =
    under_capped (n % 2) (count_trailing_zeros width (n / 2)) depth (count_trailing_zeros depth (n / 2)) (zeros_capped depth width (n / 2) (omega arith))
  where
    under_capped : (digit count depth fewer : ℕ) → min count depth ≡ fewer → min (under digit count) (suc depth) ≡ under digit fewer
    under_capped zero count depth fewer e = omega arith
    under_capped (suc digit) count depth fewer e = omega arith

-- the level of a row is that of its position
pub row-level : (numbers : Numbers) (number : ℕ) (r : Row) → is_row numbers.depth r ≡ true → r.level ≡ level_of numbers.depth (row_position numbers number r)
row-level numbers number r h = (fits numbers.depth r h).level ∙ sym (level-shift numbers.depth number r.offset)

pub level-within : (depth position : ℕ) → level_of depth position ≤ depth
level-within depth position = omega arith

pub small-slot_at : (depth level position : ℕ) → level ≤ 4 → slot_at depth level position < 8
small-slot_at depth level position h = cond_both (eqb level 0) (position / 2 ^ depth % 4) (3 + level) (λ n. n < 8) (λ e. omega arith) (λ e. omega arith)

pub small-slot_of : (depth position : ℕ) → depth ≤ 4 → slot_of depth position < 8
small-slot_of depth position h = small-slot_at depth (level_of depth position) position (omega arith)

-- the slot of a level in a group
abbrev pub level_slot : ℕ → ℕ → ℕ
level_slot number level = cond (eqb level 0) ((number + 1) % 4) (3 + level)

pub level_slot-small : (number level : ℕ) → level ≤ 4 → level_slot number level < 8
level_slot-small number level h = cond_both (eqb level 0) ((number + 1) % 4) (3 + level) (λ n. n < 8) (λ e. omega arith) (λ e. omega arith)

whole-group : (inputs number : ℕ) → 0 < inputs → (inputs * number + inputs) / inputs ≡ number + 1
whole-group inputs number h =
    let e : inputs * number + inputs ≡ (number + 1) * inputs + 0 = omega arith in
    ap (λ (n : ℕ). n / inputs) e ∙ div-mul-add (number + 1) inputs 0 h

-- a row's slot is its level's
pub row-slot_at : (numbers : Numbers) (number : ℕ) (r : Row) → is_row numbers.depth r ≡ true → slot_at numbers.depth r.level (row_position numbers number r) ≡ level_slot number r.level
row-slot_at numbers number r h =
    let f = fits numbers.depth r h in
    let inputs = 2 ^ numbers.depth in
    let high = 3 + r.level in
    cond_both (eqb r.level 0) ((number + 1) % 4) high (λ n. slot_at numbers.depth r.level (row_position numbers number r) ≡ n)
    (λ e.
    let at_end = f.whole (eqb-true r.level 0 e) in
    cond-true (eqb r.level 0) (row_position numbers number r / inputs % 4) high e
    ∙ ap (λ (o : ℕ). (inputs * number + o) / inputs % 4) at_end ∙ ap (λ (n : ℕ). n % 4) (whole-group inputs number (pow_pos numbers.depth)))
    (λ e. cond-false (eqb r.level 0) (row_position numbers number r / inputs % 4) high e)

pub row-slot_of : (numbers : Numbers) (number : ℕ) (r : Row) → is_row numbers.depth r ≡ true → slot_of numbers.depth (row_position numbers number r) ≡ level_slot number r.level
row-slot_of numbers number r h =
    ap (λ level. slot_at numbers.depth level (row_position numbers number r)) (sym (row-level numbers number r h)) ∙ row-slot_at numbers number r h
