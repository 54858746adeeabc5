-- The check of a table: a test that computes on its rows, and the rules that it gives. Another depth is another table
-- and one more line of `checked`.
use Rattle.std.proofs.Common.{◌≡◌, ℕ, ◌+◌, ◌-◌, ◌*◌, ◌/◌, ◌^◌, ◌<◌, ◌≤◌, min, Bool, true, false, not, cond, eqb, ltb, leb, ◌&&◌, ◌||◌, ◌⊎◌, List, [], ◌∷◌, length as size, get_or, filter, Option, Some, None, refl, sym, ap, ◌∙◌, subst, inl, inr, arith}
use Rattle.std.specs.List.{list_all, list_any, count_by, range_with_len}
use Rattle.std.proofs.lemmas.Bool.{and_parts, cases_lt, cases_eq, or_cases, not-true, cond-true, cond-false, ne_eqb, eqb-true, eq-eqb, ltb-true, leb-true, lt-ltb, le-ltb, false≢true}
use Rattle.std.proofs.lemmas.List.Sums.{AllPass-from_list_all}
use Rattle.std.specs.Int.Count.{count_trailing_zeros}
use Rattle.av1_settings.specs.declared.encoder.EncoderConfig.{EncoderConfig}
use Rattle.pyramid.specs.declared.rows.Row.{Row}
use Rattle.pyramid.specs.Levels.{level_of}
use Rattle.pyramid.specs.Numbers.{Numbers}
use Rattle.pyramid.specs.Positions.{row_position}
use Rattle.pyramid.specs.Gop.{within}
use Rattle.pyramid.specs.Settings.{numbers_of}
use Rattle.pyramid.specs.Rows.{row, rows_of_depth_zero, rows_of_depth_two, rows, HasTable, is_row, row_at, row}
use Rattle.pyramid.proofs.Lists.{all_range, same_list, same_list-same, sorted, filter_same}

-- of a list of rows, those whose positions are among the first `inputs` of the group
abbrev pub cut : ℕ → List Row → List Row
cut inputs rows = filter (λ r. ltb r.offset (inputs + 1)) rows

-- the position that a level's slot has from the rows seen, the last of them first: a frame of level 0 may have been put
-- into every slot
abbrev pub seen_at : ℕ → List Row → Option ℕ
seen_at level [] = None
seen_at level (r ∷ seen) = cond (eqb r.level level) (Some r.offset) (cond (eqb r.level 0) None (seen_at level seen))

abbrev pub is_at : Option ℕ → ℕ → Bool
is_at None offset = false
is_at (Some there) offset = eqb there offset

pub is_at-same : (o : Option ℕ) (offset : ℕ) → is_at o offset ≡ true → o ≡ Some offset
is_at-same None offset h = absurd (let e : ⊥ = cc in e)
is_at-same (Some there) offset h = ap Some (eqb-true there offset h)

-- the rows seen that code a frame, and the next position to be shown, behind one more row
abbrev pub seen_after : List Row → Row → List Row
seen_after seen r = cond r.existing seen (r ∷ seen)

abbrev pub next_after : ℕ → Row → ℕ
next_after next r = cond r.shown (next + 1) next

-- after the rows seen, the rows show the positions from `next` on in order, and a slot's frame where the slot has it
abbrev pub shows_next : List Row → ℕ → List Row → Bool
shows_next seen next [] = true
shows_next seen next (r ∷ rows) =
    (not r.shown || eqb r.offset next) && (not r.existing || is_at (seen_at r.level seen) r.offset) && shows_next (seen_after seen r) (next_after next r) rows

-- the positions that the rows code
abbrev pub coded : List Row → List ℕ
coded [] = []
coded (r ∷ rows) = cond r.existing (coded rows) (r.offset ∷ coded rows)

-- a position of the group has the slot of its level
abbrev pub is_seen : ℕ → List Row → ℕ → Bool
is_seen depth seen offset =
    let level = level_of depth offset in
    (not (eqb level 0) || eqb offset (2 ^ depth)) && is_at (seen_at level seen) offset

abbrev pub has_level : ℕ → List Row → Bool
has_level level seen = list_any (λ r. eqb r.level level) seen

-- where a row above level 0 is coded, the positions that it stands between, if they are in the group, have their
-- slots, and its own level's slot has the last position of the level
abbrev pub row_names : ℕ → ℕ → List Row → Row → Bool
row_names depth inputs seen r =
    let half = 2 ^ (depth - r.level) in
    let before = eqb r.offset half || is_seen depth seen (r.offset - half) in
    let after = ltb inputs (r.offset + half) || is_seen depth seen (r.offset + half) in
    let own = cond (eqb r.offset half) (not (has_level r.level seen)) (ltb (2 * half) r.offset && is_at (seen_at r.level seen) (r.offset - 2 * half)) in
    eqb r.level 0 || (leb (r.offset + half) (2 ^ depth) && before && after && own)

abbrev pub names_next : ℕ → ℕ → List Row → List Row → Bool
names_next depth inputs seen [] = true
names_next depth inputs seen (r ∷ rows) =
    (r.existing || row_names depth inputs seen r) && names_next depth inputs (seen_after seen r) rows

abbrev pub seen_all : List Row → List Row → List Row
seen_all seen [] = seen
seen_all seen (r ∷ rows) = seen_all (seen_after seen r) rows

-- behind a whole group each level's slot has the level's last position
abbrev is_end : ℕ → List Row → Bool
is_end depth seen =
    is_at (seen_at 0 seen) (2 ^ depth) && list_all (λ level. is_at (seen_at level seen) (2 ^ depth - 2 ^ (depth - level))) (range_with_len 1 depth)

-- the rows of a group that is cut behind `inputs` inputs show each of these in order, code each once, and hide half
abbrev pub is_cut : ℕ → List Row → Bool
is_cut inputs rows =
    shows_next [] 1 rows && eqb (count_by (λ r. r.shown) rows) inputs && leb (count_by (λ r. not r.shown) rows) (inputs / 2)
    && same_list (sorted (coded rows)) (range_with_len 1 inputs)

-- each row stands at its index
abbrev is_indexed : List Row → ℕ → Bool
is_indexed rows index = eqb (get_or rows index (row 0 0 0 false false)).index index

-- slots 3 + 1 to 3 + depth are among the eight, there are as many rows as places, each row and each cut is right, and
-- so are the positions that the rows name
abbrev is_table : ℕ → List Row → Bool
is_table depth rows =
    let cuts = range_with_len 0 (2 ^ depth + 1) in
    leb depth 4 && eqb (size rows) (2 ^ depth + depth) && list_all (is_row depth) rows
    && list_all (λ inputs. is_cut inputs (cut inputs rows)) cuts
    && list_all (λ inputs. names_next depth inputs [] (cut inputs rows)) cuts
    && is_end depth (seen_all [] rows)
    && list_all (is_indexed rows) (range_with_len 0 (2 ^ depth + depth))

one_of : (zeroth second : Bool) → ltb 0 (size (cond zeroth rows_of_depth_zero (cond second rows_of_depth_two []))) ≡ true → (zeroth ≡ true) ⊎ (second ≡ true)
one_of true second h = inl refl
one_of false true h = inr refl
one_of false false h = absurd (false≢true h)

-- each depth that has a table: nothing else here goes over the depths
checked : (depth : ℕ) → HasTable depth → is_table depth (rows depth) ≡ true
unfolding rows count_trailing_zeros
checked depth h =
    let P : ℕ → Type 0 = λ d. is_table d (rows d) ≡ true in
    elim (one_of (eqb depth 0) (eqb depth 2) h) [
      | inl e ↦ subst P (sym (eqb-true depth 0 e)) refl
      | inr e ↦ subst P (sym (eqb-true depth 2 e)) refl
    ]

pub either-table : (low : Bool) → HasTable (cond low 0 2)
unfolding rows
either-table true = refl
either-table false = refl

pub settings-table : (enc : EncoderConfig) → HasTable (numbers_of enc).depth
settings-table enc = either-table enc.low_latency

-- what `is_row` says
pub record Fits (depth : ℕ) (r : Row) : Type 0 where
  pub index : r.index < 2 ^ depth + depth
  pub above : 0 < r.offset
  pub within : r.offset ≤ 2 ^ depth
  pub level : r.level ≡ level_of depth r.offset
  pub whole : r.level ≡ 0 → r.offset ≡ 2 ^ depth
  pub visible : r.existing ≡ true → r.shown ≡ true

pub implied : (a b : Bool) → (not a || b) ≡ true → a ≡ true → b ≡ true
implied true b h e = h
implied false b h e = absurd (false≢true e)

pub fits : (depth : ℕ) (r : Row) → is_row depth r ≡ true → Fits depth r
fits depth r h =
    let index = ltb r.index (2 ^ depth + depth) in
    let above = ltb 0 r.offset in
    let within = leb r.offset (2 ^ depth) in
    let level = eqb r.level (level_of depth r.offset) in
    let whole = not (eqb r.level 0) || eqb r.offset (2 ^ depth) in
    let visible = not r.existing || r.shown in
    let five = and_parts (index && above && within && level && whole) visible h in
    let four = and_parts (index && above && within && level) whole five.0 in
    let three = and_parts (index && above && within) level four.0 in
    let two = and_parts (index && above) within three.0 in
    let one = and_parts index above two.0 in
    record {
      index = ltb-true r.index (2 ^ depth + depth) one.0;
      above = ltb-true 0 r.offset one.1;
      within = leb-true r.offset (2 ^ depth) two.1;
      level = eqb-true r.level (level_of depth r.offset) three.1;
      whole = λ e. eqb-true r.offset (2 ^ depth) (implied (eqb r.level 0) (eqb r.offset (2 ^ depth)) four.1 (eq-eqb r.level 0 e));
      visible = implied r.existing r.shown five.1;
    }

-- what `shows_next` says of the first row
pub record ShowsNext (seen : List Row) (next : ℕ) (r : Row) (rows : List Row) : Type 0 where
  pub shown : r.shown ≡ true → r.offset ≡ next
  pub existing : r.existing ≡ true → seen_at r.level seen ≡ Some r.offset
  pub rest : shows_next (seen_after seen r) (next_after next r) rows ≡ true

pub shows_first : (seen : List Row) (next : ℕ) (r : Row) (rows : List Row) → shows_next seen next (r ∷ rows) ≡ true → ShowsNext seen next r rows
shows_first seen next r rows h =
    let shown = not r.shown || eqb r.offset next in
    let existing = not r.existing || is_at (seen_at r.level seen) r.offset in
    let two = and_parts (shown && existing) (shows_next (seen_after seen r) (next_after next r) rows) h in
    let one = and_parts shown existing two.0 in
    record {
      shown = λ e. eqb-true r.offset next (implied r.shown (eqb r.offset next) one.0 e);
      existing = λ e. is_at-same (seen_at r.level seen) r.offset (implied r.existing (is_at (seen_at r.level seen) r.offset) one.1 e);
      rest = two.1;
    }

-- what `is_table` says
pub record Table (depth : ℕ) : Type 0 where
  pub small : depth ≤ 4
  pub size : size (rows depth) ≡ 2 ^ depth + depth
  pub all : list_all (is_row depth) (rows depth) ≡ true
  pub index : (index : ℕ) → index < 2 ^ depth + depth → (row_at depth index).index ≡ index
  pub cuts : (inputs : ℕ) → inputs ≤ 2 ^ depth → is_cut inputs (cut inputs (rows depth)) ≡ true
  pub names : (inputs : ℕ) → inputs ≤ 2 ^ depth → names_next depth inputs [] (cut inputs (rows depth)) ≡ true
  pub lowest : seen_at 0 (seen_all [] (rows depth)) ≡ Some (2 ^ depth)
  pub above : (level : ℕ) → 1 ≤ level → level ≤ depth → seen_at level (seen_all [] (rows depth)) ≡ Some (2 ^ depth - 2 ^ (depth - level))

pub table : (depth : ℕ) → HasTable depth → Table depth
table depth h =
    let count = 2 ^ depth + 1 in
    let small = leb depth 4 in
    let as_many = eqb (size (rows depth)) (2 ^ depth + depth) in
    let all = list_all (is_row depth) (rows depth) in
    let seen = seen_all [] (rows depth) in
    let cut_right : ℕ → Bool = λ inputs. is_cut inputs (cut inputs (rows depth)) in
    let names_right : ℕ → Bool = λ inputs. names_next depth inputs [] (cut inputs (rows depth)) in
    let level_right : ℕ → Bool = λ level. is_at (seen_at level seen) (2 ^ depth - 2 ^ (depth - level)) in
    let cuts = list_all cut_right (range_with_len 0 count) in
    let names = list_all names_right (range_with_len 0 count) in
    let indexed = list_all (is_indexed (rows depth)) (range_with_len 0 (2 ^ depth + depth)) in
    let six = and_parts (small && as_many && all && cuts && names && is_end depth seen) indexed (checked depth h) in
    let five = and_parts (small && as_many && all && cuts && names) (is_end depth seen) six.0 in
    let four = and_parts (small && as_many && all && cuts) names five.0 in
    let three = and_parts (small && as_many && all) cuts four.0 in
    let two = and_parts (small && as_many) all three.0 in
    let one = and_parts small as_many two.0 in
    let end = and_parts (is_at (seen_at 0 seen) (2 ^ depth)) (list_all level_right (range_with_len 1 depth)) five.1 in
    record {
      small = leb-true depth 4 one.0;
      size = eqb-true (size (rows depth)) (2 ^ depth + depth) one.1;
      all = two.1;
      index = λ index below. eqb-true (row_at depth index).index index (at (is_indexed (rows depth)) (2 ^ depth + depth) index six.1 below);
      cuts = λ inputs below. at cut_right count inputs three.1 (omega arith);
      names = λ inputs below. at names_right count inputs four.1 (omega arith);
      lowest = is_at-same (seen_at 0 seen) (2 ^ depth) end.0;
      above = λ level some most.
          let e : level ≡ 1 + (level - 1) = omega arith in
          is_at-same (seen_at level seen) (2 ^ depth - 2 ^ (depth - level)) (ap level_right e ∙ all_range level_right 1 depth end.1 (level - 1) (omega arith));
    }
  where
    at : (p : ℕ → Bool) (count k : ℕ) → list_all p (range_with_len 0 count) ≡ true → k < count → p k ≡ true
    at p count k all below =
        let e : k ≡ 0 + k = omega arith in
        ap p e ∙ all_range p 0 count all k below

-- a row of the table is right
pub row_fits : (depth index : ℕ) → HasTable depth → index < size (rows depth) → is_row depth (row_at depth index) ≡ true
row_fits depth index h low =
    AllPass-from_list_all (is_row depth) (rows depth) (table depth h).all index (row 0 0 0 false false) low

-- what `is_cut` says
pub record Cut (inputs : ℕ) (rows : List Row) : Type 0 where
  pub shows : shows_next [] 1 rows ≡ true
  pub count : count_by (λ r. r.shown) rows ≡ inputs
  pub hides : count_by (λ r. not r.shown) rows ≤ inputs / 2
  pub codes : sorted (coded rows) ≡ range_with_len 1 inputs

pub cut_is : (inputs : ℕ) (rows : List Row) → is_cut inputs rows ≡ true → Cut inputs rows
cut_is inputs rows h =
    let shows = shows_next [] 1 rows in
    let count = eqb (count_by (λ r. r.shown) rows) inputs in
    let hides = leb (count_by (λ r. not r.shown) rows) (inputs / 2) in
    let three = and_parts (shows && count && hides) (same_list (sorted (coded rows)) (range_with_len 1 inputs)) h in
    let two = and_parts (shows && count) hides three.0 in
    let one = and_parts shows count two.0 in
    record {
      shows = one.0;
      count = eqb-true (count_by (λ r. r.shown) rows) inputs one.1;
      hides = leb-true (count_by (λ r. not r.shown) rows) (inputs / 2) two.1;
      codes = same_list-same (sorted (coded rows)) (range_with_len 1 inputs) three.1;
    }

-- what `is_seen` says
pub record Seen (depth : ℕ) (seen : List Row) (offset : ℕ) : Type 0 where
  pub whole : level_of depth offset ≡ 0 → offset ≡ 2 ^ depth
  pub there : seen_at (level_of depth offset) seen ≡ Some offset

pub seen_is : (depth : ℕ) (seen : List Row) (offset : ℕ) → is_seen depth seen offset ≡ true → Seen depth seen offset
seen_is depth seen offset h =
    let level = level_of depth offset in
    let parts = and_parts (not (eqb level 0) || eqb offset (2 ^ depth)) (is_at (seen_at level seen) offset) h in
    record {
      whole = λ e. eqb-true offset (2 ^ depth) (implied (eqb level 0) (eqb offset (2 ^ depth)) parts.0 (eq-eqb level 0 e));
      there = is_at-same (seen_at level seen) offset parts.1;
    }

-- what `row_names` says of a row above level 0
pub record RowNames (depth inputs : ℕ) (seen : List Row) (r : Row) (half : ℕ) : Type 0 where
  pub within : r.offset + half ≤ 2 ^ depth
  pub before : (r.offset ≡ half) ⊎ Seen depth seen (r.offset - half)
  pub after : r.offset + half ≤ inputs → Seen depth seen (r.offset + half)
  pub own : ((r.offset ≡ half) × (has_level r.level seen ≡ false)) ⊎ ((2 * half < r.offset) × (seen_at r.level seen ≡ Some (r.offset - 2 * half)))

pub row_names-say : (depth inputs : ℕ) (seen : List Row) (r : Row) → row_names depth inputs seen r ≡ true → (r.level ≡ 0 → ⊥) → RowNames depth inputs seen r (2 ^ (depth - r.level))
row_names-say depth inputs seen r h above =
    let half = 2 ^ (depth - r.level) in
    let before = eqb r.offset half || is_seen depth seen (r.offset - half) in
    let after = ltb inputs (r.offset + half) || is_seen depth seen (r.offset + half) in
    let new = not (has_level r.level seen) in
    let old = ltb (2 * half) r.offset && is_at (seen_at r.level seen) (r.offset - 2 * half) in
    let own = cond (eqb r.offset half) new old in
    let within = leb (r.offset + half) (2 ^ depth) in
    let three = either_right (eqb r.level 0) (within && before && after && own) h (ne_eqb r.level 0 above) in
    let two = and_parts (within && before && after) own three in
    let one = and_parts (within && before) after two.0 in
    let first = and_parts within before one.0 in
    record {
      within = leb-true (r.offset + half) (2 ^ depth) first.0;
      before =
          elim (or_cases (eqb r.offset half) (is_seen depth seen (r.offset - half)) first.1) [
            | inl e ↦ inl (eqb-true r.offset half e)
            | inr s ↦ inr (seen_is depth seen (r.offset - half) s)
          ];
      after = λ within. seen_is depth seen (r.offset + half) (either_right (ltb inputs (r.offset + half)) (is_seen depth seen (r.offset + half)) one.1 (le-ltb inputs (r.offset + half) within));
      own =
          elim (cases_eq r.offset half) [
            | inl e ↦ inl (e, not-true (has_level r.level seen) (sym (cond-true (eqb r.offset half) new old (eq-eqb r.offset half e)) ∙ two.1))
            | inr e ↦
                let parts = and_parts (ltb (2 * half) r.offset) (is_at (seen_at r.level seen) (r.offset - 2 * half)) (sym (cond-false (eqb r.offset half) new old (ne_eqb r.offset half e)) ∙ two.1) in
                inr (ltb-true (2 * half) r.offset parts.0, is_at-same (seen_at r.level seen) (r.offset - 2 * half) parts.1)
          ];
    }
  where
    either_right : (a b : Bool) → (a || b) ≡ true → a ≡ false → b ≡ true
    either_right true b h e = absurd (false≢true (sym e))
    either_right false b h e = h

-- how many inputs of group `number` are below the GOP's length
abbrev pub inputs_of : Numbers → ℕ → ℕ → ℕ
inputs_of numbers length number = min (2 ^ numbers.depth) (length - (2 ^ numbers.depth * number + 1))

same_tests : (inputs base length offset : ℕ) → 0 < offset → offset ≤ inputs → ltb (base + offset) length ≡ ltb offset (min inputs (length - (base + 1)) + 1)
same_tests inputs base length offset above within = elim (cases_lt (base + offset) length) [
  | inl low ↦ lt-ltb (base + offset) length low ∙ sym (lt-ltb offset (min inputs (length - (base + 1)) + 1) (omega arith))
  | inr high ↦ le-ltb (base + offset) length high ∙ sym (le-ltb offset (min inputs (length - (base + 1)) + 1) (omega arith))
]

-- the rows of a group within the GOP's length are a cut of the table
pub within-cut : (numbers : Numbers) (length number : ℕ) (rs : List Row) → list_all (is_row numbers.depth) rs ≡ true → within numbers length number rs ≡ cut (inputs_of numbers length number) rs
within-cut numbers length number rs all =
    filter_same (is_row numbers.depth) (λ r. ltb (row_position numbers number r) length) (λ r. ltb r.offset (inputs_of numbers length number + 1))
    (λ r passes.
    let f = fits numbers.depth r passes in
    same_tests (2 ^ numbers.depth) (2 ^ numbers.depth * number) length r.offset f.above f.within) rs all

pub group-names : (numbers : Numbers) (length number : ℕ) → HasTable numbers.depth → names_next numbers.depth (inputs_of numbers length number) [] (within numbers length number (rows numbers.depth)) ≡ true
group-names numbers length number h =
    let t = table numbers.depth h in
    let inputs = inputs_of numbers length number in
    ap (names_next numbers.depth inputs []) (within-cut numbers length number (rows numbers.depth) t.all) ∙ t.names inputs (omega arith)

-- and the cut is right
pub group_cut : (numbers : Numbers) (length number : ℕ) → HasTable numbers.depth → Cut (inputs_of numbers length number) (within numbers length number (rows numbers.depth))
group_cut numbers length number h =
    let t = table numbers.depth h in
    let inputs = inputs_of numbers length number in
    let right = cut_is inputs (cut inputs (rows numbers.depth)) (t.cuts inputs (omega arith)) in
    subst (Cut inputs) (sym (within-cut numbers length number (rows numbers.depth) t.all)) right
