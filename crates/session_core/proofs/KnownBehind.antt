-- A frame whose code is known has `ahead` frames behind it.
use Rattle.std.proofs.Common.{◌≡◌, ℕ, zero, suc, ◌+◌, ◌-◌, ◌*◌, ◌^◌, ◌<◌, ◌≤◌, Bool, true, false, cond, ltb, eqb, List, [], ◌∷◌, ◌++◌, map, filter, take_while, Some, slice_get, refl, sym, subst, arith, pow_pos}
use Rattle.std.specs.List.{flat_map, range_with_len}
use Rattle.std.proofs.lemmas.Bool.{ltb-true}
use Rattle.std.proofs.lemmas.List.Sums.{take_while-cons}
use Rattle.std.proofs.lemmas.Nat.{div-add-mod', mod_below}
use Rattle.std.proofs.lemmas.Option.{none-some, same_Some}
use Rattle.av1_settings.specs.declared.encoder.EncoderConfig.{EncoderConfig}
use Rattle.av1_settings.specs.declared.frame_type.FrameType.{FrameType}
use Rattle.pyramid.specs.declared.command.Command.{Command}
use Rattle.pyramid.specs.declared.command.Command.TheVariants.{Code, Show}
use Rattle.pyramid.specs.declared.rows.Row.{Row}
use Rattle.pyramid.specs.Gop.{group_count}
use Rattle.pyramid.specs.Known.{CodingUnit, group_needs, group_unit, key_unit, first_unit, units_after, units, known}
use Rattle.pyramid.specs.Levels.{slot_of}
use Rattle.pyramid.specs.Numbers.{Numbers, ahead}
use Rattle.pyramid.specs.Plan.{start_after, starts}
use Rattle.pyramid.specs.Positions.{row_position}
use Rattle.pyramid.specs.RowCommand.{code_of, command_of}
use Rattle.pyramid.specs.Rows.{rows}
use Rattle.pyramid.specs.Settings.{numbers_of}

-- ---- lists

-- each element has the property, by recursion
abbrev Each : {A : Type 0} → (A → Type 0) → List A → Type 0
Each P [] = Unit {0}
Each P (x ∷ xs) = P x × Each P xs

each-append : {A : Type 0} (P : A → Type 0) (xs ys : List A) → Each P xs → Each P ys → Each P (xs ++ ys)
each-append P [] ys a b = b
each-append P (x ∷ xs) ys a b = (a.0, each-append P xs ys a.1 b)

each-at : {A : Type 0} (P : A → Type 0) (xs : List A) (k : ℕ) (x : A) → Each P xs → slice_get xs k ≡ Some x → P x
each-at P [] k x each is = absurd (none-some x is)
each-at P (y ∷ xs) zero x each is = subst P (same_Some y x is) each.0
each-at P (y ∷ xs) (suc k) x each is = each-at P xs k x each.1 is

each-flat_map : {A B : Type 0} (P : A → Type 0) (Q : B → Type 0) (f : A → List B) (xs : List A) → ((x : A) → P x → Each Q (f x)) → Each P xs → Each Q (flat_map f xs)
each-flat_map P Q f [] one each = tt
each-flat_map P Q f (x ∷ xs) one each = each-append Q (f x) (flat_map f xs) (one x each.0) (each-flat_map P Q f xs one each.1)

each-map : {A B : Type 0} (Q : B → Type 0) (f : A → B) (xs : List A) → ((x : A) → Q (f x)) → Each Q (map f xs)
each-map Q f [] one = tt
each-map Q f (x ∷ xs) one = (one x, each-map Q f xs one)

-- of the elements up to the first that fails the test
each-while : {A : Type 0} (P Q : A → Type 0) (p : A → Bool) (xs : List A) → ((x : A) → P x → p x ≡ true → Q x) → Each P xs → Each Q (take_while p xs)
each-while P Q p [] one each = tt
each-while {A} P Q p (x ∷ xs) one each = subst (Each Q) (sym (take_while-cons p x xs)) (by_test (p x) refl (each-while P Q p xs one each.1))
  where
    by_test : (t : Bool) → p x ≡ t → Each Q (take_while p xs) → Each Q (cond t (x ∷ take_while p xs) [])
    by_test true e rest = (one x each.0 e, rest)
    by_test false e rest = tt

-- ---- the units of a plan

-- the rows of a group end at its last position
abbrev FitRows : Numbers → Type 0
FitRows numbers = Each (λ row. row.offset ≤ 2 ^ numbers.depth) (rows numbers.depth)

-- a frame that is coded, with so many behind it, is at most `high`
abbrev IsBehind : ℕ → ℕ → Command → Type 0
IsBehind extra high (Code frame kind refs refresh shown) = frame + extra ≤ high
IsBehind extra high (Show slot) = Unit {0}

-- or below it
abbrev IsBefore : ℕ → ℕ → Command → Type 0
IsBefore extra high (Code frame kind refs refresh shown) = frame + extra < high
IsBefore extra high (Show slot) = Unit {0}

before-all : (extra low high : ℕ) (commands : List Command) → low < high → Each (IsBehind extra low) commands → Each (IsBefore extra high) commands
before-all extra low high [] h each = tt
before-all extra low high (Code frame kind refs refresh shown ∷ commands) h each = (omega (arith, each.0), before-all extra low high commands h each.1)
before-all extra low high (Show slot ∷ commands) h each = (tt, before-all extra low high commands h each.1)

abbrev UnitFits : Numbers → CodingUnit → Type 0
UnitFits numbers unit = Each (IsBehind (ahead numbers) unit.needs) unit.commands

group-rows : (numbers : Numbers) (start number : ℕ) (p : Row → Bool) (rows : List Row) → Each (λ row. row.offset ≤ 2 ^ numbers.depth) rows →
    Each (IsBehind (ahead numbers) (group_needs numbers start number)) (map (command_of numbers start number) (filter p rows))
group-rows numbers start number p [] fits = tt
group-rows numbers start number p (row ∷ rows) fits = by_test (p row) (group-rows numbers start number p rows fits.1)
  where
    either : (t : Bool) → IsBehind (ahead numbers) (group_needs numbers start number)
        (cond t (Show (slot_of numbers.depth (row_position numbers number row))) (code_of numbers start number row))
    either true = tt
    either false = omega (arith, fits.0)

    one : IsBehind (ahead numbers) (group_needs numbers start number) (command_of numbers start number row)
    one = either row.existing

    by_test : (t : Bool) → Each (IsBehind (ahead numbers) (group_needs numbers start number)) (map (command_of numbers start number) (filter p rows)) →
        Each (IsBehind (ahead numbers) (group_needs numbers start number)) (map (command_of numbers start number) (cond t (row ∷ filter p rows) (filter p rows)))
    by_test true rest = (one, rest)
    by_test false rest = rest

-- the groups of a GOP have places for all its inputs
groups-enough : (numbers : Numbers) (length : ℕ) → length - 1 ≤ 2 ^ numbers.depth * group_count numbers length
groups-enough numbers length =
    let inputs : 0 < 2 ^ numbers.depth = pow_pos numbers.depth in
    let whole = div-add-mod' (length - 1 + (2 ^ numbers.depth - 1)) (2 ^ numbers.depth) in
    let rest = mod_below (length - 1 + (2 ^ numbers.depth - 1)) (2 ^ numbers.depth) inputs in
    omega (arith, whole, rest, inputs)

-- so the next start is before the end of the group behind them
next-within : (numbers : Numbers) (start next : ℕ) → next ≤ start + 2 ^ numbers.depth * (group_count numbers (next - start) + 1)
next-within numbers start next =
    let inputs : 0 < 2 ^ numbers.depth = pow_pos numbers.depth in
    omega (arith, groups-enough numbers (next - start), inputs)

units_all : {A : Type 0} (xs : List A) → Each (λ x. Unit {0}) xs
units_all [] = tt
units_all (x ∷ xs) = (tt, units_all xs)

units-fit : (numbers : Numbers) (interval frames : ℕ) (keys : List ℕ) → FitRows numbers → Each (UnitFits numbers) (units numbers interval frames keys)
units-fit numbers interval frames keys fits = by_test (eqb frames 0)
  where
    key_fits : (start next : ℕ) (t : Bool) → Each (UnitFits numbers) (cond t (key_unit numbers start (group_count numbers (next - start)) next ∷ []) [])
    key_fits start next true = ((omega (arith, next-within numbers start next), tt), tt)
    key_fits start next false = tt

    gop_fits : (start next : ℕ) → Each (UnitFits numbers)
        (map (group_unit numbers start (next - start)) (range_with_len 0 (group_count numbers (next - start))) ++ cond (ltb next frames) (key_unit numbers start (group_count numbers (next - start)) next ∷ []) [])
    gop_fits start next =
        each-append (UnitFits numbers) (map (group_unit numbers start (next - start)) (range_with_len 0 (group_count numbers (next - start)))) (cond (ltb next frames) (key_unit numbers start (group_count numbers (next - start)) next ∷ []) [])
        (each-map (UnitFits numbers) (group_unit numbers start (next - start)) (range_with_len 0 (group_count numbers (next - start)))
        (λ number. group-rows numbers start number (λ row. ltb (2 ^ numbers.depth * number + row.offset) (next - start)) (rows numbers.depth) fits))
        (key_fits start next (ltb next frames))

    by_test : (t : Bool) → Each (UnitFits numbers)
        (cond t [] (first_unit numbers ∷ flat_map (units_after numbers interval frames keys) (starts interval frames keys)))
    by_test true = tt
    by_test false = (
      (omega arith, tt),
      each-flat_map (λ start. Unit {0}) (UnitFits numbers) (units_after numbers interval frames keys) (starts interval frames keys)
          (λ start u. gop_fits start (start_after interval frames keys start)) (units_all (starts interval frames keys)),
    )

known-frames_behind : (numbers : Numbers) (interval frames : ℕ) (keys : List ℕ) → FitRows numbers → (k frame : ℕ) (kind : FrameType) (refs : List ℕ) (refresh : ℕ) (visible : Bool) →
    slice_get (known numbers interval frames keys) k ≡ Some (Code frame kind refs refresh visible) → frame + ahead numbers < frames
known-frames_behind numbers interval frames keys fits k frame kind refs refresh visible is =
    each-at (IsBefore (ahead numbers) frames) (known numbers interval frames keys) k (Code frame kind refs refresh visible)
    (each-flat_map (λ unit. Each (IsBefore (ahead numbers) frames) unit.commands) (IsBefore (ahead numbers) frames) (λ unit. unit.commands)
    (take_while (λ unit. ltb unit.needs frames) (units numbers interval frames keys)) (λ unit each. each)
    (each-while (UnitFits numbers) (λ unit. Each (IsBefore (ahead numbers) frames) unit.commands) (λ unit. ltb unit.needs frames) (units numbers interval frames keys)
    (λ unit each e. before-all (ahead numbers) unit.needs frames unit.commands (ltb-true unit.needs frames e) each)
    (units-fit numbers interval frames keys fits)))
    is

-- for the settings' numbers
either-fits : (low : Bool) → Each (λ row. row.offset ≤ 2 ^ cond low 0 2) (rows (cond low 0 2))
unfolding rows
either-fits true = omega arith
either-fits false = omega arith

rows-fit : (enc : EncoderConfig) → FitRows (numbers_of enc)
rows-fit enc = either-fits enc.low_latency

pub known-behind : (enc : EncoderConfig) (interval frames : ℕ) (keys : List ℕ) (k frame : ℕ) (kind : FrameType) (refs : List ℕ) (refresh : ℕ) (visible : Bool) →
    slice_get (known (numbers_of enc) interval frames keys) k ≡ Some (Code frame kind refs refresh visible) → frame + ahead (numbers_of enc) < frames
known-behind enc interval frames keys k frame kind refs refresh visible is =
    known-frames_behind (numbers_of enc) interval frames keys (rows-fit enc) k frame kind refs refresh visible is
