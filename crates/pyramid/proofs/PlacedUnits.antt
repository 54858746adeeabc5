-- The placed units of a plan, and their commands.
use Rattle.std.proofs.Common.{arith, ◌≡◌, ℕ, ◌+◌, ◌-◌, ◌*◌, ◌≤◌, Bool, true, false, cond, eqb, ltb, List, [], ◌∷◌, ◌++◌, map, None, Some, refl, sym, ap, ap₂, ◌∙◌, ◌/◌, ◌%◌, ◌<◌}
use Rattle.std.specs.Prelude.{take_while}
use Rattle.std.specs.List.{flat_map, list_all, range_with_len}
use Rattle.std.specs.Option.{option_to_list}
use Rattle.std.proofs.lemmas.Bool.{and_parts}
use Rattle.std.proofs.lemmas.List.{map-append}
use Rattle.std.proofs.lemmas.List.Sums.{take_while-cons}
use Rattle.std.proofs.lemmas.Nat.{div-mul-add, mod-mul-add}
use Rattle.pyramid.specs.declared.command.Command.{Command}
use Rattle.pyramid.specs.declared.place.Place.{Place}
use Rattle.pyramid.specs.declared.place.PlaceRow.{PlaceRow}
use Rattle.pyramid.specs.declared.rows.Row.{Row}
use Rattle.pyramid.specs.Gop.{within, group_count}
use Rattle.pyramid.specs.Known.{CodingUnit, group_needs, group_unit, key_unit, first_unit, units_after, units}
use Rattle.pyramid.specs.Numbers.{Numbers, group_places}
use Rattle.pyramid.specs.Places.{place_row, row_place, commands_at, PlacedUnit, placed_group, placed_key, placed_first, placed_after, placed_units, places_of, settled_places, settled_commands}
use Rattle.pyramid.specs.Plan.{start_after, starts}
use Rattle.pyramid.specs.Positions.{row_position}
use Rattle.pyramid.specs.RowCommand.{command_of}
use Rattle.pyramid.specs.Rows.{rows, row_at, HasTable}
use Rattle.pyramid.proofs.Fronts.{take_while-yes}
use Rattle.pyramid.proofs.KnownUnits.{units-plan}
use Rattle.pyramid.proofs.PlacedLists.{commands-append}
use Rattle.pyramid.proofs.Tables.{table}

-- ---- a group whose rows aren't cut

abbrev whole_row : Numbers → ℕ → ℕ → Row → Place
whole_row numbers start number row =
    record { start = start; number = group_places numbers * number + row.index + 1; command = Some (command_of numbers start number row) }

-- row `index` of group `number`
abbrev pub row_of : Numbers → ℕ → ℕ → PlaceRow
row_of numbers number index =
    let row = row_at numbers.depth index in
    record { position = row_position numbers number row; level = row.level; shown = row.shown; show_existing = row.existing }

pub whole-rows : (numbers : Numbers) (start length number : ℕ) (rows : List Row) → list_all (λ row. ltb (row_position numbers number row) length) rows ≡ true → map (row_place numbers start length number) rows ≡ map (whole_row numbers start number) rows
whole-rows numbers start length number [] h = refl
whole-rows numbers start length number (row ∷ rows) h =
    let parts = and_parts (ltb (row_position numbers number row) length) (list_all (λ r. ltb (row_position numbers number r) length) rows) h in
    let at : Bool → Place = λ b. record { start = start; number = group_places numbers * number + row.index + 1; command = cond b (Some (command_of numbers start number row)) None } in
    ap₂ (λ (p : Place) (ps : List Place). p ∷ ps) (ap at parts.0) (whole-rows numbers start length number rows parts.1)

-- the number of a row's place leads back to the row
pub place-follows : (numbers : Numbers) (start length number index : ℕ) → HasTable numbers.depth → index < group_places numbers → place_row numbers (row_place numbers start length number (row_at numbers.depth index)).number ≡ row_of numbers number index
place-follows numbers start length number index has low =
    let places = group_places numbers in
    let n = places * number + (row_at numbers.depth index).index + 1 in
    let there : n - 1 ≡ number * places + index = omega (arith, (table numbers.depth has).index index low) in
    let group : (n - 1) / places ≡ number = ap (λ (k : ℕ). k / places) there ∙ div-mul-add number places index low in
    let rest : (n - 1) % places ≡ index = ap (λ (k : ℕ). k % places) there ∙ mod-mul-add number places index low in
    ap₂ (row_of numbers) group rest

-- ---- the commands of units

abbrev forget : PlacedUnit → CodingUnit
forget unit = record { needs = unit.needs; commands = commands_at unit.places }

group-commands : (numbers : Numbers) (start length number : ℕ) (rows : List Row) → commands_at (map (row_place numbers start length number) rows) ≡ map (command_of numbers start number) (within numbers length number rows)
group-commands numbers start length number [] = refl
group-commands numbers start length number (row ∷ rows) = by (ltb (row_position numbers number row) length) (group-commands numbers start length number rows)
  where
    c : Command
    c = command_of numbers start number row

    left : List Row
    left = within numbers length number rows

    by : (b : Bool) → commands_at (map (row_place numbers start length number) rows) ≡ map (command_of numbers start number) left → option_to_list (cond b (Some (command_of numbers start number row)) None) ++ commands_at (map (row_place numbers start length number) rows) ≡ map (command_of numbers start number) (cond b (row ∷ left) left)
    by true rest = ap (λ (cs : List Command). command_of numbers start number row ∷ cs) rest
    by false rest = rest

forget-group : (numbers : Numbers) (start length number : ℕ) → forget (placed_group numbers start length number) ≡ group_unit numbers start length number
forget-group numbers start length number =
    let at : List Command → CodingUnit = λ cs. record { needs = group_needs numbers start number; commands = cs } in
    ap at (group-commands numbers start length number (rows numbers.depth))

forget-groups : (numbers : Numbers) (start length : ℕ) (ns : List ℕ) → map forget (map (placed_group numbers start length) ns) ≡ map (group_unit numbers start length) ns
forget-groups numbers start length [] = refl
forget-groups numbers start length (n ∷ ns) =
    ap₂ (λ (u : CodingUnit) (us : List CodingUnit). u ∷ us) (forget-group numbers start length n) (forget-groups numbers start length ns)

forget-key : (numbers : Numbers) (start count next : ℕ) (b : Bool) → map forget (cond b (placed_key numbers start count next ∷ []) []) ≡ cond b (key_unit numbers start count next ∷ []) []
forget-key numbers start count next true = refl
forget-key numbers start count next false = refl

forget-after : (numbers : Numbers) (interval frames : ℕ) (keys : List ℕ) (start : ℕ) → map forget (placed_after numbers interval frames keys start) ≡ units_after numbers interval frames keys start
forget-after numbers interval frames keys start =
    let next = start_after interval frames keys start in
    let count = group_count numbers (next - start) in
    let groups = range_with_len 0 count in
    map-append forget (map (placed_group numbers start (next - start)) groups) (cond (ltb next frames) (placed_key numbers start count next ∷ []) [])
    ∙ ap₂ (λ (us vs : List CodingUnit). us ++ vs) (forget-groups numbers start (next - start) groups) (forget-key numbers start count next (ltb next frames))

forget-gops : (numbers : Numbers) (interval frames : ℕ) (keys ss : List ℕ) → map forget (flat_map (placed_after numbers interval frames keys) ss) ≡ flat_map (units_after numbers interval frames keys) ss
forget-gops numbers interval frames keys [] = refl
forget-gops numbers interval frames keys (s ∷ ss) =
    map-append forget (placed_after numbers interval frames keys s) (flat_map (placed_after numbers interval frames keys) ss)
    ∙ ap₂ (λ (us vs : List CodingUnit). us ++ vs) (forget-after numbers interval frames keys s) (forget-gops numbers interval frames keys ss)

forget-units : (numbers : Numbers) (interval frames : ℕ) (keys : List ℕ) → map forget (placed_units numbers interval frames keys) ≡ units numbers interval frames keys
forget-units numbers interval frames keys = by (eqb frames 0)
  where
    by : (b : Bool) → map forget (cond b [] (placed_first numbers ∷ flat_map (placed_after numbers interval frames keys) (starts interval frames keys))) ≡ cond b [] (first_unit numbers ∷ flat_map (units_after numbers interval frames keys) (starts interval frames keys))
    by true = refl
    by false = ap (λ (us : List CodingUnit). first_unit numbers ∷ us) (forget-gops numbers interval frames keys (starts interval frames keys))

abbrev joined : List CodingUnit → List Command
joined = flat_map (λ (unit : CodingUnit). unit.commands)

commands-forget : (us : List PlacedUnit) → commands_at (places_of us) ≡ joined (map forget us)
commands-forget [] = refl
commands-forget (u ∷ us) = commands-append u.places (places_of us) ∙ ap (λ (cs : List Command). commands_at u.places ++ cs) (commands-forget us)

forget-while : (p : ℕ → Bool) (us : List PlacedUnit) → map forget (take_while (λ u. p u.needs) us) ≡ take_while (λ u. p u.needs) (map forget us)
forget-while p [] = refl
forget-while p (u ∷ us) =
    ap (map forget) (take_while-cons (λ (v : PlacedUnit). p v.needs) u us) ∙ by (p u.needs) (forget-while p us) ∙ sym (take_while-cons (λ (v : CodingUnit). p v.needs) (forget u) (map forget us))
  where
    by : (b : Bool) → map forget (take_while (λ v. p v.needs) us) ≡ take_while (λ v. p v.needs) (map forget us) → map forget (cond b (u ∷ take_while (λ v. p v.needs) us) []) ≡ cond b (forget u ∷ take_while (λ v. p v.needs) (map forget us)) []
    by true rest = ap (λ (vs : List CodingUnit). forget u ∷ vs) rest
    by false rest = refl

-- where all pass
while-all : (us : List PlacedUnit) → take_while (λ _. true) us ≡ us
while-all [] = refl
while-all (u ∷ us) = take_while-yes (λ (_ : PlacedUnit). true) u us refl ∙ ap (λ (vs : List PlacedUnit). u ∷ vs) (while-all us)

-- the places that are known have the known commands
pub settled-commands : (numbers : Numbers) (interval frames : ℕ) (flushed : Bool) (keys : List ℕ) → 1 ≤ interval → commands_at (settled_places numbers interval frames flushed keys) ≡ settled_commands numbers interval frames flushed keys
settled-commands numbers interval frames true keys some =
    ap (λ (us : List PlacedUnit). commands_at (places_of us)) (while-all (placed_units numbers interval frames keys))
    ∙ commands-forget (placed_units numbers interval frames keys)
    ∙ ap joined (forget-units numbers interval frames keys)
    ∙ units-plan numbers interval frames keys some
settled-commands numbers interval frames false keys some =
    let p : ℕ → Bool = λ n. ltb n frames in
    commands-forget (take_while (λ u. p u.needs) (placed_units numbers interval frames keys))
    ∙ ap joined (forget-while p (placed_units numbers interval frames keys))
    ∙ ap (λ (us : List CodingUnit). joined (take_while (λ u. p u.needs) us)) (forget-units numbers interval frames keys)
