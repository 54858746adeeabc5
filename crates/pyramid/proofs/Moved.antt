-- A GOP is the GOP from input 0, moved.
use Rattle.std.proofs.Common.{◌≡◌, ℕ, ◌+◌, ◌-◌, Bool, true, false, cond, List, [], ◌∷◌, ◌++◌, map, refl, sym, ap, ◌∙◌, arith, zero, suc}
use Rattle.std.specs.List.{flat_map}
use Rattle.std.proofs.lemmas.List.{map-append}
use Rattle.pyramid.specs.declared.command.Command.{Command}
use Rattle.pyramid.specs.declared.command.Command.TheVariants.{Show}
use Rattle.pyramid.specs.declared.rows.Row.{Row}
use Rattle.pyramid.specs.Numbers.{Numbers}
use Rattle.pyramid.specs.RowCommand.{key_of, code_of, command_of}
use Rattle.pyramid.specs.Levels.{slot_of}
use Rattle.pyramid.specs.Positions.{row_position}
use Rattle.pyramid.specs.Rows.{rows}
use Rattle.pyramid.specs.Gop.{within, group, groups, group_count, gop}
use Rattle.pyramid.specs.Plan.{start_after, starts, gop_at, plan}
use Rattle.pyramid.specs.Moved.{moved, plan_of_moved}

moved-code : (numbers : Numbers) (start number : ℕ) (row : Row) → code_of numbers start number row ≡ moved start (code_of numbers 0 number row)
moved-code numbers start number row =
    let position = row_position numbers number row in
    let e : start + position ≡ start + (0 + position) = omega arith in
    cc

moved-either : (b : Bool) (start : ℕ) (here there : Command) (slot : ℕ) → here ≡ moved start there → cond b (Show slot) here ≡ moved start (cond b (Show slot) there)
moved-either true start here there slot e = refl
moved-either false start here there slot e = e

moved-command : (numbers : Numbers) (start number : ℕ) (row : Row) → command_of numbers start number row ≡ moved start (command_of numbers 0 number row)
moved-command numbers start number row =
    let slot = slot_of numbers.depth (row_position numbers number row) in
    moved-either row.existing start (code_of numbers start number row) (code_of numbers 0 number row) slot (moved-code numbers start number row)

moved-rows : (numbers : Numbers) (start number : ℕ) (rows : List Row) → map (command_of numbers start number) rows ≡ map (moved start) (map (command_of numbers 0 number) rows)
moved-rows numbers start number [] = refl
moved-rows numbers start number (row ∷ rows) =
    let one = moved-command numbers start number row in
    let rest = moved-rows numbers start number rows in
    ap (λ c. c ∷ map (command_of numbers start number) rows) one ∙ ap (λ s. moved start (command_of numbers 0 number row) ∷ s) rest

moved-groups : (numbers : Numbers) (start length count : ℕ) → groups numbers start length count ≡ map (moved start) (groups numbers 0 length count)
moved-groups numbers start length zero = refl
moved-groups numbers start length (suc count) =
    ap (λ s. s ++ group numbers start length count) (moved-groups numbers start length count)
    ∙ ap (λ s. map (moved start) (groups numbers 0 length count) ++ s) (moved-rows numbers start count (within numbers length count (rows numbers.depth)))
    ∙ sym (map-append (moved start) (groups numbers 0 length count) (group numbers 0 length count))

pub gop-moved : (numbers : Numbers) (start length : ℕ) → gop numbers start length ≡ map (moved start) (gop numbers 0 length)
gop-moved numbers start length =
    let e : start ≡ start + 0 = omega arith in
    ap (λ s. key_of s ∷ groups numbers start length (group_count numbers length)) e
    ∙ ap (λ s. key_of (start + 0) ∷ s) (moved-groups numbers start length (group_count numbers length))

flat_map-same : (f g : ℕ → List Command) → ((s : ℕ) → f s ≡ g s) → (xs : List ℕ) → flat_map f xs ≡ flat_map g xs
flat_map-same f g h [] = refl
flat_map-same f g h (x ∷ xs) = ap (λ s. s ++ flat_map f xs) (h x) ∙ ap (λ s. g x ++ s) (flat_map-same f g h xs)

pub plan-moved : (numbers : Numbers) (interval frames : ℕ) (keys : List ℕ) → plan numbers interval frames keys ≡ plan_of_moved numbers interval frames keys
plan-moved numbers interval frames keys =
    flat_map-same (gop_at numbers interval frames keys) _ (λ start. gop-moved numbers start (start_after interval frames keys start - start)) (starts interval frames keys)
