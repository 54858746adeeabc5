-- One more step of the loops that build a GOP.
use Rattle.std.proofs.Common.{◌≡◌, ℕ, ◌+◌, ◌<◌, ◌≤◌, Bool, cond, ltb, List, [], ◌∷◌, ◌++◌, length as size, get_or, take, refl, sym, ap, ◌∙◌, map, filter, append_assoc, append-nil, add-one}
use Rattle.std.proofs.lemmas.Bool.{lt-ltb, le-ltb}
use Rattle.std.proofs.lemmas.List.{map-append}
use Rattle.std.proofs.lemmas.List.Elements.{filter_more}
use Rattle.pyramid.specs.declared.command.Command.{Command}
use Rattle.pyramid.specs.declared.rows.Row.{Row}
use Rattle.pyramid.specs.Numbers.{Numbers}
use Rattle.pyramid.specs.Positions.{row_position}
use Rattle.pyramid.specs.RowCommand.{command_of, key_of}
use Rattle.pyramid.specs.Gop.{within, group, groups, group_count, gop}

pub groups-more : (numbers : Numbers) (start length count : ℕ) → groups numbers start length (count + 1) ≡ groups numbers start length count ++ group numbers start length count
groups-more numbers start length count = rw add-one refl

-- the commands of a group, as far as some rows go
abbrev pub group_of : Numbers → ℕ → ℕ → ℕ → List Row → List Command
group_of numbers start length number rows = map (command_of numbers start number) (within numbers length number rows)

pub group_of-within : (numbers : Numbers) (start length number : ℕ) (rows : List Row) (k : ℕ) (d : Row) → k < size rows → row_position numbers number (get_or rows k d) < length → group_of numbers start length number (take (k + 1) rows) ≡ group_of numbers start length number (take k rows) ++ command_of numbers start number (get_or rows k d) ∷ []
group_of-within numbers start length number rows k d h below =
    let p : Row → Bool = λ r. ltb (row_position numbers number r) length in
    let f = command_of numbers start number in
    let at : Bool → List Command = λ b. map f (filter p (take k rows) ++ cond b (get_or rows k d ∷ []) []) in
    ap (map f) (filter_more p rows k d h) ∙ ap at (lt-ltb _ _ below) ∙ map-append f (filter p (take k rows)) (get_or rows k d ∷ [])

pub group_of-past : (numbers : Numbers) (start length number : ℕ) (rows : List Row) (k : ℕ) (d : Row) → k < size rows → length ≤ row_position numbers number (get_or rows k d) → group_of numbers start length number (take (k + 1) rows) ≡ group_of numbers start length number (take k rows)
group_of-past numbers start length number rows k d h below =
    let p : Row → Bool = λ r. ltb (row_position numbers number r) length in
    let f = command_of numbers start number in
    let at : Bool → List Command = λ b. map f (filter p (take k rows) ++ cond b (get_or rows k d ∷ []) []) in
    ap (map f) (filter_more p rows k d h) ∙ ap at (le-ltb _ _ below) ∙ ap (map f) (append-nil (filter p (take k rows)))

-- a list that grew, and what it grew by
pub appended : (before built more all now after : List Command) → after ≡ now ++ more → now ≡ before ++ built → all ≡ built ++ more → after ≡ before ++ all
appended before built more all now after last first whole =
    last ∙ ap (λ s. s ++ more) first ∙ append_assoc before built more ∙ ap (λ s. before ++ s) (sym whole)

-- a GOP as its key was pushed and its groups were
pub gop_built : (numbers : Numbers) (start length count : ℕ) (key : Command) (before pushed after : List Command) → key ≡ key_of start → pushed ≡ before ++ key ∷ [] → count ≡ group_count numbers length → after ≡ pushed ++ groups numbers start length count → after ≡ before ++ gop numbers start length
gop_built numbers start length count key before pushed after is first all rest =
    let key_first = first ∙ ap (λ c. before ++ c ∷ []) is in
    let whole = rest ∙ ap (λ n. pushed ++ groups numbers start length n) all in
    appended before (key_of start ∷ []) _ _ pushed after whole key_first refl
