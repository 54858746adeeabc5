-- A show command shows the frame of the position that it names.
use Rattle.std.proofs.Common.{◌≡◌, ℕ, ◌+◌, ◌*◌, ◌^◌, ◌<◌, Bool, false, cond, ltb, List, [], ◌∷◌, ◌++◌, length as size, map, filter, take, drop, sym, ap, ◌∙◌, subst, inl, inr, append_assoc, take-append-drop, arith, zero, suc}
use Rattle.std.specs.Prelude.{IsTrue}
use Rattle.std.specs.List.{list_all}
use Rattle.std.proofs.lemmas.Bool.{cases_lt, lt-ltb}
use Rattle.std.proofs.lemmas.List.{map-append, drop_more}
use Rattle.std.proofs.lemmas.List.Elements.{filter-append}
use Rattle.pyramid.specs.declared.command.Command.{Command}
use Rattle.pyramid.specs.declared.command.Command.TheVariants.{Show}
use Rattle.pyramid.specs.declared.rows.Row.{Row}
use Rattle.pyramid.specs.Begins.{Begins}
use Rattle.pyramid.specs.Display.{Slots, held, slots_after, refreshed}
use Rattle.pyramid.specs.Gop.{within, group, groups, group_count}
use Rattle.pyramid.specs.Laws.{ShowsItsPosition}
use Rattle.pyramid.specs.Levels.{slot_of}
use Rattle.pyramid.specs.Numbers.{Numbers}
use Rattle.pyramid.specs.Positions.{row_position, position_at}
use Rattle.pyramid.specs.RowCommand.{key_of, code_of, command_of}
use Rattle.pyramid.specs.Rows.{row, rows, row_at, HasTable, is_row}
use Rattle.pyramid.proofs.Fronts.{begins_more, begins_behind}
use Rattle.pyramid.proofs.GroupCount.{group_within}
use Rattle.pyramid.proofs.Lists.{all-filter}
use Rattle.pyramid.proofs.Machine.{slots_after-append}
use Rattle.pyramid.proofs.Replay.{groups-replays, key-fills}
use Rattle.pyramid.proofs.RowReplay.{front-held, knows-none}
use Rattle.pyramid.proofs.Tables.{fits, table, group_cut, row_fits, shows_next}

-- the groups before and a group begin all the groups
pub groups-begin : (numbers : Numbers) (start length number count : ℕ) (front : List Command) → number < count → Begins front (group numbers start length number) → Begins (groups numbers start length number ++ front) (groups numbers start length count)
groups-begin numbers start length number zero front h b = absurd (omega arith)
groups-begin numbers start length number (suc count) front h b =
    elim (cases_lt number count) [
      | inl low ↦ begins_more _ (groups numbers start length count) (group numbers start length count) (groups-begin numbers start length number count front low b)
      | inr high ↦
          let e : number ≡ count = omega arith in
          let P : ℕ → Type 0 = λ c. Begins (groups numbers start length number ++ front) (groups numbers start length (suc c)) in
          let same : P number = begins_behind (groups numbers start length number) front (group numbers start length number) b in
          subst P e same
    ]

-- the rows of a group within the GOP, split at a row that is within it
pub within-split : (numbers : Numbers) (length number index : ℕ) → index < size (rows numbers.depth) → position_at numbers number index < length → within numbers length number (rows numbers.depth) ≡ within numbers length number (take index (rows numbers.depth)) ++ (row_at numbers.depth index ∷ within numbers length number (drop (index + 1) (rows numbers.depth)))
within-split numbers length number index h below =
    let all = rows numbers.depth in
    let r = row_at numbers.depth index in
    let p : Row → Bool = λ r. ltb (row_position numbers number r) length in
    let split : all ≡ take index all ++ (r ∷ drop (index + 1) all) = sym (take-append-drop index all) ∙ ap (λ s. take index all ++ s) (drop_more all index (row 0 0 0 false false) h) in
    ap (filter p) split ∙ filter-append p (take index all) (r ∷ drop (index + 1) all)
    ∙ ap (λ b. filter p (take index all) ++ cond b (r ∷ filter p (drop (index + 1) all)) (filter p (drop (index + 1) all))) (lt-ltb (row_position numbers number r) length below)

pub shows-its-position : (numbers : Numbers) (slots : Slots) (start length number index : ℕ) → HasTable numbers.depth → size slots ≡ 8 → index < size (rows numbers.depth) → IsTrue (row_at numbers.depth index).existing → position_at numbers number index < length → ShowsItsPosition numbers slots start length number index
shows-its-position numbers slots start length number index h eight low existing below =
    let t = table numbers.depth h in
    let r = row_at numbers.depth index in
    let front = within numbers length number (take index (rows numbers.depth)) in
    let back = within numbers length number (drop (index + 1) (rows numbers.depth)) in
    let f = command_of numbers start number in
    let slot = slot_of numbers.depth (row_position numbers number r) in
    let split = within-split numbers length number index low below in
    let show : f r ≡ Show slot = ap (λ b. cond b (Show slot) (code_of numbers start number r)) existing in
    let commands : group numbers start length number ≡ map f front ++ (Show slot ∷ map f back) = ap (map f) split ∙ map-append f front (r ∷ back) ∙ ap (λ c. map f front ++ (c ∷ map f back)) show in
    let begins : Begins (map f front ++ (Show slot ∷ [])) (group numbers start length number) = (map f back, commands ∙ sym (append_assoc (map f front) (Show slot ∷ []) (map f back))) in
    let row = fits numbers.depth r (row_fits numbers.depth index h low) in
    let count = group_count numbers length in
    let above = row.above in
    let whole = groups-begin numbers start length number count (map f front ++ (Show slot ∷ [])) (group_within numbers length number (omega arith)) begins in
    let earlier = groups numbers start length number in
    let regroup = ap (λ s. s ++ whole.0) (sym (append_assoc earlier (map f front) (Show slot ∷ []))) ∙ append_assoc (earlier ++ map f front) (Show slot ∷ []) whole.0 in
    let full = (groups-replays numbers (refreshed 255 start slots) start length number h (key-fills start slots eight)).after in
    let all = all-filter (is_row numbers.depth) (λ r. ltb (row_position numbers number r) length) (rows numbers.depth) t.all in
    let held_there = front-held numbers start number t.small [] 1 front r back (slots_after (refreshed 255 start slots) earlier) (ap (list_all (is_row numbers.depth)) (sym split) ∙ all) (ap (λ rs. shows_next [] 1 rs) (sym split) ∙ (group_cut numbers length number h).shows) full (knows-none start (2 ^ numbers.depth * number) number (slots_after (refreshed 255 start slots) earlier)) existing in
    let both = slots_after-append (refreshed 255 start slots) earlier (map f front) in
    (whole.0, ap (λ s. key_of start ∷ s) (whole.1 ∙ regroup), ap (λ s. held s slot) both ∙ held_there)
