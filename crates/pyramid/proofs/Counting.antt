-- How many commands of a GOP and of a plan hide their frames.
use Rattle.std.proofs.Common.{◌≡◌, ℕ, ◌+◌, ◌-◌, ◌*◌, ◌/◌, ◌^◌, ◌≤◌, min, Bool, true, false, not, cond, ltb, List, [], ◌∷◌, ◌++◌, map, length as size, refl, sym, ap, subst, inl, inr, arith, zero, suc}
use Rattle.std.specs.List.{flat_map, list_all, count_by}
use Rattle.std.proofs.lemmas.Bool.{cases_lt, cond_both, and_parts}
use Rattle.pyramid.specs.declared.command.Command.{Command}
use Rattle.pyramid.specs.declared.command.Command.TheVariants.{Show}
use Rattle.pyramid.specs.declared.rows.Row.{Row}
use Rattle.pyramid.specs.Levels.{slot_of}
use Rattle.pyramid.specs.Positions.{row_position}
use Rattle.pyramid.specs.Rows.{rows, HasTable, is_row}
use Rattle.pyramid.specs.Numbers.{Numbers}
use Rattle.pyramid.specs.RowCommand.{key_of, code_of, command_of}
use Rattle.pyramid.specs.Gop.{within, group, groups, group_count, gop}
use Rattle.pyramid.specs.Plan.{start_after, starts_from, gop_at, plan}
use Rattle.pyramid.specs.Display.{shows, showing, hiding}
use Rattle.pyramid.proofs.PlanSteps.{start_after-later, start_after-within, starts_from-done, starts_from-one}
use Rattle.pyramid.proofs.Lists.{all-filter, digit, count-cons, count-append}
use Rattle.pyramid.proofs.Tables.{fits, table, group_cut, inputs_of}
use Rattle.pyramid.proofs.PlanLaws.{plan-showing}

abbrev hides : Command → Bool
hides command = not (shows command)

shown_or_hidden : (b : Bool) → cond b 1 0 + cond (not b) 1 0 ≡ 1
shown_or_hidden true = refl
shown_or_hidden false = refl

pub showing-hiding : (commands : List Command) → size commands ≡ showing commands + hiding commands
showing-hiding [] = refl
showing-hiding (command ∷ commands) =
    omega (arith, showing-hiding commands, count-cons shows command commands, count-cons hides command commands, shown_or_hidden (shows command))

shows-command : (numbers : Numbers) (start number : ℕ) (r : Row) → is_row numbers.depth r ≡ true → shows (command_of numbers start number r) ≡ r.shown
shows-command numbers start number r h =
    cond_both r.existing (Show (slot_of numbers.depth (row_position numbers number r))) (code_of numbers start number r) (λ c. shows c ≡ r.shown)
    (λ e. sym ((fits numbers.depth r h).visible e)) (λ e. refl)

hiding-rows : (numbers : Numbers) (start number : ℕ) (rs : List Row) → list_all (is_row numbers.depth) rs ≡ true → hiding (map (command_of numbers start number) rs) ≡ count_by (λ r. not r.shown) rs
hiding-rows numbers start number [] all = refl
hiding-rows numbers start number (r ∷ rs) all =
    let parts = and_parts (is_row numbers.depth r) (list_all (is_row numbers.depth) rs) all in
    let one : digit (not (shows (command_of numbers start number r))) ≡ digit (not r.shown) = ap (λ b. digit (not b)) (shows-command numbers start number r parts.0) in
    omega (arith, one, hiding-rows numbers start number rs parts.1, count-cons hides (command_of numbers start number r) (map (command_of numbers start number) rs), count-cons (λ r. not r.shown) r rs)

hiding-group : (numbers : Numbers) (start length number : ℕ) → HasTable numbers.depth → hiding (group numbers start length number) ≤ inputs_of numbers length number / 2
hiding-group numbers start length number h =
    let all = all-filter (is_row numbers.depth) (λ r. ltb (row_position numbers number r) length) (rows numbers.depth) (table numbers.depth h).all in
    omega (arith, hiding-rows numbers start number (within numbers length number (rows numbers.depth)) all, (group_cut numbers length number h).hides)

hiding-groups : (numbers : Numbers) (start length count : ℕ) → HasTable numbers.depth → hiding (groups numbers start length count) ≤ min (2 ^ numbers.depth * count) (length - 1) / 2
hiding-groups numbers start length zero h = omega arith
hiding-groups numbers start length (suc count) h =
    let inputs = 2 ^ numbers.depth in
    let before = hiding-groups numbers start length count h in
    let one = hiding-group numbers start length count h in
    let both : min (inputs * count) (length - 1) + inputs_of numbers length count ≡ min (inputs * suc count) (length - 1) = omega arith in
    omega (arith, count-append hides (groups numbers start length count) (group numbers start length count), before, one, both)

pub hiding-gop : (numbers : Numbers) (start length : ℕ) → HasTable numbers.depth → 1 ≤ length → hiding (gop numbers start length) ≤ (length - 1) / 2
hiding-gop numbers start length h some =
    let count = group_count numbers length in
    omega (arith, count-cons hides (key_of start) (groups numbers start length count), hiding-groups numbers start length count h)

hiding-starts : (numbers : Numbers) (interval frames : ℕ) (keys : List ℕ) → HasTable numbers.depth → 1 ≤ interval → (count start : ℕ) → hiding (flat_map (gop_at numbers interval frames keys) (starts_from interval frames keys count start)) ≤ (frames - start) / 2
hiding-starts numbers interval frames keys h some zero start = omega arith
hiding-starts numbers interval frames keys h some (suc count) start =
    let all = flat_map (gop_at numbers interval frames keys) in
    let P : List ℕ → Type 0 = λ starts. hiding (all starts) ≤ (frames - start) / 2 in
    elim (cases_lt start frames) [
      | inl more ↦
          let next = start_after interval frames keys start in
          let later = start_after-later interval frames keys start some more in
          let within = start_after-within interval frames keys start in
          let one = gop numbers start (next - start) in
          let rest = all (starts_from interval frames keys count next) in
          let first = hiding-gop numbers start (next - start) h (omega arith) in
          let others = hiding-starts numbers interval frames keys h some count next in
          let both : hiding (one ++ rest) ≤ (frames - start) / 2 = omega (arith, count-append hides one rest, first, others) in
          subst P (sym (starts_from-one interval frames keys count start more)) both
      | inr done ↦
          let none : hiding (all []) ≤ (frames - start) / 2 = omega arith in
          subst P (sym (starts_from-done interval frames keys (suc count) start done)) none
    ]

pub plan-length : (numbers : Numbers) (interval frames : ℕ) (keys : List ℕ) → HasTable numbers.depth → 1 ≤ interval → size (plan numbers interval frames keys) ≤ frames + frames / 2
plan-length numbers interval frames keys h some =
    omega (arith, showing-hiding (plan numbers interval frames keys), plan-showing numbers interval frames keys h some, hiding-starts numbers interval frames keys h some frames 0)
