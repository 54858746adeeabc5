-- Each input of a plan is coded once.
use Rattle.std.proofs.Common.{◌≡◌, ℕ, ◌+◌, ◌-◌, ◌*◌, ◌^◌, ◌<◌, ◌≤◌, min, Bool, cond, eqb, List, [], ◌∷◌, ◌++◌, map, refl, sym, ap, ◌∙◌, subst, inl, inr, ◌⊎◌, arith, zero, suc}
use Rattle.std.specs.List.{count_by, flat_map, range_with_len}
use Rattle.std.proofs.lemmas.Bool.{cases_lt, cond_both}
use Rattle.std.proofs.lemmas.Bool.Decides.{nat_tests}
use Rattle.std.proofs.lemmas.List.Sums.{sum_by-append}
use Rattle.pyramid.specs.declared.command.Command.TheVariants.{Show}
use Rattle.pyramid.specs.declared.rows.Row.{Row}
use Rattle.pyramid.specs.Levels.{slot_of}
use Rattle.pyramid.specs.Positions.{row_position}
use Rattle.pyramid.specs.Rows.{rows, HasTable}
use Rattle.pyramid.specs.Numbers.{Numbers}
use Rattle.pyramid.specs.RowCommand.{key_of, code_of, command_of}
use Rattle.pyramid.specs.Gop.{within, group, groups, group_count, gop}
use Rattle.pyramid.specs.Plan.{start_after, starts_from, gop_at, plan}
use Rattle.pyramid.specs.Display.{codes}
use Rattle.pyramid.proofs.Replay.{range-join}
use Rattle.pyramid.proofs.PlanSteps.{start_after-later, start_after-within, starts_from-done, starts_from-one}
use Rattle.pyramid.proofs.GroupCount.{groups_enough}
use Rattle.pyramid.proofs.Lists.{digit, count-cons, count-append, count_same, count-sorted}
use Rattle.pyramid.proofs.Tables.{coded, group_cut, inputs_of}

-- how often a number is in a list
abbrev times : ℕ → List ℕ → ℕ
times f xs = count_by (λ x. eqb x f) xs

abbrev one_if : ℕ → ℕ → ℕ
one_if f x = cond (eqb x f) 1 0

times-append : (f : ℕ) (xs ys : List ℕ) → times f (xs ++ ys) ≡ times f xs + times f ys
times-append f xs ys = sum_by-append (one_if f) xs ys

-- a number is coded by a group as often as its place is by the rows
codes-code : (numbers : Numbers) (start number f : ℕ) (r : Row) → codes f (code_of numbers start number r) ≡ eqb (start + (2 ^ numbers.depth * number + r.offset)) f
codes-code numbers start number f r = refl

coded-rows : (numbers : Numbers) (start number f : ℕ) (rs : List Row) → count_by (codes f) (map (command_of numbers start number) rs) ≡ count_by (λ o. eqb (start + (2 ^ numbers.depth * number + o)) f) (coded rs)
coded-rows numbers start number f [] = refl
coded-rows numbers start number f (r ∷ rs) =
    let test : ℕ → Bool = λ o. eqb (start + (2 ^ numbers.depth * number + o)) f in
    let rest = coded-rows numbers start number f rs in
    let slot = slot_of numbers.depth (row_position numbers number r) in
    let here = count-cons (codes f) (command_of numbers start number r) (map (command_of numbers start number) rs) in
    cond_both r.existing (coded rs) (r.offset ∷ coded rs) (λ xs. count_by (codes f) (map (command_of numbers start number) (r ∷ rs)) ≡ count_by test xs)
    (λ e.
    let none : digit (codes f (command_of numbers start number r)) ≡ 0 = ap (λ (b : Bool). digit (codes f (cond b (Show slot) (code_of numbers start number r)))) e in
    omega (arith, here, rest, none))
    (λ e.
    let one : digit (codes f (command_of numbers start number r)) ≡ digit (test r.offset) = ap (λ (b : Bool). digit (codes f (cond b (Show slot) (code_of numbers start number r)))) e in
    omega (arith, here, rest, one, count-cons test r.offset (coded rs)))

shifted : (base low count f : ℕ) → count_by (λ o. eqb (base + o) f) (range_with_len low count) ≡ times f (range_with_len (base + low) count)
shifted base low zero f = refl
shifted base low (suc count) f =
    let further : base + (low + 1) ≡ base + low + 1 = omega arith in
    let rest = shifted base (low + 1) count f ∙ ap (λ (n : ℕ). times f (range_with_len n count)) further in
    omega (arith, rest, count-cons (λ o. eqb (base + o) f) low (range_with_len (low + 1) count), count-cons (λ x. eqb x f) (base + low) (range_with_len (base + low + 1) count))

coded-group : (numbers : Numbers) (start length number f : ℕ) → HasTable numbers.depth → count_by (codes f) (group numbers start length number) ≡ times f (range_with_len (start + (2 ^ numbers.depth * number + 1)) (inputs_of numbers length number))
coded-group numbers start length number f h =
    let base = 2 ^ numbers.depth * number in
    let rs = within numbers length number (rows numbers.depth) in
    let test : ℕ → Bool = λ o. eqb (start + (base + o)) f in
    let test' : ℕ → Bool = λ o. eqb (start + base + o) f in
    let same : (o : ℕ) → test o ≡ test' o = λ o. let e : start + (base + o) ≡ start + base + o = omega arith in ap (λ (n : ℕ). eqb n f) e in
    let place : start + base + 1 ≡ start + (base + 1) = omega arith in
    coded-rows numbers start number f rs
    ∙ sym (count-sorted test (coded rs)) ∙ ap (count_by test) (group_cut numbers length number h).codes
    ∙ count_same test test' same (range_with_len 1 (inputs_of numbers length number))
    ∙ shifted (start + base) 1 (inputs_of numbers length number) f
    ∙ ap (λ (n : ℕ). times f (range_with_len n (inputs_of numbers length number))) place

coded-groups : (numbers : Numbers) (start length count f : ℕ) → HasTable numbers.depth → count_by (codes f) (groups numbers start length count) ≡ times f (range_with_len (start + 1) (min (2 ^ numbers.depth * count) (length - 1)))
coded-groups numbers start length zero f h =
    let e : 0 ≡ min (2 ^ numbers.depth * zero) (length - 1) = omega arith in
    ap (λ (n : ℕ). times f (range_with_len (start + 1) n)) e
coded-groups numbers start length (suc count) f h =
    let inputs = 2 ^ numbers.depth in
    let before = range_with_len (start + 1) (min (inputs * count) (length - 1)) in
    let more = range_with_len (start + (inputs * count + 1)) (inputs_of numbers length count) in
    let joined = range-join (start + 1) (start + (inputs * count + 1)) (start + 1) (min (inputs * count) (length - 1)) (inputs_of numbers length count) (min (inputs * suc count) (length - 1)) (λ more. omega arith) (omega arith) refl in
    count-append (codes f) (groups numbers start length count) (group numbers start length count)
    ∙ ap (λ (n : ℕ). n + count_by (codes f) (group numbers start length count)) (coded-groups numbers start length count f h)
    ∙ ap (λ (n : ℕ). times f before + n) (coded-group numbers start length count f h)
    ∙ sym (times-append f before more) ∙ ap (times f) joined

pub coded-gop : (numbers : Numbers) (start length f : ℕ) → HasTable numbers.depth → 1 ≤ length → count_by (codes f) (gop numbers start length) ≡ times f (range_with_len start length)
coded-gop numbers start length f h some =
    let count = group_count numbers length in
    let enough = groups_enough numbers length in
    let e : min (2 ^ numbers.depth * count) (length - 1) ≡ length - 1 = omega arith in
    let g : suc (length - 1) ≡ length = omega arith in
    let rest = range_with_len (start + 1) (length - 1) in
    let zero_first : 0 + one_if f start ≡ one_if f start = omega arith in
    count-cons (codes f) (key_of start) (groups numbers start length count)
    ∙ ap (λ (n : ℕ). one_if f start + n) (coded-groups numbers start length count f h ∙ ap (λ (n : ℕ). times f (range_with_len (start + 1) n)) e)
    ∙ ap (λ (n : ℕ). n + times f rest) (sym zero_first)
    ∙ sym (times-append f (start ∷ []) rest)
    ∙ ap (λ (n : ℕ). times f (range_with_len start n)) g

coded-starts : (numbers : Numbers) (interval frames : ℕ) (keys : List ℕ) (f : ℕ) → HasTable numbers.depth → 1 ≤ interval → (count start : ℕ) → frames ≤ start + count → count_by (codes f) (flat_map (gop_at numbers interval frames keys) (starts_from interval frames keys count start)) ≡ times f (range_with_len start (frames - start))
coded-starts numbers interval frames keys f table some zero start enough =
    let e : 0 ≡ frames - start = omega arith in
    ap (λ (n : ℕ). times f (range_with_len start n)) e
coded-starts numbers interval frames keys f table some (suc count) start enough =
    let all = flat_map (gop_at numbers interval frames keys) in
    let P : List ℕ → Type 0 = λ starts. count_by (codes f) (all starts) ≡ times f (range_with_len start (frames - start)) in
    elim (cases_lt start frames) [
      | inl h ↦
          let next = start_after interval frames keys start in
          let later = start_after-later interval frames keys start some h in
          let within = start_after-within interval frames keys start in
          let one = gop numbers start (next - start) in
          let rest = all (starts_from interval frames keys count next) in
          let here = range_with_len start (next - start) in
          let there = range_with_len next (frames - next) in
          let both : count_by (codes f) (one ++ rest) ≡ times f (range_with_len start (frames - start)) =
          count-append (codes f) one rest
          ∙ ap (λ (n : ℕ). n + count_by (codes f) rest) (coded-gop numbers start (next - start) f table (omega arith))
          ∙ ap (λ (n : ℕ). times f here + n) (coded-starts numbers interval frames keys f table some count next (omega arith))
          ∙ sym (times-append f here there)
          ∙ ap (times f) (range-join start next start (next - start) (frames - next) (frames - start) (λ more. omega arith) (omega arith) refl) in
          subst P (sym (starts_from-one interval frames keys count start h)) both
      | inr h ↦
          let e : 0 ≡ frames - start = omega arith in
          let none : count_by (codes f) (all []) ≡ times f (range_with_len start (frames - start)) = ap (λ (n : ℕ). times f (range_with_len start n)) e in
          subst P (sym (starts_from-done interval frames keys (suc count) start h)) none
    ]

times-cons : (f x : ℕ) (xs : List ℕ) → times f (x ∷ xs) ≡ one_if f x + times f xs
times-cons f x xs =
    let e : 0 + one_if f x ≡ one_if f x = omega arith in
    times-append f (x ∷ []) xs ∙ ap (λ (n : ℕ). n + times f xs) e

is-one : (f x : ℕ) → x ≡ f → one_if f x ≡ 1
is-one f x h = grind (arith, nat_tests)

is-zero : (f x : ℕ) → x < f ⊎ f < x → one_if f x ≡ 0
is-zero f x h = grind (arith, nat_tests)

times-none : (f low n : ℕ) → f < low → times f (range_with_len low n) ≡ 0
times-none f low zero h = refl
times-none f low (suc n) h =
    omega (arith, times-cons f low (range_with_len (low + 1) n), is-zero f low (inr h), times-none f (low + 1) n (omega arith))

times-once : (f low n : ℕ) → low ≤ f → f < low + n → times f (range_with_len low n) ≡ 1
times-once f low zero h k = absurd (omega arith)
times-once f low (suc n) h k =
    elim (cases_lt low f) [
      | inl before ↦ omega (arith, times-cons f low (range_with_len (low + 1) n), is-zero f low (inl before), times-once f (low + 1) n (omega arith) (omega arith))
      | inr here ↦
          let e : low ≡ f = omega arith in
          omega (arith, times-cons f low (range_with_len (low + 1) n), is-one f low e, times-none f (low + 1) n (omega arith))
    ]

pub plan-codes_once : (numbers : Numbers) (interval frames frame : ℕ) (keys : List ℕ) → HasTable numbers.depth → 1 ≤ interval → frame < frames → count_by (codes frame) (plan numbers interval frames keys) ≡ 1
plan-codes_once numbers interval frames frame keys table some within =
    coded-starts numbers interval frames keys frame table some frames 0 (omega arith) ∙ times-once frame 0 (frames - 0) (omega arith) (omega arith)
