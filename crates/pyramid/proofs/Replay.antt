-- Groups, GOPs and plans, replayed.
use Rattle.std.proofs.Common.{◌≡◌, ℕ, ◌+◌, ◌-◌, ◌*◌, ◌/◌, ◌^◌, ◌<◌, ◌≤◌, min, true, cond, ltb, List, [], ◌∷◌, ◌++◌, length as size, Some, refl, sym, ap, ◌∙◌, subst, inl, inr, arith, zero, suc}
use Rattle.std.specs.Prelude.{is_some}
use Rattle.std.specs.List.{list_all, range_with_len, flat_map}
use Rattle.std.proofs.lemmas.Bool.{cases_lt}
use Rattle.pyramid.specs.declared.command.Command.{Command}
use Rattle.pyramid.specs.Numbers.{Numbers}
use Rattle.pyramid.specs.RowCommand.{key_of}
use Rattle.pyramid.specs.Gop.{within, group, groups, group_count, gop}
use Rattle.pyramid.specs.Positions.{row_position}
use Rattle.pyramid.specs.Rows.{rows, HasTable, is_row}
use Rattle.pyramid.specs.Plan.{start_after, starts_from, gop_at, plan}
use Rattle.pyramid.specs.Display.{Slots, empty_slots, refreshed, slots_after}
use Rattle.pyramid.proofs.Machine.{IsFull, bit, length-refreshed, Replays, Replays-nil, Replays-cons, Replays-append, both}
use Rattle.pyramid.proofs.Bits.{every_bit}
use Rattle.pyramid.proofs.GroupCount.{groups_enough}
use Rattle.pyramid.proofs.Lists.{all-filter}
use Rattle.pyramid.proofs.RowReplay.{rows-replay, knows-none}
use Rattle.pyramid.proofs.Tables.{table, group_cut, inputs_of}
use Rattle.pyramid.proofs.PlanSteps.{start_after-later, start_after-within, starts_from-done, starts_from-one}

pub range-append : (a m n : ℕ) → range_with_len a (m + n) ≡ range_with_len a m ++ range_with_len (a + m) n
range-append a zero n =
    let e : zero + n ≡ n = omega arith in
    let f : a ≡ a + zero = omega arith in
    ap (range_with_len a) e ∙ ap (λ b. range_with_len b n) f
range-append a (suc m) n =
    let e : suc m + n ≡ suc (m + n) = omega arith in
    let f : a + 1 + m ≡ a + suc m = omega arith in
    ap (range_with_len a) e ∙ ap (λ r. a ∷ r) (range-append (a + 1) m n ∙ ap (λ b. range_with_len (a + 1) m ++ range_with_len b n) f)

range-same : (a b n : ℕ) → (0 < n → a ≡ b) → range_with_len a n ≡ range_with_len b n
range-same a b zero h = refl
range-same a b (suc n) h = ap (λ c. range_with_len c (suc n)) (h (omega arith))

pub range-join : (a b c m n l : ℕ) → (0 < n → a + m ≡ b) → m + n ≡ l → a ≡ c → range_with_len a m ++ range_with_len b n ≡ range_with_len c l
range-join a b c m n l h e f =
    ap (λ s. range_with_len a m ++ s) (sym (range-same (a + m) b n h))
    ∙ sym (range-append a m n) ∙ ap (range_with_len a) e ∙ ap (λ x. range_with_len x l) f

pub same_frames : (After : Slots → Type 0) (slots : Slots) (commands : List Command) (fs gs : List ℕ) → Replays After slots commands fs → fs ≡ gs → Replays After slots commands gs
same_frames After slots commands fs gs r e =
    let P : List ℕ → Type 0 = λ fs. Replays After slots commands fs in
    subst P e r

pub group-replays : (numbers : Numbers) (slots : Slots) (start length number : ℕ) → HasTable numbers.depth → IsFull slots → Replays IsFull slots (group numbers start length number) (range_with_len (start + (2 ^ numbers.depth * number + 1)) (inputs_of numbers length number))
group-replays numbers slots start length number h full =
    let t = table numbers.depth h in
    let rs = within numbers length number (rows numbers.depth) in
    let cut = group_cut numbers length number h in
    let all = all-filter (is_row numbers.depth) (λ r. ltb (row_position numbers number r) length) (rows numbers.depth) t.all in
    same_frames IsFull slots (group numbers start length number) _ _
    (rows-replay numbers start number t.small [] 1 rs slots all cut.shows full (knows-none start (2 ^ numbers.depth * number) number slots))
    (ap (range_with_len (start + (2 ^ numbers.depth * number + 1))) cut.count)

pub groups-replays : (numbers : Numbers) (slots : Slots) (start length count : ℕ) → HasTable numbers.depth → IsFull slots → Replays IsFull slots (groups numbers start length count) (range_with_len (start + 1) (min (2 ^ numbers.depth * count) (length - 1)))
groups-replays numbers slots start length zero h full =
    let e : 0 ≡ min (2 ^ numbers.depth * zero) (length - 1) = omega arith in
    same_frames IsFull slots [] [] _ (Replays-nil IsFull slots full) (ap (range_with_len (start + 1)) e)
groups-replays numbers slots start length (suc count) h full =
    let inputs = 2 ^ numbers.depth in
    let before = groups numbers start length count in
    let r = Replays-append IsFull IsFull slots before (group numbers start length count) _ _ (groups-replays numbers slots start length count h full) (λ after. group-replays numbers (slots_after slots before) start length count h after) in
    same_frames IsFull slots _ _ _ r
    (range-join (start + 1) (start + (inputs * count + 1)) (start + 1) (min (inputs * count) (length - 1)) (inputs_of numbers length count) (min (inputs * suc count) (length - 1)) (λ h. omega arith) (omega arith) refl)

all_set : (bits frame : ℕ) (slots : Slots) → ((slot : ℕ) → slot < size slots → bit bits slot ≡ true) → list_all is_some (refreshed bits frame slots) ≡ true
all_set bits frame [] h = refl
all_set bits frame (one ∷ slots) h =
    both (is_some (cond (bit bits 0) (Some frame) one)) _ (ap (λ b. is_some (cond b (Some frame) one)) (h 0 (omega arith)))
    (all_set (bits / 2) frame slots (λ slot low. h (suc slot) (omega arith)))

-- a key fills every slot
pub key-fills : (frame : ℕ) (slots : Slots) → size slots ≡ 8 → IsFull (refreshed 255 frame slots)
key-fills frame slots eight = record {
  eight = length-refreshed 255 frame slots ∙ eight;
  all = all_set 255 frame slots (λ slot low. every_bit slot (omega arith));
}

pub gop-replays : (numbers : Numbers) (slots : Slots) (start length : ℕ) → HasTable numbers.depth → size slots ≡ 8 → 1 ≤ length → Replays IsFull slots (gop numbers start length) (range_with_len start length)
gop-replays numbers slots start length h eight some =
    let count = group_count numbers length in
    let r = Replays-cons IsFull slots (key_of start) (groups numbers start length count) (start ∷ []) _ refl refl (groups-replays numbers (refreshed 255 start slots) start length count h (key-fills start slots eight)) in
    let e : min (2 ^ numbers.depth * count) (length - 1) ≡ length - 1 = let enough = groups_enough numbers length in omega arith in
    let f : suc (length - 1) ≡ length = omega arith in
    same_frames IsFull slots _ _ _ r (ap (λ n. start ∷ range_with_len (start + 1) n) e ∙ ap (range_with_len start) f)

abbrev pub IsEight : Slots → Type 0
IsEight slots = size slots ≡ 8

starts-replay : (numbers : Numbers) (interval frames : ℕ) (keys : List ℕ) → HasTable numbers.depth → 1 ≤ interval → (count start : ℕ) (slots : Slots) → size slots ≡ 8 → frames ≤ start + count → Replays IsEight slots (flat_map (gop_at numbers interval frames keys) (starts_from interval frames keys count start)) (range_with_len start (frames - start))
starts-replay numbers interval frames keys h some zero start slots eight enough =
    let e : 0 ≡ frames - start = omega arith in
    same_frames IsEight slots [] [] _ (Replays-nil IsEight slots eight) (ap (range_with_len start) e)
starts-replay numbers interval frames keys h some (suc count) start slots eight enough =
    let all = flat_map (gop_at numbers interval frames keys) in
    let P : List ℕ → Type 0 = λ starts. Replays IsEight slots (all starts) (range_with_len start (frames - start)) in
    elim (cases_lt start frames) [
      | inl more ↦
          let next = start_after interval frames keys start in
          let later = start_after-later interval frames keys start some more in
          let within = start_after-within interval frames keys start in
          let first = gop-replays numbers slots start (next - start) h eight (omega arith) in
          let one = gop numbers start (next - start) in
          let rest = all (starts_from interval frames keys count next) in
          let r = Replays-append IsFull IsEight slots one rest _ _ first (λ full. starts-replay numbers interval frames keys h some count next (slots_after slots one) full.eight (omega arith)) in
          let joined = same_frames IsEight slots (one ++ rest) _ _ r (range-join start next start (next - start) (frames - next) (frames - start) (λ more. omega arith) (omega arith) refl) in
          subst P (sym (starts_from-one interval frames keys count start more)) joined
      | inr done ↦
          let e : 0 ≡ frames - start = omega arith in
          let none = same_frames IsEight slots [] [] _ (Replays-nil IsEight slots eight) (ap (range_with_len start) e) in
          subst P (sym (starts_from-done interval frames keys (suc count) start done)) none
    ]

pub plan-replays : (numbers : Numbers) (interval frames : ℕ) (keys : List ℕ) → HasTable numbers.depth → 1 ≤ interval → Replays IsEight empty_slots (plan numbers interval frames keys) (range_with_len 0 frames)
plan-replays numbers interval frames keys h some =
    let e : frames - 0 ≡ frames = omega arith in
    same_frames IsEight empty_slots _ _ _ (starts-replay numbers interval frames keys h some frames 0 empty_slots refl (omega arith)) (ap (range_with_len 0) e)
