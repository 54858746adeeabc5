-- A window over time holds the accepted metrics without those of coded frames; a whole file's tally loses theirs.
use Rattle.std.proofs.Common.{◌≡◌, ◌≢◌, ℕ, suc, ◌+◌, ◌<◌, ◌≤◌, ◌^◌, ◌==◌, nat_lt, Bool, true, false, cond, List, [], ◌∷◌, ◌++◌, map, length, drop, length-set, refl, sym, ◌∙◌, ap, arith, append_assoc, Option, Some, None, ℤ, pos, negsuc, ◌+ℤ◌, ◌-ℤ◌, slice_set, inl, inr, subst}
use Rattle.std.specs.List.{filter}
use Rattle.std.specs.Int.{saturate_signed, w32}
use Rattle.std.proofs.lemmas.Int.{ints}
use Rattle.std.proofs.lemmas.List.{append-nil, get_or-set_same, get_or-set_other}
use Rattle.std.proofs.lemmas.Bool.{cases_eq}
use Rattle.std.proofs.lemmas.Bool.Decides.{nat_tests}
use Rattle.fixed_log.specs.Within.{IsWithin}
use Rattle.pass_stats.specs.declared.metrics.RCFrameMetrics.{RCFrameMetrics}
use Rattle.metrics_window.specs.declared.tally.Tally.{Tally}
use Rattle.metrics_window.specs.Tallies.{not_far, number_at, scale_of, count_of, sum_of, shown_of, is_of, is_shown, total, less, less_all}
use Rattle.metrics_window.specs.Window.{Window, with_taken, without_first}
use Rattle.metrics_window.specs.Moves.{after_moves, accepted, coded, AreHeld, HasCountRoom, HasSumRoom}
use Rattle.metrics_window.proofs.Bounds.{fits_32, near_is, scale_within}

drop_more : (xs : List RCFrameMetrics) (n : ℕ) (ys : List RCFrameMetrics) → 0 < length xs → drop n (drop 1 xs ++ ys) ≡ drop (suc n) (xs ++ ys)
drop_more [] n ys h = absurd (omega arith)
drop_more (x ∷ xs) n ys h = refl

pub held_is : (w : Window) (moves : List (Option RCFrameMetrics)) → AreHeld w moves
    → (after_moves w moves).held ≡ drop (coded moves) (w.held ++ accepted moves)
held_is w [] h = sym (append-nil w.held)
held_is w (Some m ∷ moves) h =
    held_is (with_taken m w) moves h ∙ ap (λ (xs : List RCFrameMetrics). drop (coded moves) xs) (append_assoc w.held (m ∷ []) (accepted moves))
held_is w (None ∷ moves) h = held_is (without_first w) moves h.1 ∙ drop_more w.held (coded moves) (accepted moves) h.0

-- ---- the whole file

is_same : (a b : ℕ) → a ≡ b → (a == b) ≡ true
is_same a b e = grind (arith, nat_tests)

is_other : (a b : ℕ) → a ≢ b → (a == b) ≡ false
is_other a b ne = grind (arith, nat_tests)

count_own : (k : ℕ) (m : RCFrameMetrics) (ms : List RCFrameMetrics) → (m.fti == k) ≡ true → count_of k (m ∷ ms) ≡ count_of k ms +ℤ pos 1
count_own k m ms e = ap (λ b. pos (length (cond b (m ∷ filter (is_of k) ms) (filter (is_of k) ms)))) e ∙ omega (arith, ints)

count_other : (k : ℕ) (m : RCFrameMetrics) (ms : List RCFrameMetrics) → (m.fti == k) ≡ false → count_of k (m ∷ ms) ≡ count_of k ms
count_other k m ms e = ap (λ b. pos (length (cond b (m ∷ filter (is_of k) ms) (filter (is_of k) ms)))) e

sum_own : (k : ℕ) (m : RCFrameMetrics) (ms : List RCFrameMetrics) → (m.fti == k) ≡ true → sum_of k (m ∷ ms) ≡ scale_of m +ℤ sum_of k ms
sum_own k m ms e = ap (λ b. total (map scale_of (cond b (m ∷ filter (is_of k) ms) (filter (is_of k) ms)))) e

sum_other : (k : ℕ) (m : RCFrameMetrics) (ms : List RCFrameMetrics) → (m.fti == k) ≡ false → sum_of k (m ∷ ms) ≡ sum_of k ms
sum_other k m ms e = ap (λ b. total (map scale_of (cond b (m ∷ filter (is_of k) ms) (filter (is_of k) ms)))) e

one_less : (c n : ℤ) → (c +ℤ negsuc 0) -ℤ n ≡ c -ℤ (n +ℤ pos 1)
one_less c n = omega (arith, ints)

part_less : (z x y : ℤ) → (z +ℤ (pos 0 -ℤ x)) -ℤ y ≡ z -ℤ (x +ℤ y)
part_less z x y = omega (arith, ints)

none_less : (z : ℤ) → z ≡ z -ℤ pos 0
none_less z = omega (arith, ints)

count_room : (c : ℤ) (n : ℕ) → HasCountRoom c (suc n) → HasCountRoom (c +ℤ negsuc 0) n
count_room c n h =
    let a = h.low in
    let b = h.high in
    record { low = omega (arith, ints); high = omega (arith, ints) }

more_count_room : (c : ℤ) (n : ℕ) → HasCountRoom c (suc n) → HasCountRoom c n
more_count_room c n h =
    let a = h.low in
    let b = h.high in
    record { low = omega (arith, ints); high = b }

count_fits : (c : ℤ) (n : ℕ) → HasCountRoom c (suc n) → saturate_signed w32 (c +ℤ negsuc 0) ≡ c +ℤ negsuc 0
count_fits c n h =
    let a = h.low in
    let b = h.high in
    fits_32 (c +ℤ negsuc 0) (omega (arith, ints)) (omega (arith, ints))

sum_room : (z x : ℤ) (n : ℕ) → HasSumRoom z (suc n) → IsWithin (2 ^ 63) x → HasSumRoom (z +ℤ (pos 0 -ℤ x)) n
sum_room z x n h k =
    let a = h.within.low in
    let b = h.within.high in
    let c = k.low in
    let d = k.high in
    let room = h.room in
    record { span = h.span + 2 ^ 63; within = record { low = omega (arith, ints); high = omega (arith, ints) }; room = omega arith }

more_sum_room : (z : ℤ) (n : ℕ) → HasSumRoom z (suc n) → HasSumRoom z n
more_sum_room z n h =
    let room = h.room in
    record { span = h.span; within = h.within; room = omega arith }

sum_near : (z x : ℤ) (n : ℕ) → HasSumRoom z (suc n) → IsWithin (2 ^ 63) x → not_far (z +ℤ (pos 0 -ℤ x)) ≡ z +ℤ (pos 0 -ℤ x)
sum_near z x n h k =
    let a = h.within.low in
    let b = h.within.high in
    let c = k.low in
    let d = k.high in
    let room = h.room in
    near_is (z +ℤ (pos 0 -ℤ x)) (record { low = omega (arith, ints); high = omega (arith, ints) })

counts_less : (m : RCFrameMetrics) (t : Tally) → (less m t).counts ≡ slice_set t.counts m.fti (saturate_signed w32 (number_at t.counts m.fti +ℤ negsuc 0))
unfolding less
counts_less m t = refl

sums_less : (m : RCFrameMetrics) (t : Tally)
    → (less m t).sums ≡ cond (nat_lt m.fti 4) (slice_set t.sums m.fti (not_far (number_at t.sums m.fti +ℤ (pos 0 -ℤ scale_of m)))) t.sums
unfolding less
sums_less m t = refl

shown_less : (m : RCFrameMetrics) (t : Tally) → (less m t).shown ≡ cond m.show_frame (saturate_signed w32 (t.shown +ℤ negsuc 0)) t.shown
unfolding less
shown_less m t = refl

by_same : {P : Type 0} (a b : ℕ) → (a ≡ b → P) → (a ≢ b → P) → P
by_same a b on_same on_other = elim (cases_eq a b) [ inl same ↦ on_same same | inr other ↦ on_other other ]

pub count_left : (k : ℕ) (ms : List RCFrameMetrics) (t : Tally) → k ≤ 4 → length t.counts ≡ 5 → HasCountRoom (number_at t.counts k) (length ms)
    → number_at (less_all ms t).counts k ≡ number_at t.counts k -ℤ count_of k ms
count_left k [] t known len room = none_less (number_at t.counts k)
count_left k (m ∷ ms) t known len room =
    let c = number_at t.counts k in
    let next = (less m t).counts in
    let is = counts_less m t in
    let next_len : length next ≡ 5 = ap length is ∙ (length-set t.counts m.fti _ ∙ len) in
    by_same m.fti k
    (λ own.
    let here : number_at next m.fti ≡ saturate_signed w32 (number_at t.counts m.fti +ℤ negsuc 0) =
    ap (λ (xs : List ℤ). number_at xs m.fti) is ∙ get_or-set_same t.counts m.fti _ (pos 0) (omega arith) in
    let here_k : number_at next k ≡ saturate_signed w32 (c +ℤ negsuc 0) =
    subst (λ n. number_at next n ≡ saturate_signed w32 (number_at t.counts n +ℤ negsuc 0)) own here in
    let now : number_at next k ≡ c +ℤ negsuc 0 = here_k ∙ count_fits c (length ms) room in
    let rest = count_left k ms (less m t) known next_len (subst (λ z. HasCountRoom z (length ms)) (sym now) (count_room c (length ms) room)) in
    rest ∙ (ap (λ z. z -ℤ count_of k ms) now ∙ (one_less c (count_of k ms) ∙ sym (ap (λ z. c -ℤ z) (count_own k m ms (is_same m.fti k own))))))
    (λ other.
    let ne : k ≢ m.fti = λ h. other (sym h) in
    let now : number_at next k ≡ c = ap (λ (xs : List ℤ). number_at xs k) is ∙ get_or-set_other t.counts m.fti k _ (pos 0) ne in
    let rest = count_left k ms (less m t) known next_len (subst (λ z. HasCountRoom z (length ms)) (sym now) (more_count_room c (length ms) room)) in
    rest ∙ (ap (λ z. z -ℤ count_of k ms) now ∙ sym (ap (λ z. c -ℤ z) (count_other k m ms (is_other m.fti k other)))))

sums_when : (m : RCFrameMetrics) (t : Tally) (b : Bool) → nat_lt m.fti 4 ≡ b
    → (less m t).sums ≡ cond b (slice_set t.sums m.fti (not_far (number_at t.sums m.fti +ℤ (pos 0 -ℤ scale_of m)))) t.sums
sums_when m t b e = sums_less m t ∙ ap (λ c. cond c (slice_set t.sums m.fti (not_far (number_at t.sums m.fti +ℤ (pos 0 -ℤ scale_of m)))) t.sums) e

passes_lt : (a b : ℕ) → a < b → nat_lt a b ≡ true
passes_lt a b h = grind (arith, nat_tests)

sums_len : (m : RCFrameMetrics) (t : Tally) → length (less m t).sums ≡ length t.sums
sums_len m t =
    ap length (sums_less m t) ∙
    elim (nat_lt m.fti 4) as (λ b. length (cond b (slice_set t.sums m.fti (not_far (number_at t.sums m.fti +ℤ (pos 0 -ℤ scale_of m)))) t.sums) ≡ length t.sums) [
      | true ↦ length-set t.sums m.fti _
      | false ↦ refl
    ]

sums_other : (m : RCFrameMetrics) (t : Tally) (k : ℕ) → k ≢ m.fti → number_at (less m t).sums k ≡ number_at t.sums k
sums_other m t k ne =
    ap (λ (xs : List ℤ). number_at xs k) (sums_less m t) ∙
    elim (nat_lt m.fti 4) as (λ b. number_at (cond b (slice_set t.sums m.fti (not_far (number_at t.sums m.fti +ℤ (pos 0 -ℤ scale_of m)))) t.sums) k ≡ number_at t.sums k) [
      | true ↦ get_or-set_other t.sums m.fti k _ (pos 0) ne
      | false ↦ refl
    ]

pub sum_left : (k : ℕ) (ms : List RCFrameMetrics) (t : Tally) → k < 4 → length t.sums ≡ 4 → HasSumRoom (number_at t.sums k) (length ms)
    → number_at (less_all ms t).sums k ≡ number_at t.sums k -ℤ sum_of k ms
sum_left k [] t known len room = none_less (number_at t.sums k)
sum_left k (m ∷ ms) t known len room =
    let z = number_at t.sums k in
    let x = scale_of m in
    let next = (less m t).sums in
    let next_len : length next ≡ 4 = sums_len m t ∙ len in
    let small = scale_within m.log_scale_q24 in
    by_same m.fti k
    (λ own.
    let is = sums_when m t true (passes_lt m.fti 4 (omega arith)) in
    let here : number_at next m.fti ≡ not_far (number_at t.sums m.fti +ℤ (pos 0 -ℤ x)) =
    ap (λ (xs : List ℤ). number_at xs m.fti) is ∙ get_or-set_same t.sums m.fti _ (pos 0) (omega arith) in
    let here_k : number_at next k ≡ not_far (z +ℤ (pos 0 -ℤ x)) =
    subst (λ n. number_at next n ≡ not_far (number_at t.sums n +ℤ (pos 0 -ℤ x))) own here in
    let now : number_at next k ≡ z +ℤ (pos 0 -ℤ x) = here_k ∙ sum_near z x (length ms) room small in
    let rest = sum_left k ms (less m t) known next_len (subst (λ y. HasSumRoom y (length ms)) (sym now) (sum_room z x (length ms) room small)) in
    rest ∙ (ap (λ y. y -ℤ sum_of k ms) now ∙ (part_less z x (sum_of k ms) ∙ sym (ap (λ y. z -ℤ y) (sum_own k m ms (is_same m.fti k own))))))
    (λ other.
    let ne : k ≢ m.fti = λ h. other (sym h) in
    let now : number_at next k ≡ z = sums_other m t k ne in
    let rest = sum_left k ms (less m t) known next_len (subst (λ y. HasSumRoom y (length ms)) (sym now) (more_sum_room z (length ms) room)) in
    rest ∙ (ap (λ y. y -ℤ sum_of k ms) now ∙ sym (ap (λ y. z -ℤ y) (sum_other k m ms (is_other m.fti k other)))))

shown_when : (m : RCFrameMetrics) (t : Tally) (ms : List RCFrameMetrics) (b : Bool) → m.show_frame ≡ b
    → HasCountRoom t.shown (suc (length ms))
    → ((less m t).shown ≡ t.shown -ℤ pos (cond b 1 0)) × (shown_of (m ∷ ms) ≡ pos (cond b 1 0) +ℤ shown_of ms)
shown_when m t ms true e room = (
  shown_less m t ∙ (ap (λ c. cond c (saturate_signed w32 (t.shown +ℤ negsuc 0)) t.shown) e ∙ (count_fits t.shown (length ms) room ∙ omega (arith, ints))),
  ap (λ c. pos (length (cond c (m ∷ filter is_shown ms) (filter is_shown ms)))) e ∙ omega (arith, ints),
)
shown_when m t ms false e room = (
  shown_less m t ∙ (ap (λ c. cond c (saturate_signed w32 (t.shown +ℤ negsuc 0)) t.shown) e ∙ none_less t.shown),
  ap (λ c. pos (length (cond c (m ∷ filter is_shown ms) (filter is_shown ms)))) e ∙ omega (arith, ints),
)

less_of_part : (z x y : ℤ) → (z -ℤ x) -ℤ y ≡ z -ℤ (x +ℤ y)
less_of_part z x y = omega (arith, ints)

shown_room : (c : ℤ) (n : ℕ) (b : Bool) → HasCountRoom c (suc n) → HasCountRoom (c -ℤ pos (cond b 1 0)) n
shown_room c n true h =
    let a = h.low in
    let b = h.high in
    record { low = omega (arith, ints); high = omega (arith, ints) }
shown_room c n false h =
    let a = h.low in
    let b = h.high in
    record { low = omega (arith, ints); high = omega (arith, ints) }

pub shown_left : (ms : List RCFrameMetrics) (t : Tally) → HasCountRoom t.shown (length ms) → (less_all ms t).shown ≡ t.shown -ℤ shown_of ms
shown_left [] t room = none_less t.shown
shown_left (m ∷ ms) t room =
    let b = m.show_frame in
    let both = shown_when m t ms b refl room in
    let rest = shown_left ms (less m t) (subst (λ z. HasCountRoom z (length ms)) (sym both.0) (shown_room t.shown (length ms) b room)) in
    rest ∙ (ap (λ z. z -ℤ shown_of ms) both.0 ∙ (less_of_part t.shown (pos (cond b 1 0)) (shown_of ms) ∙ sym (ap (λ z. t.shown -ℤ z) both.1)))
