-- What the window keeps, as metrics come and go.
use Rattle.std.proofs.Common.{◌≡◌, ℕ, suc, ◌+◌, ◌<◌, ◌≤◌, ◌^◌, List, [], ◌∷◌, ◌++◌, length, length-append, take, drop, refl, sym, ◌∙◌, ap, subst, arith, get_or, Bool, zero, cond, true, false, length-take, length-drop, ℤ, pos, ◌+ℤ◌, ◌-ℤ◌, ◌≤ℤ◌}
use Rattle.std.specs.List.{filter}
use Rattle.std.proofs.Common.{FitsSigned, w32}
use Rattle.std.proofs.lemmas.Int.{ints}
use Rattle.std.proofs.lemmas.List.{drop_more, take_all, take-append-drop}
use Rattle.pass_stats.specs.declared.metrics.RCFrameMetrics.{RCFrameMetrics}
use Rattle.metrics_window.specs.declared.tally.Tally.{Tally}
use Rattle.metrics_window.specs.Tallies.{tally_of, shown_of, is_shown, more, less}
use Rattle.metrics_window.specs.Cut.{is_key, any_key, before_key, before_last_key, from_last_key}
use Rattle.metrics_window.specs.Window.{IsWindow, AllKnown}
use Rattle.metrics_window.proofs.TallyLaws.{pushed, popped, taken_out}

pub shown_is : (t : Tally) (held : List RCFrameMetrics) → t ≡ tally_of held → t.shown ≡ shown_of held
unfolding tally_of
shown_is t held e = ap (λ (u : Tally). u.shown) e

known_pushed : (xs : List RCFrameMetrics) (m : RCFrameMetrics) → AllKnown xs → m.fti ≤ 4 → AllKnown (xs ++ m ∷ [])
known_pushed [] m known h = (h, tt)
known_pushed (x ∷ xs) m known h = (known.0, known_pushed xs m known.1 h)

pub known_at : (xs : List RCFrameMetrics) (i : ℕ) (d : RCFrameMetrics) → AllKnown xs → i < length xs → (get_or xs i d).fti ≤ 4
known_at [] i d known h = absurd (omega arith)
known_at (x ∷ xs) zero d known h = known.0
known_at (x ∷ xs) (suc i) d known h = known_at xs i d known.1 (omega arith)

pub pushed_window : (held new : List RCFrameMetrics) (m : RCFrameMetrics) (capacity room room' : ℕ) (t t' : Tally) → IsWindow held capacity room t
    → m.fti ≤ 4 → length held < capacity → new ≡ held ++ m ∷ [] → room ≤ room' → t' ≡ more m t → IsWindow new capacity room' t'
pushed_window held new m capacity room room' t t' w known free is grown tally =
    let small = w.small in
    let taken = w.taken in
    let one = length-append held (m ∷ []) in
    let long : length new ≡ length held + 1 = ap length is ∙ one in
    record {
      tally_is = tally ∙ (ap (more m) w.tally_is ∙ (pushed held m known (omega arith) ∙ ap tally_of (sym is)));
      known = subst AllKnown (sym is) (known_pushed held m w.known known);
      fits = omega arith;
      taken = omega arith;
      small = small;
    }

pub popped_window : (held new : List RCFrameMetrics) (m : RCFrameMetrics) (capacity room room' : ℕ) (t t' : Tally) → IsWindow held capacity room t
    → held ≡ m ∷ new → room' ≡ room → t' ≡ less m t → IsWindow new capacity room' t'
popped_window held new m capacity room room' t t' w is same tally =
    let small = w.small in
    let taken = w.taken in
    let fits = w.fits in
    let long : length held ≡ suc (length new) = ap length is in
    let known : AllKnown (m ∷ new) = subst AllKnown is w.known in
    record {
      tally_is = tally ∙ (ap (less m) (w.tally_is ∙ ap tally_of is) ∙ popped m new known.0 (omega arith));
      known = known.1;
      fits = omega arith;
      taken = omega arith;
      small = small;
    }

-- ---- without the metrics from a place on

pub less_one_more : (xs : List RCFrameMetrics) (k i : ℕ) (d : RCFrameMetrics) → AllKnown xs → k ≤ i → i < length xs → length xs ≤ 2 ^ 19
    → less (get_or xs i d) (tally_of (take k xs ++ drop i xs)) ≡ tally_of (take k xs ++ drop (i + 1) xs)
less_one_more xs k i d known low within small =
    let next = drop_more xs i d within in
    let size : length (take k xs ++ drop i xs) ≤ 2 ^ 19 = omega (arith, length-append (take k xs) (drop i xs), length-take k xs, length-drop i xs) in
    let is : take k xs ++ drop i xs ≡ take k xs ++ get_or xs i d ∷ drop (i + 1) xs = ap (λ (ys : List RCFrameMetrics). take k xs ++ ys) next in
    ap (λ (ys : List RCFrameMetrics). less (get_or xs i d) (tally_of ys)) is
    ∙ taken_out (take k xs) (get_or xs i d) (drop (i + 1) xs) (known_at xs i d known within) (subst (λ (ys : List RCFrameMetrics). length ys ≤ 2 ^ 19) is size)

-- ---- the shown ones behind

shown_sum : (xs ys : List RCFrameMetrics) → length (filter is_shown (xs ++ ys)) ≡ length (filter is_shown xs) + length (filter is_shown ys)
shown_sum [] ys = omega arith
shown_sum (x ∷ xs) ys =
    let rest = shown_sum xs ys in
    elim x.show_frame as (λ b. length (cond b (x ∷ filter is_shown (xs ++ ys)) (filter is_shown (xs ++ ys))) ≡ length (cond b (x ∷ filter is_shown xs) (filter is_shown xs)) + length (filter is_shown ys)) [
      | true ↦ omega arith
      | false ↦ rest
    ]

prefix_of : (ys front whole : List RCFrameMetrics) (a b : Bool) (y : RCFrameMetrics) → front ≡ take (length front) ys
    → cond a (y ∷ front) (cond b [] (y ∷ ys)) ≡ take (length (cond a (y ∷ front) (cond b [] (y ∷ ys)))) (y ∷ ys)
prefix_of ys front whole true b y e = ap (λ (zs : List RCFrameMetrics). y ∷ zs) e
prefix_of ys front whole false true y e = refl
prefix_of ys front whole false false y e = sym (take_all (suc (length ys)) (y ∷ ys) (omega arith))

key_prefix : (ys : List RCFrameMetrics) → before_key ys ≡ take (length (before_key ys)) ys
unfolding before_key
key_prefix [] = refl
key_prefix (y ∷ ys) = prefix_of ys (before_key ys) [] (any_key ys) (is_key y) y (key_prefix ys)

front_prefix : (xs : List RCFrameMetrics) → before_last_key xs ≡ take (length (before_last_key xs)) xs
unfolding before_last_key
front_prefix [] = refl
front_prefix (x ∷ xs) = ap (λ (zs : List RCFrameMetrics). x ∷ zs) (key_prefix xs)

pub shown_split : (xs : List RCFrameMetrics) → shown_of xs ≡ shown_of (before_last_key xs) +ℤ shown_of (from_last_key xs)
shown_split xs =
    let all : before_last_key xs ++ from_last_key xs ≡ xs =
    ap (λ (ys : List RCFrameMetrics). ys ++ from_last_key xs) (front_prefix xs) ∙ take-append-drop (length (before_last_key xs)) xs in
    let count : length (filter is_shown xs) ≡ length (filter is_shown (before_last_key xs ++ from_last_key xs)) =
    ap (λ (ys : List RCFrameMetrics). length (filter is_shown ys)) (sym all) in
    let sum = shown_sum (before_last_key xs) (from_last_key xs) in
    ap pos (count ∙ sum)

-- by how many the shown ones behind are fewer than all
pub behind_is : (all front : ℤ) (t : Tally) (xs : List RCFrameMetrics) → all ≡ shown_of xs → t ≡ tally_of (before_last_key xs) → front ≡ t.shown
    → all -ℤ front ≡ shown_of (from_last_key xs)
behind_is all front t xs p q r =
    let split = shown_split xs in
    let is = shown_is t (before_last_key xs) q in
    omega (arith, ints)

pub dropped : (xs : List RCFrameMetrics) (i : ℕ) → length xs ≤ i → drop i xs ≡ []
dropped [] zero h = refl
dropped [] (suc i) h = refl
dropped (x ∷ xs) zero h = absurd (omega arith)
dropped (x ∷ xs) (suc i) h = dropped xs i (omega arith)

pub small_fits : (z : ℤ) → pos 0 ≤ℤ z → z ≤ℤ pos (2 ^ 19) → FitsSigned w32 z
small_fits z low high = omega (arith, ints)
