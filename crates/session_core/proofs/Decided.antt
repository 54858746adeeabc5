-- The decisions of a moment: they grow, each is of its position and has its frame's mark, and the keys are among them.
use Rattle.std.proofs.Common.{◌≡◌, ℕ, zero, suc, ◌+◌, ◌-◌, ◌<◌, ◌≤◌, Bool, IsTrue, true, false, cond, ltb, List, [], ◌∷◌, ◌++◌, map, length, drop, filter, Option, Some, None, All, option_map, slice_get, refl, sym, ap, ap₂, ◌∙◌, subst, arith, le_refl}
use Rattle.std.specs.List.{range_with_len}
use Rattle.std.specs.Option.{option_map_or}
use Rattle.std.proofs.lemmas.Bool.{cond_both, cond-false, le-ltb}
use Rattle.std.proofs.lemmas.List.{map-append, length-append}
use Rattle.std.proofs.lemmas.List.Elements.{All-nil, All-cons, All-append, filter-append}
use Rattle.std.proofs.lemmas.Option.{slice_get-map}
use Rattle.pyramid.specs.Numbers.{Numbers, ahead}
use Rattle.session_core.specs.declared.transcript.Decision.{Decision}
use Rattle.session_core.specs.Decisions.{decided_count, key_positions}
use Rattle.session_core.specs.Moments.{Accepted, Waiting, Moment, waiting_at}
use Rattle.session_core.specs.Turns.{forced_at, AreMade}

-- ---- how many

pub decided-within : (numbers : Numbers) (accepted : ℕ) (flushed : Bool) → decided_count numbers accepted flushed ≤ accepted - 1
decided-within numbers accepted flushed =
    cond_both flushed (accepted - 1) (accepted - (ahead numbers + 1)) (λ n. n ≤ accepted - 1) (λ e. le_refl (accepted - 1)) (λ e. omega arith)

-- ---- lists

pub range-append : (a n m : ℕ) → range_with_len a n ++ range_with_len (a + n) m ≡ range_with_len a (n + m)
range-append a zero m =
    let start : a + 0 ≡ a = omega arith in
    let size : 0 + m ≡ m = omega arith in
    ap (λ (x : ℕ). range_with_len x m) start ∙ ap (range_with_len a) (sym size)
range-append a (suc n) m =
    let start : a + suc n ≡ a + 1 + n = omega arith in
    let size : suc n + m ≡ suc (n + m) = omega arith in
    ap (λ (x : ℕ). a ∷ (range_with_len (a + 1) n ++ range_with_len x m)) start
    ∙ ap (λ (l : List ℕ). a ∷ l) (range-append (a + 1) n m)
    ∙ ap (range_with_len a) (sym size)

pub map_range_agree : {X : Type 0} (f g : ℕ → X) (a n : ℕ) → ((k : ℕ) → a ≤ k → k < a + n → f k ≡ g k) → map f (range_with_len a n) ≡ map g (range_with_len a n)
map_range_agree f g a zero same = refl
map_range_agree f g a (suc n) same =
    ap₂ (λ x l. x ∷ l) (same a (le_refl a) (omega arith)) (map_range_agree f g (a + 1) n (λ k low high. same k (omega arith) (omega arith)))

pub slice_get-drop : {A : Type 0} (n : ℕ) (xs : List A) (i : ℕ) → slice_get (drop n xs) i ≡ slice_get xs (n + i)
slice_get-drop zero xs i =
    let e : 0 + i ≡ i = omega arith in
    ap (slice_get xs) (sym e)
slice_get-drop (suc n) [] i = refl
slice_get-drop (suc n) (x ∷ xs) i =
    let e : suc n + i ≡ suc (n + i) = omega arith in
    slice_get-drop n xs i ∙ ap (slice_get (x ∷ xs)) (sym e)

pub slice_get-front : {A : Type 0} (xs ys : List A) (i : ℕ) → i < length xs → slice_get (xs ++ ys) i ≡ slice_get xs i
slice_get-front [] ys i h = absurd (omega arith)
slice_get-front (x ∷ xs) ys zero h = refl
slice_get-front (x ∷ xs) ys (suc i) h = slice_get-front xs ys i (omega arith)

-- ---- frames that wait

abbrev pub frame_of : {T O : Type 0} → Waiting T O → Accepted T O
frame_of one = one.frame

-- the frame that waits under a number is the one sent under it
pub waiting_at-sent : {T O : Type 0} (moment : Moment T O) (sent : List (Accepted T O)) (number : ℕ) →
    map frame_of moment.waiting ≡ drop moment.packets sent → moment.packets ≤ number →
    option_map frame_of (waiting_at moment number) ≡ slice_get sent number
waiting_at-sent {T} {O} moment sent number frames later =
    let back : moment.packets + (number - moment.packets) ≡ number = omega arith in
    ap (option_map frame_of) (cond-false (ltb number moment.packets) None (slice_get moment.waiting (number - moment.packets)) (le-ltb number moment.packets later))
    ∙ sym (slice_get-map frame_of moment.waiting (number - moment.packets))
    ∙ ap (λ (l : List (Accepted T O)). slice_get l (number - moment.packets)) frames
    ∙ slice_get-drop moment.packets sent (number - moment.packets)
    ∙ ap (slice_get sent) back

-- the mark of the frame sent under a number
abbrev pub mark_of : {T O : Type 0} → List (Accepted T O) → ℕ → Bool
mark_of sent position = option_map_or (λ accepted. accepted.forced) (slice_get sent position) false

pub forced_at-sent : {T O : Type 0} (moment : Moment T O) (sent : List (Accepted T O)) (number : ℕ) →
    map frame_of moment.waiting ≡ drop moment.packets sent → moment.packets ≤ number → forced_at moment number ≡ mark_of sent number
forced_at-sent {T} {O} moment sent number frames later =
    by_frame (waiting_at moment number)
    ∙ ap (λ (o : Option (Accepted T O)). option_map_or (λ accepted. accepted.forced) o false) (waiting_at-sent moment sent number frames later)
  where
    by_frame : (o : Option (Waiting T O)) → option_map_or (λ one. one.frame.forced) o false ≡ option_map_or (λ accepted. accepted.forced) (option_map frame_of o) false
    by_frame None = refl
    by_frame (Some one) = refl

-- ---- decisions

abbrev pub position_of : Decision → ℕ
position_of decision = decision.position

abbrev forced_of : Decision → Bool
forced_of decision = decision.forced

-- a forced decision is a key
abbrev pub IsMarkedKey : Decision → Type 0
IsMarkedKey decision = IsTrue decision.forced → IsTrue decision.key

-- each of them is of the next position from 1 on, with the mark of the frame sent under it, and a key where it is forced
pub record AreDecided {T O : Type 0} (sent : List (Accepted T O)) (decisions : List Decision) : Type 0 where
  pub positions : map (λ decision. decision.position) decisions ≡ range_with_len 1 (length decisions)
  pub marks : map (λ decision. decision.forced) decisions ≡ map (mark_of sent) (range_with_len 1 (length decisions))
  pub keys : All IsMarkedKey decisions

pub decided-none : {T O : Type 0} (sent : List (Accepted T O)) → AreDecided sent []
decided-none sent = record { positions = refl; marks = refl; keys = All-nil IsMarkedKey }

-- frames sent later aren't among them
pub decided-sent : {T O : Type 0} (sent more : List (Accepted T O)) (decisions : List Decision) → length decisions ≤ length sent - 1 → AreDecided sent decisions → AreDecided (sent ++ more) decisions
decided-sent {T} {O} sent more decisions few are = record {
  positions = are.positions;
  marks = are.marks ∙ map_range_agree (mark_of sent) (mark_of (sent ++ more)) 1 (length decisions) (λ k low high. sym (same k (within k low high)));
  keys = are.keys;
}
  where
    within : (k : ℕ) → 1 ≤ k → k < 1 + length decisions → k < length sent
    within k low high = omega arith

    same : (k : ℕ) → k < length sent → mark_of (sent ++ more) k ≡ mark_of sent k
    same k h = ap (λ (o : Option (Accepted T O)). option_map_or (λ accepted. accepted.forced) o false) (slice_get-front sent more k h)

-- those of a call join the ones before
pub decided-made : {T O : Type 0} (after : Moment T O) (sent : List (Accepted T O)) (before made : List Decision) →
    map frame_of after.waiting ≡ drop after.packets sent → after.packets ≤ length before + 1 → AreDecided sent before →
    AreMade after (length before + 1) made → AreDecided sent (before ++ made)
decided-made {T} {O} after sent before made frames late are new = record {
  positions =
      map-append position_of before made
      ∙ ap₂ (λ (a b : List ℕ). a ++ b) are.positions (new.positions ∙ ap (λ (n : ℕ). range_with_len n (length made)) next)
      ∙ range-append 1 (length before) (length made)
      ∙ ap (range_with_len 1) (sym (length-append before made));
  marks =
      map-append forced_of before made
      ∙ ap₂ (λ (a b : List Bool). a ++ b) are.marks
      (new.forced
      ∙ map_range_agree (forced_at after) (mark_of sent) (length before + 1) (length made) (λ k low high. forced_at-sent after sent k frames (omega arith))
      ∙ ap (λ (n : ℕ). map (mark_of sent) (range_with_len n (length made))) next)
      ∙ sym (map-append (mark_of sent) (range_with_len 1 (length before)) (range_with_len (1 + length before) (length made)))
      ∙ ap (map (mark_of sent)) (range-append 1 (length before) (length made) ∙ ap (range_with_len 1) (sym (length-append before made)));
  keys = All-append IsMarkedKey before made are.keys new.keys;
}
  where
    next : length before + 1 ≡ 1 + length before
    next = omega arith

-- ---- keys

pub keys-append : (a b : List Decision) → key_positions (a ++ b) ≡ key_positions a ++ key_positions b
keys-append a b =
    ap (map position_of) (filter-append (λ (decision : Decision). decision.key) a b)
    ∙ map-append position_of (filter (λ (decision : Decision). decision.key) a) (filter (λ (decision : Decision). decision.key) b)

-- what holds of the positions from `from` on holds of the keys among the decisions
pub keys-all : (P : ℕ → Type 0) (from : ℕ) (decisions : List Decision) → map (λ decision. decision.position) decisions ≡ range_with_len from (length decisions) →
    ((k : ℕ) → from ≤ k → k < from + length decisions → P k) → All P (key_positions decisions)
keys-all P from [] positions each = All-nil P
keys-all P from (d ∷ decisions) positions each =
    let here : d.position ≡ from = cc in
    let rest : map position_of decisions ≡ range_with_len (from + 1) (length decisions) = cc in
    by_test d.key (subst P (sym here) (each from (le_refl from) (omega arith)))
    (keys-all P (from + 1) decisions rest (λ k low high. each k (omega arith) (omega arith)))
  where
    by_test : (t : Bool) → P d.position → All P (key_positions decisions) →
        All P (map position_of (cond t (d ∷ filter (λ (decision : Decision). decision.key) decisions) (filter (λ (decision : Decision). decision.key) decisions)))
    by_test true now later = All-cons P d.position (key_positions decisions) now later
    by_test false now later = later
