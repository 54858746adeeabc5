-- The first commands of a plan: what the next one shows and codes, and which frames they coded.
use Rattle.std.proofs.Common.{◌≡◌, ℕ, zero, suc, ◌+◌, ◌/◌, ◌%◌, ◌<◌, ◌≤◌, Bool, true, false, cond, eqb, ◌||◌, ◌⊎◌, inl, inr, List, [], ◌∷◌, ◌++◌, length, take, drop, replicate, Option, Some, None, refl, sym, ap, ◌∙◌, add-zero, le_refl, arith, take-append-drop}
use Rattle.std.specs.List.{slice_get, list_any, count_by}
use Rattle.std.proofs.lemmas.Bool.{cases_Bool, cases_eq, cond-true, cond-false, eq-eqb, eqb-true, ne_eqb, or_cases, or_left, or_right, false≢true}
use Rattle.std.proofs.lemmas.List.{take_more, take_all, drop_more}
use Rattle.std.proofs.lemmas.List.Folds.{list_any-append}
use Rattle.std.proofs.lemmas.List.Sums.{sum_by-append, sum_by-cons}
use Rattle.std.proofs.lemmas.Option.{slice_get_within, get_or_from_slice_get, none-some, same_Some}
use Rattle.av1_settings.specs.declared.frame_type.FrameType.{FrameType}
use Rattle.pyramid.specs.declared.command.Command.{Command}
use Rattle.pyramid.specs.declared.command.Command.TheVariants.{Code, Show}
use Rattle.pyramid.specs.Display.{Slots, empty_slots, held, refreshed, slots_after, shows, showing, codes}
use Rattle.pyramid.specs.Playable.{IsPlayable}
use Rattle.session_core.specs.Sessions.{coded_kind}

-- ---- one more command

pub take_next : {A : Type 0} (xs : List A) (k : ℕ) (x : A) → slice_get xs k ≡ Some x → take (k + 1) xs ≡ take k xs ++ x ∷ []
take_next {A} xs k x h =
    take_more xs k x (slice_get_within xs k x h) ∙ ap (λ (y : A). take k xs ++ y ∷ []) (get_or_from_slice_get xs k x x h)

pub split_at : {A : Type 0} (xs : List A) (k : ℕ) (x : A) → slice_get xs k ≡ Some x → xs ≡ take k xs ++ x ∷ drop (k + 1) xs
split_at {A} xs k x h =
    sym (take-append-drop k xs)
    ∙ ap (λ (l : List A). take k xs ++ l) (drop_more xs k x (slice_get_within xs k x h) ∙ ap (λ (y : A). y ∷ drop (k + 1) xs) (get_or_from_slice_get xs k x x h))

pub count-append : {A : Type 0} (test : A → Bool) (xs ys : List A) → count_by test (xs ++ ys) ≡ count_by test xs + count_by test ys
count-append test xs ys = sum_by-append (λ x. cond (test x) 1 0) xs ys

pub count-cons : {A : Type 0} (test : A → Bool) (x : A) (xs : List A) → count_by test (x ∷ xs) ≡ cond (test x) 1 0 + count_by test xs
count-cons test x xs = sum_by-cons (λ y. cond (test y) 1 0) x xs

pub count-push : {A : Type 0} (test : A → Bool) (xs : List A) (x : A) → count_by test (xs ++ x ∷ []) ≡ count_by test xs + cond (test x) 1 0
count-push test xs x =
    count-append test xs (x ∷ []) ∙ ap (λ (n : ℕ). count_by test xs + n) (count-cons test x [] ∙ add-zero (cond (test x) 1 0))

pub showing_yes : (commands : List Command) (c : Command) → shows c ≡ true → showing (commands ++ c ∷ []) ≡ showing commands + 1
showing_yes commands c visible = count-push shows commands c ∙ ap (λ (t : Bool). showing commands + cond t 1 0) visible

pub showing_no : (commands : List Command) (c : Command) → shows c ≡ false → showing (commands ++ c ∷ []) ≡ showing commands
showing_no commands c hidden =
    count-push shows commands c ∙ ap (λ (t : Bool). showing commands + cond t 1 0) hidden ∙ add-zero (showing commands)

-- an element of a front is one of the list
pub in_front : {A : Type 0} (xs : List A) (k i : ℕ) (x : A) → slice_get (take k xs) i ≡ Some x → slice_get xs i ≡ Some x
in_front xs zero i x e = absurd (none-some x e)
in_front [] (suc k) i x e = absurd (none-some x e)
in_front (y ∷ xs) (suc k) zero x e = e
in_front (y ∷ xs) (suc k) (suc i) x e = in_front xs k i x e

-- ---- which frames are coded

-- a frame is coded among the commands
abbrev pub has_code : List Command → ℕ → Bool
has_code commands number = list_any (codes number) commands

pub has_code-push : (commands : List Command) (c : Command) (number : ℕ) → has_code (commands ++ c ∷ []) number ≡ (has_code commands number || codes number c)
has_code-push commands c number =
    list_any-append (codes number) commands (c ∷ []) ∙ ap (λ (t : Bool). has_code commands number || t) (or-false (codes number c))
  where
    or-false : (t : Bool) → (t || false) ≡ t
    or-false true = refl
    or-false false = refl

pub has_code_left : (commands : List Command) (c : Command) (number : ℕ) → has_code commands number ≡ true → has_code (commands ++ c ∷ []) number ≡ true
has_code_left commands c number h = has_code-push commands c number ∙ or_left (has_code commands number) (codes number c) h

pub has_code_last : (commands : List Command) (c : Command) (number : ℕ) → codes number c ≡ true → has_code (commands ++ c ∷ []) number ≡ true
has_code_last commands c number h = has_code-push commands c number ∙ or_right (has_code commands number) (codes number c) h

-- a command that codes it stands somewhere
pub coded_at : (commands : List Command) (number : ℕ) → has_code commands number ≡ true →
    (k : ℕ) × (kind : FrameType) × (refs : List ℕ) × (refresh : ℕ) × (visible : Bool)
    × (slice_get commands k ≡ Some (Code number kind refs refresh visible))
coded_at [] number h = absurd (false≢true h)
coded_at (Code frame kind refs refresh visible ∷ commands) number h = elim (or_cases (eqb frame number) (has_code commands number) h) [
  | inl here ↦ (0, kind, refs, refresh, visible, ap (λ (n : ℕ). Some (Code n kind refs refresh visible)) (eqb-true frame number here))
  | inr later ↦
      let there = coded_at commands number later in
      (suc there.0, there.1, there.2, there.3, there.4, there.5)
]
coded_at (Show slot ∷ commands) number h =
    let there = coded_at commands number h in
    (suc there.0, there.1, there.2, there.3, there.4, there.5)

none_counted : (commands : List Command) (number : ℕ) → count_by (codes number) commands ≡ 0 → has_code commands number ≡ false
none_counted [] number h = refl
none_counted (c ∷ commands) number h =
    by_test (codes number c) (sym (count-cons (codes number) c commands) ∙ h) (none_counted commands number)
  where
    by_test : (t : Bool) → cond t 1 0 + count_by (codes number) commands ≡ 0 → (count_by (codes number) commands ≡ 0 → has_code commands number ≡ false) → (t || has_code commands number) ≡ false
    by_test true e rest = absurd (omega arith)
    by_test false e rest = rest (omega arith)

-- the type with which a frame was coded, and none where it isn't coded
abbrev pub kind_of : List Command → ℕ → Option FrameType
kind_of commands number = cond (has_code commands number) (Some (coded_kind commands number)) None

-- the type with which a frame was coded stays, whatever is coded later
pub coded_kind-push : (commands : List Command) (c : Command) (number : ℕ) → has_code commands number ≡ true → coded_kind (commands ++ c ∷ []) number ≡ coded_kind commands number
coded_kind-push [] c number h = absurd (false≢true h)
coded_kind-push (Code frame kind refs refresh visible ∷ commands) c number h = by_test (eqb frame number) h (coded_kind-push commands c number)
  where
    by_test : (t : Bool) → (t || has_code commands number) ≡ true → (has_code commands number ≡ true → coded_kind (commands ++ c ∷ []) number ≡ coded_kind commands number) → cond t kind (coded_kind (commands ++ c ∷ []) number) ≡ cond t kind (coded_kind commands number)
    by_test true e later = refl
    by_test false e later = later e
coded_kind-push (Show slot ∷ commands) c number h = coded_kind-push commands c number h

-- a frame that wasn't coded has the type that it is coded with
pub coded_kind-last : (commands : List Command) (frame : ℕ) (kind : FrameType) (refs : List ℕ) (refresh : ℕ) (visible : Bool) → has_code commands frame ≡ false → coded_kind (commands ++ Code frame kind refs refresh visible ∷ []) frame ≡ kind
coded_kind-last [] frame kind refs refresh visible h = cond-true (eqb frame frame) kind FrameType.KEY (eq-eqb frame frame refl)
coded_kind-last (Code f k r b v ∷ commands) frame kind refs refresh visible h = by_test (eqb f frame) h (coded_kind-last commands frame kind refs refresh visible)
  where
    by_test : (t : Bool) → (t || has_code commands frame) ≡ false → (has_code commands frame ≡ false → coded_kind (commands ++ Code frame kind refs refresh visible ∷ []) frame ≡ kind) → cond t k (coded_kind (commands ++ Code frame kind refs refresh visible ∷ []) frame) ≡ kind
    by_test true e later = absurd (false≢true (sym e))
    by_test false e later = later e
coded_kind-last (Show slot ∷ commands) frame kind refs refresh visible h = coded_kind-last commands frame kind refs refresh visible h

-- one more command leaves the types of the frames that it doesn't code
pub kind_of-other : (commands : List Command) (c : Command) (number : ℕ) → codes number c ≡ false → kind_of (commands ++ c ∷ []) number ≡ kind_of commands number
kind_of-other commands c number h = elim (cases_Bool (has_code commands number)) [
  | inl coded ↦
      cond-true (has_code (commands ++ c ∷ []) number) (Some (coded_kind (commands ++ c ∷ []) number)) None (has_code_left commands c number coded)
      ∙ ap (λ (k : FrameType). Some k) (coded_kind-push commands c number coded)
      ∙ sym (cond-true (has_code commands number) (Some (coded_kind commands number)) None coded)
  | inr not_yet ↦
      cond-false (has_code (commands ++ c ∷ []) number) (Some (coded_kind (commands ++ c ∷ []) number)) None
      (has_code-push commands c number ∙ ap (λ (t : Bool). t || codes number c) not_yet ∙ h)
      ∙ sym (cond-false (has_code commands number) (Some (coded_kind commands number)) None not_yet)
]

-- and gives its own type to the frame that it codes
pub kind_of-last : (commands : List Command) (frame : ℕ) (kind : FrameType) (refs : List ℕ) (refresh : ℕ) (visible : Bool) → has_code commands frame ≡ false → kind_of (commands ++ Code frame kind refs refresh visible ∷ []) frame ≡ Some kind
kind_of-last commands frame kind refs refresh visible h =
    let c : Command = Code frame kind refs refresh visible in
    cond-true (has_code (commands ++ c ∷ []) frame) (Some (coded_kind (commands ++ c ∷ []) frame)) None (has_code_last commands c frame (eq-eqb frame frame refl))
    ∙ ap (λ (k : FrameType). Some k) (coded_kind-last commands frame kind refs refresh visible h)

pub kind_of-coded : (commands : List Command) (number : ℕ) → has_code commands number ≡ true → kind_of commands number ≡ Some (coded_kind commands number)
kind_of-coded commands number coded = cond-true (has_code commands number) (Some (coded_kind commands number)) None coded

-- ---- what slots hold

-- what a slot holds after a command, it held before or the command coded
held_refreshed : (bits frame : ℕ) (slots : Slots) (slot number : ℕ) → held (refreshed bits frame slots) slot ≡ Some number → (held slots slot ≡ Some number) ⊎ (frame ≡ number)
held_refreshed bits frame [] slot number h = inl h
held_refreshed bits frame (s ∷ slots) zero number h = by_test (eqb (bits % 2) 1) h
  where
    by_test : (t : Bool) → cond t (Some frame) s ≡ Some number → (s ≡ Some number) ⊎ (frame ≡ number)
    by_test true e = inr (same_Some frame number e)
    by_test false e = inl e
held_refreshed bits frame (s ∷ slots) (suc slot) number h = held_refreshed (bits / 2) frame slots slot number h

held_coded : (slots : Slots) (commands : List Command) (slot number : ℕ) → held (slots_after slots commands) slot ≡ Some number → (held slots slot ≡ Some number) ⊎ (has_code commands number ≡ true)
held_coded slots [] slot number h = inl h
held_coded slots (Code frame kind refs refresh visible ∷ commands) slot number h = elim (held_coded (refreshed refresh frame slots) commands slot number h) [
  | inl before ↦ elim (held_refreshed refresh frame slots slot number before) [
    | inl first ↦ inl first
    | inr same ↦ inr (or_left (eqb frame number) (has_code commands number) (eq-eqb frame number same))
  ]
  | inr later ↦ inr (or_right (eqb frame number) (has_code commands number) later)
]
held_coded slots (Show s ∷ commands) slot number h = held_coded slots commands slot number h

held_empty : (count slot : ℕ) → held (replicate count None) slot ≡ None
held_empty zero slot = refl
held_empty (suc count) zero = refl
held_empty (suc count) (suc slot) = held_empty count slot

-- whatever a slot holds was coded
pub held_from_empty : (commands : List Command) (slot number : ℕ) → held (slots_after empty_slots commands) slot ≡ Some number → has_code commands number ≡ true
held_from_empty commands slot number h = elim (held_coded empty_slots commands slot number h) [
  | inl before ↦ absurd (none-some number (sym (held_empty 8 slot) ∙ before))
  | inr later ↦ later
]

-- ---- of a plan

module _ (plan : List Command) (frames : ℕ) (facts : IsPlayable plan frames) where
  pub showing_front : (k : ℕ) → showing (take k plan) ≤ frames
  showing_front k =
      let split : showing (take k plan) + showing (drop k plan) ≡ showing plan =
      sym (count-append shows (take k plan) (drop k plan)) ∙ ap showing (take-append-drop k plan) in
      omega (arith, facts.count)

  -- a plan whose frames aren't all shown has a command left
  pub more_to_come : (k : ℕ) → k ≤ length plan → (showing (take k plan) ≡ frames → ⊥) → k < length plan
  more_to_come k within open_yet = elim (cases_eq k (length plan)) [
    | inl same ↦ absurd (open_yet (ap (λ (n : ℕ). showing (take n plan)) same ∙ ap showing (take_all (length plan) plan (le_refl (length plan))) ∙ facts.count))
    | inr other ↦ omega arith
  ]

  -- a frame that is coded now wasn't coded before
  pub not_before : (k frame : ℕ) (kind : FrameType) (refs : List ℕ) (refresh : ℕ) (visible : Bool) → slice_get plan k ≡ Some (Code frame kind refs refresh visible) → has_code (take k plan) frame ≡ false
  not_before k frame kind refs refresh visible h = none_counted (take k plan) frame (first_none
      (count_by (codes frame) (take k plan)) (eqb frame frame) (count_by (codes frame) (drop (k + 1) plan)) (eq-eqb frame frame refl) whole)
    where
      c : Command
      c = Code frame kind refs refresh visible

      whole : count_by (codes frame) (take k plan) + (cond (eqb frame frame) 1 0 + count_by (codes frame) (drop (k + 1) plan)) ≡ 1
      whole =
          ap (λ (n : ℕ). count_by (codes frame) (take k plan) + n) (sym (count-cons (codes frame) c (drop (k + 1) plan)))
          ∙ sym (count-append (codes frame) (take k plan) (c ∷ drop (k + 1) plan))
          ∙ ap (count_by (codes frame)) (sym (split_at plan k c h))
          ∙ facts.once frame (facts.below k frame kind refs refresh visible h)

      first_none : (n : ℕ) (t : Bool) (m : ℕ) → t ≡ true → n + (cond t 1 0 + m) ≡ 1 → n ≡ 0
      first_none n true m e h = omega arith
      first_none n false m e h = absurd (false≢true e)

  -- the frame that the next shown command shows has been coded then
  pub next_coded : (k : ℕ) (c : Command) → slice_get plan k ≡ Some c → shows c ≡ true → has_code (take k plan ++ c ∷ []) (showing (take k plan)) ≡ true
  next_coded k (Code frame kind refs refresh visible) h visibly =
      let command : slice_get plan k ≡ Some (Code frame kind refs refresh true) = h ∙ ap (λ (t : Bool). Some (Code frame kind refs refresh t)) visibly in
      has_code_last (take k plan) (Code frame kind refs refresh visible) (showing (take k plan))
      (eq-eqb frame (showing (take k plan)) (facts.code k frame kind refs refresh command))
  next_coded k (Show slot) h visibly =
      has_code_left (take k plan) (Show slot) (showing (take k plan)) (held_from_empty (take k plan) slot (showing (take k plan)) (facts.show k slot h))

  -- where that is a show command, it was coded before
  pub show_coded : (k slot : ℕ) → slice_get plan k ≡ Some (Show slot) → has_code (take k plan) (showing (take k plan)) ≡ true
  show_coded k slot h = held_from_empty (take k plan) slot (showing (take k plan)) (facts.show k slot h)

  -- what shows a frame codes none that comes after it
  pub codes_none_later : (k : ℕ) (c : Command) (number : ℕ) → slice_get plan k ≡ Some c → shows c ≡ true → showing (take k plan) < number → codes number c ≡ false
  codes_none_later k (Show slot) number h visibly later = refl
  codes_none_later k (Code frame kind refs refresh visible) number h visibly later =
      let command : slice_get plan k ≡ Some (Code frame kind refs refresh true) = h ∙ ap (λ (t : Bool). Some (Code frame kind refs refresh t)) visibly in
      let same : frame ≡ showing (take k plan) = facts.code k frame kind refs refresh command in
      ne_eqb frame number (λ e. omega arith)
