-- A frame is coded before it is shown.
use Rattle.std.proofs.Common.{◌≡◌, ℕ, ◌+◌, ◌<◌, ◌≤◌, Bool, true, false, cond, eqb, ◌⊎◌, inl, inr, List, [], ◌∷◌, ◌++◌, take, drop, Option, None, Some, refl, sym, ap, ◌∙◌, take-append-drop, arith, zero, suc}
use Rattle.std.specs.Option.{option_to_list}
use Rattle.std.specs.List.{count_by, list_any, range_with_len, slice_get}
use Rattle.std.proofs.lemmas.Bool.{cases_lt, or_cases, or_left, or_right, eqb-true, eq-eqb, false≢true}
use Rattle.std.proofs.lemmas.List.{drop_more}
use Rattle.std.proofs.lemmas.Option.{slice_get_within, get_or_from_slice_get, none-some}
use Rattle.av1_settings.specs.declared.frame_type.FrameType.{FrameType}
use Rattle.pyramid.specs.declared.command.Command.{Command}
use Rattle.pyramid.specs.declared.command.Command.TheVariants.{Code, Show}
use Rattle.pyramid.specs.Display.{Slots, empty_slots, held, shown_by, slots_after_one, shown, showing, codes}
use Rattle.pyramid.specs.Playable.{InOrder}
use Rattle.pyramid.proofs.Coded.{held-after_one, none-replicate}
use Rattle.pyramid.proofs.Lists.{digit, count-cons, count-append}

abbrev has : ℕ → List ℕ → Bool
has frame frames = list_any (λ x. eqb x frame) frames

has-either : (frame : ℕ) (xs ys : List ℕ) → has frame (xs ++ ys) ≡ true → (has frame xs ≡ true) ⊎ (has frame ys ≡ true)
has-either frame [] ys h = inr h
has-either frame (x ∷ xs) ys h = elim (or_cases (eqb x frame) (has frame (xs ++ ys)) h) [
  | inl here ↦ inl (or_left (eqb x frame) (has frame xs) here)
  | inr later ↦
      elim (has-either frame xs ys later) [
        | inl a ↦ inl (or_right (eqb x frame) (has frame xs) a)
        | inr b ↦ inr b
      ]
]

has-range : (frame low count : ℕ) → low ≤ frame → frame < low + count → has frame (range_with_len low count) ≡ true
has-range frame low zero h k = absurd (omega arith)
has-range frame low (suc count) h k = elim (cases_lt low frame) [
  | inl above ↦ or_right (eqb low frame) (has frame (range_with_len (low + 1) count)) (has-range frame (low + 1) count (omega arith) (omega arith))
  | inr here ↦ or_left (eqb low frame) (has frame (range_with_len (low + 1) count)) (eq-eqb low frame (omega arith))
]

listed : (frame : ℕ) (o : Option ℕ) → has frame (option_to_list o) ≡ true → o ≡ Some frame
listed frame None h = absurd (false≢true h)
listed frame (Some x) h = elim (or_cases (eqb x frame) false h) [
  | inl same ↦ ap Some (eqb-true x frame same)
  | inr never ↦ absurd (false≢true never)
]

-- what a command shows, it codes, or a slot has it
shown_by-coded : (slots : Slots) (command : Command) (frame : ℕ) → has frame (shown_by slots command) ≡ true → (codes frame command ≡ true) ⊎ ((slot : ℕ) × (held slots slot ≡ Some frame))
shown_by-coded slots (Code number kind refs refresh shown) frame h = by_test shown h
  where
    by_test : (t : Bool) → has frame (cond t (number ∷ []) []) ≡ true → (eqb number frame ≡ true) ⊎ ((slot : ℕ) × (held slots slot ≡ Some frame))
    by_test true h = elim (or_cases (eqb number frame) false h) [ inl same ↦ inl same | inr never ↦ absurd (false≢true never) ]
    by_test false h = absurd (false≢true h)
shown_by-coded slots (Show slot) frame h = inr (slot, listed frame (held slots slot) h)

shown-coded : (slots : Slots) (commands : List Command) (frame : ℕ) → has frame (shown slots commands) ≡ true → (list_any (codes frame) commands ≡ true) ⊎ ((slot : ℕ) × (held slots slot ≡ Some frame))
shown-coded slots [] frame h = absurd (false≢true h)
shown-coded slots (command ∷ commands) frame h =
    let now = codes frame command in
    let later = list_any (codes frame) commands in
    elim (has-either frame (shown_by slots command) (shown (slots_after_one slots command) commands) h) [
      | inl here ↦ elim (shown_by-coded slots command frame here) [ inl coded ↦ inl (or_left now later coded) | inr there ↦ inr there ]
      | inr rest ↦
          elim (shown-coded (slots_after_one slots command) commands frame rest) [
            | inl coded ↦ inl (or_right now later coded)
            | inr there ↦ elim (held-after_one slots command there.0 frame there.1) [ inl coded ↦ inl (or_left now later coded) | inr before ↦ inr (there.0, before) ]
          ]
    ]

any-count : (test : Command → Bool) (commands : List Command) → list_any test commands ≡ true → 1 ≤ count_by test commands
any-count test [] h = absurd (false≢true h)
any-count test (command ∷ commands) h = elim (or_cases (test command) (list_any test commands) h) [
  | inl here ↦
      let one : digit (test command) ≡ 1 = ap digit here in
      omega (arith, one, count-cons test command commands)
  | inr later ↦ omega (arith, any-count test commands later, count-cons test command commands)
]

-- where each frame is coded once, and the first commands are in order, one that is coded next isn't shown yet
pub next-unshown : (commands : List Command) (k frame : ℕ) (kind : FrameType) (refs : List ℕ) (refresh : ℕ) (visible : Bool) → InOrder empty_slots (take k commands) 0 (showing (take k commands)) → count_by (codes frame) commands ≡ 1 → slice_get commands k ≡ Some (Code frame kind refs refresh visible) → showing (take k commands) ≤ frame
next-unshown commands k frame kind refs refresh visible order once is = elim (cases_lt frame (showing (take k commands))) [
  | inl early ↦
      let command = Code frame kind refs refresh visible in
      let there = ap (has frame) order.showed ∙ has-range frame 0 (showing (take k commands)) (omega arith) (omega arith) in
      let split : commands ≡ take k commands ++ (command ∷ drop (k + 1) commands) =
      sym (take-append-drop k commands) ∙ ap (λ (s : List Command). take k commands ++ s) (drop_more commands k command (slice_get_within commands k command is) ∙ ap (λ (c : Command). c ∷ drop (k + 1) commands) (get_or_from_slice_get commands k command command is)) in
      let count = ap (count_by (codes frame)) split ∙ count-append (codes frame) (take k commands) (command ∷ drop (k + 1) commands) in
      let same : digit (codes frame command) ≡ 1 = ap digit (eq-eqb frame frame refl) in
      let next = count-cons (codes frame) command (drop (k + 1) commands) in
      elim (shown-coded empty_slots (take k commands) frame there) [
        | inl coded ↦ absurd (omega (arith, any-count (codes frame) (take k commands) coded, count, next, same, once))
        | inr from ↦ absurd (none-some frame (sym (none-replicate 8 from.0) ∙ from.1))
      ]
  | inr later ↦ later
]
