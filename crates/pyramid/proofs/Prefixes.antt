-- The first commands of a list whose frames are in order.
use Rattle.std.proofs.Common.{◌≡◌, ℕ, ◌+◌, Bool, true, false, cond, List, [], ◌∷◌, ◌++◌, length as size, take, drop, Option, None, Some, refl, sym, ap, ◌∙◌, subst, arith, zero, suc}
use Rattle.std.specs.Prelude.{is_some}
use Rattle.std.specs.Option.{option_to_list}
use Rattle.std.specs.List.{range_with_len}
use Rattle.std.proofs.lemmas.List.{take-append-drop, length-append}
use Rattle.pyramid.specs.declared.command.Command.{Command}
use Rattle.pyramid.specs.declared.command.Command.TheVariants.{Code, Show}
use Rattle.pyramid.specs.Display.{Slots, held, names_full, shown_by, slots_after_one, accepts, slots_after, shown, shows, showing}
use Rattle.pyramid.specs.Playable.{InOrder}
use Rattle.pyramid.proofs.Lists.{count-cons}
use Rattle.pyramid.proofs.Machine.{Replays, first, second, accepts-append, shown-append}

count_option : (o : Option ℕ) → is_some o ≡ true → size (option_to_list o) ≡ 1
count_option None h = cc
count_option (Some x) h = refl

count_shown : (b : Bool) (frame : ℕ) → size (cond b (frame ∷ []) []) ≡ cond b 1 0
count_shown true frame = refl
count_shown false frame = refl

-- a command that is accepted shows one frame, or none where it hides it
pub shown_by-count : (slots : Slots) (command : Command) → names_full slots command ≡ true → size (shown_by slots command) ≡ cond (shows command) 1 0
shown_by-count slots (Code frame kind refs refresh shown) h = count_shown shown frame
shown_by-count slots (Show slot) h = count_option (held slots slot) h

pub shown-count : (slots : Slots) (commands : List Command) → accepts slots commands ≡ true → size (shown slots commands) ≡ showing commands
shown-count slots [] h = refl
shown-count slots (command ∷ commands) h =
    let one = shown_by-count slots command (first (names_full slots command) (accepts (slots_after_one slots command) commands) h) in
    let rest = shown-count (slots_after_one slots command) commands (second (names_full slots command) (accepts (slots_after_one slots command) commands) h) in
    length-append (shown_by slots command) (shown (slots_after_one slots command) commands)
    ∙ ap (λ n. n + size (shown (slots_after_one slots command) commands)) one ∙ ap (λ n. cond (shows command) 1 0 + n) rest
    ∙ sym (count-cons shows command commands)

front-of-range : (xs ys : List ℕ) (a n : ℕ) → xs ++ ys ≡ range_with_len a n → xs ≡ range_with_len a (size xs)
front-of-range [] ys a n h = refl
front-of-range (x ∷ xs) ys a zero h = absurd (let e : ⊥ = cc in e)
front-of-range (x ∷ xs) ys a (suc n) h =
    let head : x ≡ a = cc in
    let tail : xs ++ ys ≡ range_with_len (a + 1) n = cc in
    let rest = front-of-range xs ys (a + 1) n tail in
    cc

part-of-range : (xs ys zs : List ℕ) (a n : ℕ) → xs ++ (ys ++ zs) ≡ range_with_len a n → ys ≡ range_with_len (a + size xs) (size ys)
part-of-range [] ys zs a n h =
    let e : a ≡ a + 0 = omega arith in
    front-of-range ys zs a n h ∙ ap (λ b. range_with_len b (size ys)) e
part-of-range (x ∷ xs) ys zs a zero h = absurd (let e : ⊥ = cc in e)
part-of-range (x ∷ xs) ys zs a (suc n) h =
    let tail : xs ++ (ys ++ zs) ≡ range_with_len (a + 1) n = cc in
    let e : a + 1 + size xs ≡ a + suc (size xs) = omega arith in
    part-of-range xs ys zs (a + 1) n tail ∙ ap (λ b. range_with_len b (size ys)) e

abbrev pub from_replay : (After : Slots → Type 0) (slots : Slots) (commands : List Command) (low count : ℕ) → Replays After slots commands (range_with_len low count) → InOrder slots commands low count
from_replay After slots commands low count r = record { accepted = r.accepted; showed = r.showed }

split : (slots : Slots) (commands : List Command) (k low count : ℕ) → InOrder slots commands low count → InOrder slots (take k commands ++ drop k commands) low count
split slots commands k low count r = subst (λ (cs : List Command). InOrder slots cs low count) (sym (take-append-drop k commands)) r

pub accepts-take : (slots : Slots) (commands : List Command) (k low count : ℕ) → InOrder slots commands low count → accepts slots (take k commands) ≡ true
accepts-take slots commands k low count r =
    let parts = split slots commands k low count r in
    first (accepts slots (take k commands)) (accepts (slots_after slots (take k commands)) (drop k commands))
    (sym (accepts-append slots (take k commands) (drop k commands)) ∙ parts.accepted)

pub shown-take : (slots : Slots) (commands : List Command) (k low count : ℕ) → InOrder slots commands low count → shown slots (take k commands) ≡ range_with_len low (showing (take k commands))
shown-take slots commands k low count r =
    let parts = split slots commands k low count r in
    let front = front-of-range (shown slots (take k commands)) (shown (slots_after slots (take k commands)) (drop k commands)) low count (sym (shown-append slots (take k commands) (drop k commands)) ∙ parts.showed) in
    front ∙ ap (range_with_len low) (shown-count slots (take k commands) (accepts-take slots commands k low count r))

pub showing-all : (slots : Slots) (commands : List Command) (low count : ℕ) → InOrder slots commands low count → showing commands ≡ size (range_with_len low count)
showing-all slots commands low count r =
    sym (shown-count slots commands r.accepted) ∙ ap size r.showed

-- where a command stands after others, it shows the next number
pub shown-next : (slots : Slots) (before : List Command) (command : Command) (after : List Command) (low count : ℕ) → InOrder slots (before ++ (command ∷ after)) low count → shows command ≡ true → shown_by (slots_after slots before) command ≡ (low + showing before) ∷ []
shown-next slots before command after low count r h =
    let here = slots_after slots before in
    let rest = shown (slots_after_one here command) after in
    let order = sym (shown-append slots before (command ∷ after)) ∙ r.showed in
    let part = part-of-range (shown slots before) (shown_by here command) rest low count order in
    let both_accept = sym (accepts-append slots before (command ∷ after)) ∙ r.accepted in
    let accept = first (accepts slots before) (accepts here (command ∷ after)) both_accept in
    let accept_one = first (names_full here command) (accepts (slots_after_one here command) after) (second (accepts slots before) (accepts here (command ∷ after)) both_accept) in
    let one = shown_by-count here command accept_one ∙ ap (λ b. cond b 1 0) h in
    part ∙ ap (range_with_len (low + size (shown slots before))) one ∙ ap (λ n. (low + n) ∷ []) (shown-count slots before accept)
