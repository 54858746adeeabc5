-- The display machine: what a step keeps, and lists of commands put together.
use Rattle.std.proofs.Common.{◌≡◌, ℕ, ◌/◌, ◌%◌, ◌<◌, Bool, true, false, cond, eqb, ◌&&◌, List, [], ◌∷◌, ◌++◌, length, Option, Some, refl, sym, ap, ◌∙◌, subst, append_assoc, arith, zero, suc}
use Rattle.std.specs.Prelude.{is_some}
use Rattle.std.specs.Option.{option_to_list}
use Rattle.std.specs.List.{list_all}
use Rattle.pyramid.specs.declared.command.Command.{Command}
use Rattle.pyramid.specs.declared.command.Command.TheVariants.{Show}
use Rattle.pyramid.specs.Display.{Slots, held, refreshed, names_full, slots_after_one, shown_by, accepts, slots_after, shown, shows}

pub both : (a b : Bool) → a ≡ true → b ≡ true → (a && b) ≡ true
both true b p q = q
both false b p q = p

pub first : (a b : Bool) → (a && b) ≡ true → a ≡ true
first true b p = refl
first false b p = p

pub second : (a b : Bool) → (a && b) ≡ true → b ≡ true
second true b p = p
second false b p = cc

-- the slots are eight, and each is full
pub record IsFull (slots : Slots) : Type 0 where
  pub eight : length slots ≡ 8
  pub all : list_all is_some slots ≡ true

pub is_some-held : (slots : Slots) (slot : ℕ) → list_all is_some slots ≡ true → slot < length slots → is_some (held slots slot) ≡ true
is_some-held [] slot all h = absurd (omega arith)
is_some-held (one ∷ slots) zero all h = first (is_some one) (list_all is_some slots) all
is_some-held (one ∷ slots) (suc slot) all h =
    is_some-held slots slot (second (is_some one) (list_all is_some slots) all) (omega arith)

pub length-refreshed : (bits frame : ℕ) (slots : Slots) → length (refreshed bits frame slots) ≡ length slots
length-refreshed bits frame [] = refl
length-refreshed bits frame (slot ∷ slots) = ap suc (length-refreshed (bits / 2) frame slots)

some_either : (b : Bool) (frame : ℕ) (slot : Option ℕ) → is_some slot ≡ true → is_some (cond b (Some frame) slot) ≡ true
some_either true frame slot h = refl
some_either false frame slot h = h

pub all-refreshed : (bits frame : ℕ) (slots : Slots) → list_all is_some slots ≡ true → list_all is_some (refreshed bits frame slots) ≡ true
all-refreshed bits frame [] h = refl
all-refreshed bits frame (slot ∷ slots) h =
    let b = eqb (bits % 2) 1 in
    both (is_some (cond b (Some frame) slot)) (list_all is_some (refreshed (bits / 2) frame slots))
    (some_either b frame slot (first (is_some slot) (list_all is_some slots) h))
    (all-refreshed (bits / 2) frame slots (second (is_some slot) (list_all is_some slots) h))

pub IsFull-refreshed : (bits frame : ℕ) (slots : Slots) → IsFull slots → IsFull (refreshed bits frame slots)
IsFull-refreshed bits frame slots full = record {
  eight = length-refreshed bits frame slots ∙ full.eight;
  all = all-refreshed bits frame slots full.all;
}

-- whether the bit of a slot is set
abbrev pub bit : ℕ → ℕ → Bool
bit bits zero = eqb (bits % 2) 1
bit bits (suc slot) = bit (bits / 2) slot

pub held-refreshed : (bits frame : ℕ) (slots : Slots) (slot : ℕ) → slot < length slots → held (refreshed bits frame slots) slot ≡ cond (bit bits slot) (Some frame) (held slots slot)
held-refreshed bits frame [] slot h = absurd (omega arith)
held-refreshed bits frame (one ∷ slots) zero h = refl
held-refreshed bits frame (one ∷ slots) (suc slot) h = held-refreshed (bits / 2) frame slots slot (omega arith)

-- replayed from the slots, the commands are accepted and show the frames; the slots after them are as `After` says
pub record Replays (After : Slots → Type 0) (slots : Slots) (commands : List Command) (frames : List ℕ) : Type 0 where
  pub accepted : accepts slots commands ≡ true
  pub showed : shown slots commands ≡ frames
  pub after : After (slots_after slots commands)

pub slots_after-append : (slots : Slots) (xs ys : List Command) → slots_after slots (xs ++ ys) ≡ slots_after (slots_after slots xs) ys
slots_after-append slots [] ys = refl
slots_after-append slots (x ∷ xs) ys = slots_after-append (slots_after_one slots x) xs ys

pub shown-append : (slots : Slots) (xs ys : List Command) → shown slots (xs ++ ys) ≡ shown slots xs ++ shown (slots_after slots xs) ys
shown-append slots [] ys = refl
shown-append slots (x ∷ xs) ys =
    ap (λ s. shown_by slots x ++ s) (shown-append (slots_after_one slots x) xs ys)
    ∙ sym (append_assoc (shown_by slots x) (shown (slots_after_one slots x) xs) (shown (slots_after (slots_after_one slots x) xs) ys))

and_assoc : (a b c d : Bool) → d ≡ (b && c) → (a && d) ≡ (a && b && c)
and_assoc true b c d e = e
and_assoc false b c d e = refl

pub accepts-append : (slots : Slots) (xs ys : List Command) → accepts slots (xs ++ ys) ≡ (accepts slots xs && accepts (slots_after slots xs) ys)
accepts-append slots [] ys = refl
accepts-append slots (x ∷ xs) ys =
    and_assoc (names_full slots x) (accepts (slots_after_one slots x) xs) (accepts (slots_after (slots_after_one slots x) xs) ys) (accepts (slots_after_one slots x) (xs ++ ys)) (accepts-append (slots_after_one slots x) xs ys)

pub Replays-append : (Then After : Slots → Type 0) (slots : Slots) (xs ys : List Command) (fs gs : List ℕ) → Replays Then slots xs fs → (Then (slots_after slots xs) → Replays After (slots_after slots xs) ys gs) → Replays After slots (xs ++ ys) (fs ++ gs)
Replays-append Then After slots xs ys fs gs r next =
    let s = next r.after in
    record {
      accepted = accepts-append slots xs ys ∙ both (accepts slots xs) (accepts (slots_after slots xs) ys) r.accepted s.accepted;
      showed = shown-append slots xs ys ∙ ap (λ f. f ++ shown (slots_after slots xs) ys) r.showed ∙ ap (λ g. fs ++ g) s.showed;
      after = subst After (sym (slots_after-append slots xs ys)) s.after;
    }

pub Replays-nil : (After : Slots → Type 0) (slots : Slots) → After slots → Replays After slots [] []
Replays-nil After slots h = record { accepted = refl; showed = refl; after = h }

-- a command and the others
pub Replays-cons : (After : Slots → Type 0) (slots : Slots) (x : Command) (xs : List Command) (fs gs : List ℕ) → names_full slots x ≡ true → shown_by slots x ≡ fs → Replays After (slots_after_one slots x) xs gs → Replays After slots (x ∷ xs) (fs ++ gs)
Replays-cons After slots x xs fs gs full shows rest = record {
  accepted = both (names_full slots x) (accepts (slots_after_one slots x) xs) full rest.accepted;
  showed = ap (λ f. f ++ shown (slots_after_one slots x) xs) shows ∙ ap (λ g. fs ++ g) rest.showed;
  after = rest.after;
}

pub Replays-show : (After : Slots → Type 0) (slots : Slots) (slot frame : ℕ) (xs : List Command) (gs : List ℕ) → held slots slot ≡ Some frame → Replays After slots xs gs → Replays After slots (Show slot ∷ xs) (frame ∷ gs)
Replays-show After slots slot frame xs gs h rest =
    Replays-cons After slots (Show slot) xs (frame ∷ []) gs (ap is_some h) (ap option_to_list h) rest
