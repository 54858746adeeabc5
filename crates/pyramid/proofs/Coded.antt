-- What a slot holds was coded.
use Rattle.std.proofs.Common.{◌≡◌, ℕ, ◌≤◌, Bool, true, false, cond, eqb, ◌||◌, List, [], ◌∷◌, length as size, replicate, Option, None, Some, refl, sym, ◌∙◌, inl, inr, ◌⊎◌, arith, zero, suc}
use Rattle.std.specs.List.{list_any}
use Rattle.std.proofs.lemmas.Bool.{cases_lt}
use Rattle.std.proofs.lemmas.Bool.Decides.{nat_tests}
use Rattle.pyramid.specs.declared.command.Command.{Command}
use Rattle.pyramid.specs.declared.command.Command.TheVariants.{Code, Show}
use Rattle.pyramid.specs.Display.{Slots, empty_slots, held, refreshed, slots_after_one, slots_after, codes}
use Rattle.pyramid.proofs.Machine.{bit, held-refreshed, length-refreshed}

either_true : (a b : Bool) → b ≡ true → (a || b) ≡ true
either_true true b h = refl
either_true false b h = h

first_true : (a b : Bool) → a ≡ true → (a || b) ≡ true
first_true true b h = refl
first_true false b h = absurd (let e : ⊥ = cc in e)

same-eqb : (n m : ℕ) → n ≡ m → eqb n m ≡ true
same-eqb n m h = grind (arith, nat_tests)

past-held : (slots : Slots) (slot : ℕ) → size slots ≤ slot → held slots slot ≡ None
past-held [] slot h = refl
past-held (one ∷ slots) zero h = absurd (omega arith)
past-held (one ∷ slots) (suc slot) h = past-held slots slot (omega arith)

either_holds : (b : Bool) (frame f : ℕ) (o : Option ℕ) → cond b (Some frame) o ≡ Some f → (frame ≡ f) ⊎ (o ≡ Some f)
either_holds true frame f o h = inl (cc)
either_holds false frame f o h = inr h

-- one command puts its frame there, or leaves what was there
pub held-after_one : (slots : Slots) (command : Command) (slot f : ℕ) → held (slots_after_one slots command) slot ≡ Some f → (codes f command ≡ true) ⊎ (held slots slot ≡ Some f)
held-after_one slots (Show shown) slot f h = inr h
held-after_one slots (Code frame kind refs refresh shown) slot f h =
    elim (cases_lt slot (size slots)) [
      | inl low ↦
          elim (either_holds (bit refresh slot) frame f (held slots slot) (sym (held-refreshed refresh frame slots slot low) ∙ h)) [
            | inl e ↦ inl (same-eqb frame f e)
            | inr e ↦ inr e
          ]
      | inr high ↦
          let none = past-held (refreshed refresh frame slots) slot (omega (arith, length-refreshed refresh frame slots)) in
          absurd (let e : ⊥ = cc in e)
    ]

held-after : (slots : Slots) (commands : List Command) (slot f : ℕ) → held (slots_after slots commands) slot ≡ Some f → (list_any (codes f) commands ≡ true) ⊎ (held slots slot ≡ Some f)
held-after slots [] slot f h = inr h
held-after slots (command ∷ commands) slot f h =
    elim (held-after (slots_after_one slots command) commands slot f h) [
      | inl later ↦ inl (either_true (codes f command) (list_any (codes f) commands) later)
      | inr before ↦
          elim (held-after_one slots command slot f before) [
            | inl now ↦ inl (first_true (codes f command) (list_any (codes f) commands) now)
            | inr old ↦ inr old
          ]
    ]

pub none-replicate : (n slot : ℕ) → held (replicate n None) slot ≡ None
none-replicate zero slot = refl
none-replicate (suc n) zero = refl
none-replicate (suc n) (suc slot) = none-replicate n slot

-- from empty slots on, a frame that a slot holds was coded
pub held-coded : (commands : List Command) (slot f : ℕ) → held (slots_after empty_slots commands) slot ≡ Some f → list_any (codes f) commands ≡ true
held-coded commands slot f h =
    elim (held-after empty_slots commands slot f h) [
      | inl e ↦ e
      | inr e ↦ let none = none-replicate 8 slot in absurd (let no : ⊥ = cc in no)
    ]
