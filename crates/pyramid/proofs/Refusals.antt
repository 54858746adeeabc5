-- The first empty slot, and the first command that is refused.
use Rattle.std.proofs.Common.{◌≡◌, ℕ, Bool, true, false, not, cond, ◌&&◌, List, [], ◌∷◌, Option, None, Some, refl, ap, ◌∙◌}
use Rattle.std.specs.Prelude.{is_some}
use Rattle.std.specs.List.{list_all, find}
use Rattle.pyramid.specs.declared.command.Command.{Command}
use Rattle.pyramid.specs.declared.command.Command.TheVariants.{Code, Show}
use Rattle.pyramid.specs.Display.{Slots, held, names_full, first_empty, slots_after_one, refused_or, first_refused, accepts}

find-all : (p : ℕ → Bool) (xs : List ℕ) → list_all p xs ≡ not (is_some (find (λ x. not (p x)) xs))
find-all p [] = refl
find-all p (x ∷ xs) = by_test (p x) (find-all p xs)
  where
    by_test : (t : Bool) → list_all p xs ≡ not (is_some (find (λ x. not (p x)) xs)) → (t && list_all p xs) ≡ not (is_some (cond (not t) (Some x) (find (λ x. not (p x)) xs)))
    by_test true e = e
    by_test false e = refl

pub first-empty : (slots : Slots) (command : Command) → names_full slots command ≡ not (is_some (first_empty slots command))
first-empty slots (Code frame kind refs refresh shown) = find-all (λ slot. is_some (held slots slot)) refs
first-empty slots (Show slot) = one (is_some (held slots slot))
  where
    one : (t : Bool) → t ≡ not (is_some (cond (not t) (Some slot) None))
    one true = refl
    one false = refl

pub first-refused : (slots : Slots) (commands : List Command) → accepts slots commands ≡ not (is_some (first_refused slots commands))
first-refused slots [] = refl
first-refused slots (command ∷ commands) =
    ap (λ b. b && accepts (slots_after_one slots command) commands) (first-empty slots command)
    ∙ ap (λ b. not (is_some (first_empty slots command)) && b) (first-refused (slots_after_one slots command) commands)
    ∙ both (first_empty slots command) (first_refused (slots_after_one slots command) commands)
  where
    both : (now : Option ℕ) (later : Option (ℕ × ℕ)) → (not (is_some now) && not (is_some later)) ≡ not (is_some (refused_or now later))
    both (Some slot) later = refl
    both None None = refl
    both None (Some place) = refl
