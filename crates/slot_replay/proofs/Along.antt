-- A replay along a list of commands.
use Rattle.std.proofs.Common.{◌≡◌, ℕ, ◌+◌, ◌<◌, ◌≤◌, true, false, not, List, ◌∷◌, ◌++◌, length, get_or, drop, Option, None, Some, sym, ap, ◌∙◌, add-zero}
use Rattle.std.proofs.lemmas.List.{at_drop_more}
use Rattle.std.proofs.Math.ListN.{drop_of_length-le}
use Rattle.std.specs.Prelude.{is_some}
use Rattle.pyramid.specs.declared.command.Command.{Command}
use Rattle.pyramid.specs.Display.{Slots, empty_slots, first_empty, slots_after_one, refused_or, first_refused, accepts, shown}
use Rattle.pyramid.proofs.PublicLaws.{first_refused_is_first}

-- a refusal that many commands further on
abbrev pub further : ℕ → Option (ℕ × ℕ) → Option (ℕ × ℕ)
further i None = None
further i (Some place) = Some (i + place.0, place.1)

-- the frames so far and what the commands left show make what all show, and what is refused stands among those left
pub record IsAlong (commands : List Command) (i : ℕ) (slots : Slots) (frames : List ℕ) : Type 0 where
  pub shows : frames ++ shown slots (drop i commands) ≡ shown empty_slots commands
  pub refuses : further i (first_refused slots (drop i commands)) ≡ first_refused empty_slots commands

-- a command that names an empty slot is the first that is refused
pub along-refused : (commands : List Command) (i : ℕ) (slots : Slots) (frames : List ℕ) (command : Command) (slot : ℕ) → i < length commands → command ≡ get_or commands i command → first_empty slots command ≡ Some slot → IsAlong commands i slots frames → first_refused empty_slots commands ≡ Some (i, slot)
along-refused commands i slots frames command slot within is empty along =
    let rest : List Command = drop (i + 1) commands in
    let later : Slots = slots_after_one slots command in
    let here : drop i commands ≡ command ∷ rest = at_drop_more (λ xs. xs) commands i command within ∙ ap (λ c. c ∷ rest) (sym is) in
    sym along.refuses ∙ ap (λ xs. further i (first_refused slots xs)) here ∙ ap (λ e. further i (refused_or e (first_refused later rest))) empty ∙ ap (λ n. Some (n, slot)) (add-zero i)

-- at the end all commands are accepted
pub along-accepts : (commands : List Command) (i : ℕ) (slots : Slots) (frames : List ℕ) → length commands ≤ i → IsAlong commands i slots frames → accepts empty_slots commands ≡ true
along-accepts commands i slots frames past along =
    first_refused_is_first empty_slots commands
    ∙ ap (λ e. not (is_some e)) (sym along.refuses ∙ ap (λ xs. further i (first_refused slots xs)) (drop_of_length-le commands past))

-- accepted commands have none that is refused
pub accepted-unrefused : (commands : List Command) (place : ℕ × ℕ) → accepts empty_slots commands ≡ true → first_refused empty_slots commands ≡ Some place → ⊥
accepted-unrefused commands place accepted refused =
    let e : true ≡ false = sym accepted ∙ first_refused_is_first empty_slots commands ∙ ap (λ r. not (is_some r)) refused in cc
