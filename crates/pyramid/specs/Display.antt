-- A display machine: eight slots, each empty or holding the number of a frame.
use Rattle.std.specs.Prelude.{ℕ, ◌+◌, ◌/◌, ◌%◌, Bool, true, false, not, ◌==◌, ◌&&◌, if◌then◌else◌, List, [], ◌∷◌, ◌++◌, replicate, Option, None, Some, is_some, slice_index_or}
use Rattle.std.specs.Option.{option_to_list}
use Rattle.std.specs.List.{list_all, find, count_by}
use Rattle.pyramid.specs.declared.command.Command.{Command}
use Rattle.pyramid.specs.declared.command.Command.TheVariants.{Code, Show}

abbrev pub Slots : Type 0
Slots = List (Option ℕ)

abbrev pub empty_slots : Slots
empty_slots = replicate 8 None

-- what a slot holds; a slot that there isn't is empty
abbrev pub held : Slots → ℕ → Option ℕ
held slots slot = slice_index_or slots slot None

-- the slots after a frame is put where a bit is set
abbrev pub refreshed : ℕ → ℕ → Slots → Slots
refreshed bits frame [] = []
refreshed bits frame (slot ∷ slots) =
    (if bits % 2 == 1 then Some frame else slot) ∷ refreshed (bits / 2) frame slots

-- every slot that the command names is full
abbrev pub names_full : Slots → Command → Bool
names_full slots (Code frame kind refs refresh shown) =
    list_all (λ slot. is_some (held slots slot)) refs
names_full slots (Show slot) = is_some (held slots slot)

-- the slots that a command names, in order
abbrev pub named_slots : Command → List ℕ
named_slots (Code frame kind refs refresh shown) = refs
named_slots (Show slot) = slot ∷ []

-- the first of these that is empty, if there is one
abbrev pub first_empty : Slots → Command → Option ℕ
first_empty slots command = find (λ slot. not (is_some (held slots slot))) (named_slots command)

-- the slots after a command
abbrev pub slots_after_one : Slots → Command → Slots
slots_after_one slots (Code frame kind refs refresh shown) = refreshed refresh frame slots
slots_after_one slots (Show slot) = slots

-- the frames that a command shows: none or one
abbrev pub shown_by : Slots → Command → List ℕ
shown_by slots (Code frame kind refs refresh shown) = if shown then frame ∷ [] else []
shown_by slots (Show slot) = option_to_list (held slots slot)

-- a refusal at once, or else one further on
abbrev pub refused_or : Option ℕ → Option (ℕ × ℕ) → Option (ℕ × ℕ)
refused_or (Some slot) later = Some (0, slot)
refused_or None None = None
refused_or None (Some place) = Some (place.0 + 1, place.1)

-- whether the machine accepts the commands: no command names an empty slot
abbrev pub accepts : Slots → List Command → Bool
accepts slots [] = true
accepts slots (command ∷ commands) =
    names_full slots command && accepts (slots_after_one slots command) commands

-- the first command that the machine doesn't accept, by its index, and the first empty slot that it names
abbrev pub first_refused : Slots → List Command → Option (ℕ × ℕ)
first_refused slots [] = None
first_refused slots (command ∷ commands) =
    refused_or (first_empty slots command) (first_refused (slots_after_one slots command) commands)

-- the slots after the commands
abbrev pub slots_after : Slots → List Command → Slots
slots_after slots [] = slots
slots_after slots (command ∷ commands) = slots_after (slots_after_one slots command) commands

-- the frames that the commands show, in order
abbrev pub shown : Slots → List Command → List ℕ
shown slots [] = []
shown slots (command ∷ commands) =
    shown_by slots command ++ shown (slots_after_one slots command) commands

-- whether a command shows a frame
abbrev pub shows : Command → Bool
shows (Code frame kind refs refresh shown) = shown
shows (Show slot) = true

-- whether a command codes this frame
abbrev pub codes : ℕ → Command → Bool
codes number (Code frame kind refs refresh shown) = frame == number
codes number (Show slot) = false

-- how many of the commands show a frame, and how many hide one
abbrev pub showing : List Command → ℕ
showing commands = count_by shows commands

abbrev pub hiding : List Command → ℕ
hiding commands = count_by (λ command. not (shows command)) commands
