-- After a key each slot holds a frame of its GOP, and a show command shows the frame of its position.
use Rattle.std.proofs.Common.{◌≡◌, ℕ, ◌+◌, ◌<◌, ◌≤◌, Bool, true, false, cond, ltb, List, [], ◌∷◌, ◌++◌, length as size, map, filter, take, Option, Some, refl, sym, ap, ◌∙◌, subst, arith, zero, suc}
use Rattle.std.specs.Option.{IsSomeAnd}
use Rattle.std.specs.List.{AllByRecursion}
use Rattle.std.proofs.lemmas.Bool.{ltb-true}
use Rattle.pyramid.specs.declared.command.Command.{Command}
use Rattle.pyramid.specs.declared.command.Command.TheVariants.{Code, Show}
use Rattle.pyramid.specs.declared.rows.Row.{Row}
use Rattle.pyramid.specs.Numbers.{Numbers}
use Rattle.pyramid.specs.Levels.{slot_of}
use Rattle.pyramid.specs.Positions.{row_position}
use Rattle.pyramid.specs.Rows.{rows}
use Rattle.pyramid.specs.RowCommand.{code_of, command_of}
use Rattle.pyramid.specs.Gop.{group, groups, group_count, gop}
use Rattle.pyramid.specs.Display.{Slots, held, refreshed, slots_after_one, slots_after}
use Rattle.pyramid.specs.MidGop.{AllHold}
use Rattle.pyramid.proofs.Machine.{bit, length-refreshed, held-refreshed}
use Rattle.pyramid.proofs.Bits.{every_bit}

-- a frame that is coded is one of the GOP's
abbrev pub CodesWithin : ℕ → ℕ → Command → Type 0
CodesWithin low high (Code frame kind refs refresh shown) = (low ≤ frame) × (frame < high)
CodesWithin low high (Show slot) = Unit {0}

abbrev pub IsWithin : ℕ → ℕ → Option ℕ → Type 0
IsWithin low high o = IsSomeAnd o (λ frame. (low ≤ frame) × (frame < high))

either_within : (low high frame : ℕ) (b : Bool) (o : Option ℕ) → (low ≤ frame) × (frame < high) → IsWithin low high o → IsWithin low high (cond b (Some frame) o)
either_within low high frame true o h k = h
either_within low high frame false o h k = k

-- eight slots that hold frames of the GOP
pub record Holds (slots : Slots) (low high : ℕ) : Type 0 where
  pub eight : size slots ≡ 8
  pub each : AllHold slots low high

holds-refreshed : (bits frame : ℕ) (slots : Slots) (low high : ℕ) → Holds slots low high → (low ≤ frame) × (frame < high) → Holds (refreshed bits frame slots) low high
holds-refreshed bits frame slots low high h k = record {
  eight = length-refreshed bits frame slots ∙ h.eight;
  each = λ slot small.
      let P : Option ℕ → Type 0 = IsWithin low high in
      let e = h.eight in
      subst P (sym (held-refreshed bits frame slots slot (omega arith))) (either_within low high frame (bit bits slot) (held slots slot) k (h.each slot small));
}

pub holds-after_one : (slots : Slots) (command : Command) (low high : ℕ) → Holds slots low high → CodesWithin low high command → Holds (slots_after_one slots command) low high
holds-after_one slots (Code frame kind refs refresh shown) low high h k = holds-refreshed refresh frame slots low high h k
holds-after_one slots (Show slot) low high h k = h

abbrev Each : ℕ → ℕ → List Command → Type 0
Each low high commands = AllByRecursion (CodesWithin low high) commands

holds-after : (slots : Slots) (commands : List Command) (low high : ℕ) → Holds slots low high → Each low high commands → Holds (slots_after slots commands) low high
holds-after slots [] low high h k = h
holds-after slots (command ∷ commands) low high h k =
    holds-after (slots_after_one slots command) commands low high (holds-after_one slots command low high h k.0) k.1

each-take : (low high k : ℕ) (commands : List Command) → Each low high commands → Each low high (take k commands)
each-take low high zero commands h = tt
each-take low high (suc k) [] h = tt
each-take low high (suc k) (command ∷ commands) h = (h.0, each-take low high k commands h.1)

each-append : (low high : ℕ) (xs ys : List Command) → Each low high xs → Each low high ys → Each low high (xs ++ ys)
each-append low high [] ys h k = k
each-append low high (x ∷ xs) ys h k = (h.0, each-append low high xs ys h.1 k)

each-rows : (low high : ℕ) (f : Row → Command) (p : Row → Bool) → ((r : Row) → p r ≡ true → CodesWithin low high (f r)) → (rows : List Row) → Each low high (map f (filter p rows))
each-rows low high f p h [] = tt
each-rows low high f p h (r ∷ rows) =
    let rest = each-rows low high f p h rows in
    let go : (b : Bool) → p r ≡ b → Each low high (map f (cond b (r ∷ filter p rows) (filter p rows))) = λ b.
    elim b as (λ b. p r ≡ b → Each low high (map f (cond b (r ∷ filter p rows) (filter p rows)))) [
      | true ↦ λ e. (h r e, rest)
      | false ↦ λ e. rest
    ] in
    go (p r) refl

shown_or_coded : (b : Bool) (low high slot : ℕ) (command : Command) → CodesWithin low high command → CodesWithin low high (cond b (Show slot) command)
shown_or_coded true low high slot command h = tt
shown_or_coded false low high slot command h = h

each-group : (numbers : Numbers) (start length number : ℕ) → Each start (start + length) (group numbers start length number)
each-group numbers start length number =
    each-rows start (start + length) (command_of numbers start number) (λ r. ltb (row_position numbers number r) length)
    (λ r e.
    let position = row_position numbers number r in
    let below = ltb-true position length e in
    shown_or_coded r.existing start (start + length) (slot_of numbers.depth position) (code_of numbers start number r) (omega arith, omega (arith, below)))
    (rows numbers.depth)

each-groups : (numbers : Numbers) (start length count : ℕ) → Each start (start + length) (groups numbers start length count)
each-groups numbers start length zero = tt
each-groups numbers start length (suc count) =
    each-append start (start + length) (groups numbers start length count) (group numbers start length count) (each-groups numbers start length count) (each-group numbers start length count)

pub key-holds : (slots : Slots) (start length : ℕ) → size slots ≡ 8 → 1 ≤ length → Holds (refreshed 255 start slots) start (start + length)
key-holds slots start length eight some = record {
  eight = length-refreshed 255 start slots ∙ eight;
  each = λ slot small.
      let P : Option ℕ → Type 0 = IsWithin start (start + length) in
      let set = held-refreshed 255 start slots slot (omega (arith, eight)) ∙ ap (λ b. cond b (Some start) (held slots slot)) (every_bit slot small) in
      subst P (sym set) (omega arith, omega arith);
}

-- after its key, and after each command that follows
pub gop-holds : (numbers : Numbers) (slots : Slots) (start length k : ℕ) → size slots ≡ 8 → 1 ≤ length → 1 ≤ k → AllHold (slots_after slots (take k (gop numbers start length))) start (start + length)
gop-holds numbers slots start length zero eight some h = absurd (omega arith)
gop-holds numbers slots start length (suc k) eight some h =
    let all = groups numbers start length (group_count numbers length) in
    let after = holds-after (refreshed 255 start slots) (take k all) start (start + length) (key-holds slots start length eight some) (each-take start (start + length) k all (each-groups numbers start length (group_count numbers length))) in
    after.each
