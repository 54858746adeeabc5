-- The display machine in the middle of a GOP.
use Rattle.std.specs.Prelude.{ℕ, ◌<◌, ◌≤◌, List, ◌∷◌, ◌++◌, map, take}
use Rattle.std.specs.Option.{IsSomeAnd}
use Rattle.pyramid.specs.declared.command.Command.{Command}
use Rattle.pyramid.specs.Numbers.{Numbers}
use Rattle.pyramid.specs.Rows.{rows}
use Rattle.pyramid.specs.RowCommand.{command_of, key_of}
use Rattle.pyramid.specs.Gop.{within, groups}
use Rattle.pyramid.specs.Display.{Slots, held}

-- each of the eight slots holds a frame from `low` to before `high`
abbrev pub AllHold : Slots → ℕ → ℕ → Type 0
AllHold slots low high =
    (slot : ℕ) → slot < 8 → IsSomeAnd (held slots slot) (λ frame. (low ≤ frame) × (frame < high))

-- the commands of a GOP before row `index` of group `number`
abbrev pub before_row : Numbers → ℕ → ℕ → ℕ → ℕ → List Command
before_row numbers start length number index =
    let in_group = within numbers length number (take index (rows numbers.depth)) in
    key_of start ∷ (groups numbers start length number ++ map (command_of numbers start number) in_group)
