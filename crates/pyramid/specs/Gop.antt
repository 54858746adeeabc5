-- The commands of a GOP: its key, then group after group.
use Rattle.std.specs.Prelude.{ℕ, ◌+◌, ◌-◌, ◌/◌, nat_lt, List, [], ◌∷◌, ◌++◌, map, filter}
use Rattle.std.proofs.Common.{zero, suc}
use Rattle.pyramid.specs.declared.command.Command.{Command}
use Rattle.pyramid.specs.declared.rows.Row.{Row}
use Rattle.pyramid.specs.Numbers.{Numbers, group_inputs}
use Rattle.pyramid.specs.Positions.{row_position}
use Rattle.pyramid.specs.RowCommand.{command_of, key_of}
use Rattle.pyramid.specs.Rows.{rows}

-- of a list of rows, those whose positions in group `number` are below the GOP's length
abbrev pub within : Numbers → ℕ → ℕ → List Row → List Row
within numbers length number rows =
    filter (λ row. nat_lt (row_position numbers number row) length) rows

-- the commands of a group
abbrev pub group : Numbers → ℕ → ℕ → ℕ → List Command
group numbers start length number =
    map (command_of numbers start number) (within numbers length number (rows numbers.depth))

-- the commands of the first `count` groups
abbrev pub groups : Numbers → ℕ → ℕ → ℕ → List Command
groups numbers start length zero = []
groups numbers start length (suc count) =
    groups numbers start length count ++ group numbers start length count

-- how many groups have a position below the GOP's length
abbrev pub group_count : Numbers → ℕ → ℕ
group_count numbers length = (length - 1 + (group_inputs numbers - 1)) / group_inputs numbers

-- the GOP of `length` inputs from input `start`
abbrev pub gop : Numbers → ℕ → ℕ → List Command
gop numbers start length = key_of start ∷ groups numbers start length (group_count numbers length)
