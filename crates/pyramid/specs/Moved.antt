-- A plan as GOPs from input 0 that are moved to their starts.
use Rattle.std.specs.Prelude.{ℕ, ◌+◌, ◌-◌, List, map}
use Rattle.std.specs.List.{flat_map}
use Rattle.pyramid.specs.declared.command.Command.{Command}
use Rattle.pyramid.specs.declared.command.Command.TheVariants.{Code, Show}
use Rattle.pyramid.specs.Numbers.{Numbers}
use Rattle.pyramid.specs.Gop.{gop}
use Rattle.pyramid.specs.Plan.{start_after, starts}

-- the same command for an input that is `by` further on
abbrev pub moved : ℕ → Command → Command
moved by (Code frame kind refs refresh shown) = Code (by + frame) kind refs refresh shown
moved by (Show slot) = Show slot

-- each GOP of a plan, as the GOP of its length from input 0, with its inputs moved to its start
abbrev pub plan_of_moved : Numbers → ℕ → ℕ → List ℕ → List Command
plan_of_moved numbers interval frames keys =
    let length : ℕ → ℕ = λ start. start_after interval frames keys start - start in
    flat_map (λ start. map (moved start) (gop numbers 0 (length start))) (starts interval frames keys)
