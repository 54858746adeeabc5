-- What of a plan is known before the flush.
use Rattle.std.specs.Prelude.{ℕ, ◌+◌, ◌-◌, ◌*◌, ◌≤◌, Bool, true, false, ◌==◌, nat_lt, if◌then◌else◌, List, [], ◌∷◌, ◌++◌, map, take_while}
use Rattle.std.specs.List.{All, flat_map, range_with_len}
use Rattle.pyramid.specs.declared.command.Command.{Command}
use Rattle.pyramid.specs.declared.command.Command.TheVariants.{Code, Show}
use Rattle.pyramid.specs.Gop.{group, group_count}
use Rattle.pyramid.specs.Numbers.{Numbers, group_inputs, ahead}
use Rattle.pyramid.specs.Plan.{start_after, starts}
use Rattle.pyramid.specs.RowCommand.{key_of}

-- commands that become known together, once more than `needs` frames are accepted
pub record CodingUnit : Type 0 where
  pub needs : ℕ
  pub commands : List Command

-- a group of the GOP from `start` needs `ahead` frames behind its last position
abbrev pub group_needs : Numbers → ℕ → ℕ → ℕ
group_needs numbers start number = start + group_inputs numbers * (number + 1) + ahead numbers

abbrev pub group_unit : Numbers → ℕ → ℕ → ℕ → CodingUnit
group_unit numbers start length number =
    record { needs = group_needs numbers start number; commands = group numbers start length number }

-- the key behind a GOP of `count` groups is found where the GOP's next group would begin
abbrev pub key_unit : Numbers → ℕ → ℕ → ℕ → CodingUnit
key_unit numbers start count next =
    record { needs = group_needs numbers start count; commands = key_of next ∷ [] }

-- the groups of the GOP from `start`, and the key behind it
abbrev pub units_after : Numbers → ℕ → ℕ → List ℕ → ℕ → List CodingUnit
units_after numbers interval frames keys start =
    let next = start_after interval frames keys start in
    let count = group_count numbers (next - start) in
    map (group_unit numbers start (next - start)) (range_with_len 0 count)
    ++ (if nat_lt next frames then key_unit numbers start count next ∷ [] else [])

-- the first key needs `ahead` frames behind it
abbrev pub first_unit : Numbers → CodingUnit
first_unit numbers = record { needs = ahead numbers; commands = key_of 0 ∷ [] }

-- the units of a plan, in order
abbrev pub units : Numbers → ℕ → ℕ → List ℕ → List CodingUnit
units numbers interval frames keys =
    if frames == 0
    then []
    else first_unit numbers ∷ flat_map (units_after numbers interval frames keys) (starts interval frames keys)

-- the commands of the units before the first that needs more frames, where `frames` are accepted
abbrev pub known : Numbers → ℕ → ℕ → List ℕ → List Command
known numbers interval frames keys =
    let is_known : CodingUnit → Bool = λ unit. nat_lt unit.needs frames in
    flat_map (λ unit. unit.commands) (take_while is_known (units numbers interval frames keys))

-- none of these positions is decided where `frames` are accepted
abbrev pub AreUndecided : Numbers → ℕ → List ℕ → Type 0
AreUndecided numbers frames positions = All (λ position. frames ≤ position + ahead numbers) positions

-- whether a command codes a frame
abbrev pub is_coding : Command → Bool
is_coding (Code frame kind refs refresh shown) = true
is_coding (Show slot) = false
