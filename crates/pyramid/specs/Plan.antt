-- Where GOPs start, and the commands of a whole session.
use Rattle.std.specs.Prelude.{ℕ, ◌+◌, ◌-◌, min, nat_lt, if◌then◌else◌, List, [], ◌∷◌, slice_index_or}
use Rattle.std.specs.List.{flat_map}
use Rattle.std.proofs.Common.{zero, suc}
use Rattle.pyramid.specs.declared.command.Command.{Command}
use Rattle.pyramid.specs.Numbers.{Numbers}
use Rattle.pyramid.specs.Gop.{gop}

-- the first key above a start, or `frames`
abbrev pub key_above : ℕ → List ℕ → ℕ → ℕ
key_above frames [] start = frames
key_above frames (key ∷ keys) start = if nat_lt start key then key else key_above frames keys start

-- the first of the keys, or `frames`
abbrev pub first_or : ℕ → List ℕ → ℕ
first_or frames keys = slice_index_or keys 0 frames

-- the start after `start`, or `frames`: the first key above it, and at most an interval on
abbrev pub start_after : ℕ → ℕ → List ℕ → ℕ → ℕ
start_after interval frames keys start =
    min (key_above frames keys start) (min (start + interval) frames)

-- the first `count` starts from `start` on that are below `frames`
abbrev pub starts_from : ℕ → ℕ → List ℕ → ℕ → ℕ → List ℕ
starts_from interval frames keys zero start = []
starts_from interval frames keys (suc count) start =
    if nat_lt start frames
    then start ∷ starts_from interval frames keys count (start_after interval frames keys start)
    else []

-- where the GOPs of `frames` inputs start; no two are nearer than one
abbrev pub starts : ℕ → ℕ → List ℕ → List ℕ
starts interval frames keys = starts_from interval frames keys frames 0

-- the GOP that starts there
abbrev pub gop_at : Numbers → ℕ → ℕ → List ℕ → ℕ → List Command
gop_at numbers interval frames keys start =
    gop numbers start (start_after interval frames keys start - start)

-- the commands that a session of `frames` inputs with these key decisions is to code
abbrev pub plan : Numbers → ℕ → ℕ → List ℕ → List Command
plan numbers interval frames keys =
    flat_map (gop_at numbers interval frames keys) (starts interval frames keys)
