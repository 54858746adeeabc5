-- Words for sources and sinks, whose bytes are known where they are told: what was read, and what was written.
use Rattle.std.specs.Prelude.{◌≡◌, ⊤, ℕ, ◌+◌, ◌-◌, ◌<◌, ◌≤◌, List, [], ◌++◌, length, take, drop, Option, None, Some}
use Rattle.byte_streams.specs.declared.source.Failed.{Failed}

-- the one fault
abbrev pub failed : Failed
failed = record {}

-- a front of what a source has left was taken, of at most so many bytes
abbrev pub TakesAtMost : ℕ → Option (List ℕ) → Option (List ℕ) → Type 0
TakesAtMost most None after = ⊤
TakesAtMost most (Some before) None = ⊥
TakesAtMost most (Some before) (Some after) =
    (length before - length after ≤ most) × (after ≡ drop (length before - length after) before)

-- the source was read to its end, its bytes are at most so many, and they meet this
abbrev pub ReadsAll : ℕ → Option (List ℕ) → Option (List ℕ) → (List ℕ → Type 0) → Type 0
ReadsAll limit None after P = ⊤
ReadsAll limit (Some bytes) after P = (after ≡ Some []) × (length bytes ≤ limit) × P bytes

-- the source has more bytes than the limit, and one more than that was taken
abbrev pub IsTooLong : ℕ → Option (List ℕ) → Option (List ℕ) → Type 0
IsTooLong limit None after = ⊤
IsTooLong limit (Some before) None = ⊥
IsTooLong limit (Some before) (Some after) =
    (limit < length before) × (after ≡ drop (limit + 1) before)

-- what a sink holds grew by a front of the text
abbrev pub GrowsByPart : Option (List ℕ) → Option (List ℕ) → List ℕ → Type 0
GrowsByPart None after text = ⊤
GrowsByPart (Some before) None text = ⊥
GrowsByPart (Some before) (Some after) text =
    after ≡ before ++ take (length after - length before) text
