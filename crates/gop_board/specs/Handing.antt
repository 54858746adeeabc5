-- How job numbers are handed out: what a pass of the queue did, and the rule over the queue
-- and all passes.
use Rattle.std.specs.Prelude.{ℕ, ◌≡◌, ◌+◌, ◌≤◌, ◌<◌, true, false, nat_lt, if◌then◌else◌, ◌==◌, List, [], ◌∷◌, ◌++◌, length, All, count_by, sum_by, Option, None, Some}
use Rattle.std.specs.List.{range_with_len}
use mathlib.Core.Option.{some}
use lib.ListN.{get_elem?}
use Rattle.atomic_table.specs.Seated.{TableId}
use Rattle.coding_base.specs.Faults.{last_count}
use Rattle.gop_board.specs.declared.job_queue.Part.{Part}

-- ---- what contracts see

-- a queue of job numbers: which one it is, and the number of jobs that it was made for
pub record Queue : Type 0 where
  pub id : TableId
  pub jobs : ℕ

-- a pass: the queue that it belongs to, what it did, and how many of its pops answered None
pub record Passing : Type 0 where
  pub queue : Queue
  pub part : Part
  pub misses : ℕ

-- the pass that a queue is made with: it makes the pushes
abbrev pub first_part : ℕ → Part
first_part jobs = record {
  live = true;
  jobs = jobs;
  pushes = true;
  pushed = 0;
  popped = [];
  joined = [];
  was_split = false;
}

-- a pass that is split off
abbrev pub other_part : ℕ → Part
other_part jobs = record (first_part jobs) { pushes = false }

-- a pass that is gone, since it was joined into another
abbrev pub spent_part : Part
spent_part = record (other_part 0) { live = false }

abbrev pub pushed_one : Part → Part
pushed_one part = record part { pushed = part.pushed + 1 }

abbrev pub popped_one : Part → ℕ → Part
popped_one part number = record part { popped = part.popped ++ number ∷ [] }

-- the pass after a pop; the count of answers None stops at its last value
abbrev pub after_pop : Passing → Option ℕ → Passing
after_pop pass None = record pass {
  misses = if nat_lt pass.misses last_count then pass.misses + 1 else pass.misses;
}
after_pop pass (Some number) = record pass { part = popped_one pass.part number }

-- a pass with what another gave that is joined into it
abbrev pub joined_with : Part → Part → Part
joined_with part other = record part { joined = part.joined ++ other.popped ++ other.joined }

-- the numbers that a pass gave, or one that was joined into it
abbrev pub given : Part → List ℕ
given part = part.popped ++ part.joined

abbrev pub times : ℕ → List ℕ → ℕ
times number numbers = count_by (λ one. one == number) numbers

-- the first pass, while none was split off from it
pub record IsAlone (part : Part) : Type 0 where
  pub pushes : part.pushes ≡ true
  pub whole : part.was_split ≡ false

-- what is known of a number that a pop of this pass gives, from a queue for so many jobs: it is
-- that of a job, and greater than those that it gave before; where the pass makes the pushes it
-- was pushed, and the first pass alone is given 0, 1, ..
pub record IsGiven (jobs : ℕ) (part : Part) (number : ℕ) : Type 0 where
  pub below : number < jobs
  pub rises : All (λ earlier. earlier < number) part.popped
  pub put : part.pushes ≡ true → number < part.pushed
  pub next : IsAlone part → number ≡ length part.popped

-- ---- the rule

-- no pass but that of this seat isn't gone
abbrev pub Only : List Part → ℕ → Type 0
Only parts seat =
    (other : ℕ) (view : Part) → get_elem? parts other ≡ some view → view.live ≡ true → other ≡ seat

-- one of the passes, where `out` came out of the queue and it holds these items: it knows the
-- number of jobs; if it makes the pushes it is the only one, and made them all; and if besides
-- none was split off from it, it took all that came out, and all others are gone
pub record IsPart (out items : List ℕ) (jobs pusher : ℕ) (parts : List Part) (seat : ℕ)
    (part : Part) : Type 0 where
  pub jobs_of : part.jobs ≡ jobs
  pub one : part.pushes ≡ true → seat ≡ pusher
  pub all : part.pushes ≡ true → part.pushed ≡ length out + length items
  pub took : IsAlone part → part.popped ≡ out
  pub only : IsAlone part → Only parts seat

-- what came out of the queue, followed by what it holds, is 0, 1, .. in order; what came out was
-- given by the passes, each number as often as it came out
pub record InOrder (items : List ℕ) (parts : List Part) : Type 0 where
  pub out : List ℕ
  pub jobs : ℕ
  pub pusher : ℕ
  pub order : out ++ items ≡ range_with_len 0 (length out + length items)
  pub within : length out + length items ≤ jobs
  pub once : (number : ℕ) → sum_by (λ part. times number (given part)) parts ≡ times number out
  pub each : (seat : ℕ) (part : Part) → get_elem? parts seat ≡ some part → part.live ≡ true →
      IsPart out items jobs pusher parts seat part

-- ---- what a pass learns of what its queue holds at one moment

-- what came out before is what makes 0, 1, .. with it; all that the pass gave is among that; if
-- the pass makes the pushes it made all that came out or is held; the first pass alone took it all
pub record IsHeld (jobs : ℕ) (part : Part) (items : List ℕ) : Type 0 where
  pub out : List ℕ
  pub order : out ++ items ≡ range_with_len 0 (length out + length items)
  pub within : length out + length items ≤ jobs
  pub once : (number : ℕ) → times number (given part) ≤ times number out
  pub all : part.pushes ≡ true → part.pushed ≡ length out + length items
  pub took : IsAlone part → part.popped ≡ out

-- at one moment the queue held nothing
abbrev pub WasEmpty : ℕ → Part → Type 0
WasEmpty jobs part = IsHeld jobs part []
