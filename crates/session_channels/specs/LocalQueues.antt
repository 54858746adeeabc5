-- The queue in memory, to the last count.
use Rattle.std.specs.Prelude.{ℕ, ◌≡◌, Bool, true, false, nat_le, IsTrue, IsFalse, List, [], ◌∷◌, ◌++◌, length, Option, Some, None, Result, Ok, Err}
use Rattle.session_channels.specs.declared.counts.Counts.{Counts}
use Rattle.session_channels.specs.declared.errors.PutError.{PutError}
use Rattle.session_channels.specs.declared.errors.PutError.TheVariants.{Full, Closed, OutOfMemory}
use Rattle.session_channels.specs.declared.errors.TakeError.{TakeError}
use Rattle.session_channels.specs.declared.errors.TakeError.TheVariants.{Empty, Closed as Ended}
use Rattle.session_channels.specs.declared.local_queue.LocalQueue.{LocalQueue}
use Rattle.session_channels.specs.Queues.{Queue, new_queue, next_count}

-- the messages in order, whether it is closed, and what every queue means
pub record Local (M : Type 0) : Type 0 where
  pub contents : List M
  pub is_closed : Bool
  pub queue : Queue

abbrev pub local_of : {M : Type 0} → LocalQueue M → Local M
local_of local = record {
  contents = local.messages.items;
  is_closed = local.closed;
  queue = record {
    capacity = local.capacity;
    counts = local.counts;
    closes = local.closes;
    at_close = local.at_close;
  };
}

abbrev pub new_local : {M : Type 0} → Option ℕ → Local M
new_local capacity = record {
  contents = [];
  is_closed = false;
  queue = new_queue capacity;
}

-- whether a queue with so many messages holds its capacity
abbrev pub is_reached : Option ℕ → ℕ → Bool
is_reached None messages = false
is_reached (Some capacity) messages = nat_le capacity messages

abbrev pub is_full : {M : Type 0} → Local M → Bool
is_full local = is_reached local.queue.capacity (length local.contents)

abbrev pub with_counts : {M : Type 0} → Local M → Counts → Local M
with_counts local counts = record local { queue = record local.queue { counts = counts } }

-- a put answers Closed where the queue is closed, else Full where it holds its capacity, else the message is put, unless
-- memory runs out
abbrev pub IsPut : {M A : Type 0} → Local M → M → Result A (PutError M) → Local M → Type 0
IsPut before message (Ok done) now =
    IsFalse before.is_closed × IsFalse (is_full before)
    × (now ≡ record before { contents = before.contents ++ message ∷ [] })
IsPut before message (Err (Full back)) now =
    IsFalse before.is_closed × IsTrue (is_full before) × (back ≡ message)
    × (now ≡ with_counts before (record before.queue.counts { full = next_count before.queue.counts.full }))
IsPut before message (Err (Closed back)) now =
    IsTrue before.is_closed × (back ≡ message)
    × (now ≡ with_counts before (record before.queue.counts { closed = next_count before.queue.counts.closed }))
IsPut before message (Err (OutOfMemory back)) now =
    IsFalse before.is_closed × IsFalse (is_full before) × (back ≡ message)
    × (now ≡ with_counts before (record before.queue.counts { out_of_memory = next_count before.queue.counts.out_of_memory }))

-- a take gives the front; where there is none it answers Closed if the queue counts as closed, else Empty
abbrev pub IsTake : {M : Type 0} → Bool → Local M → Result M TakeError → Local M → Type 0
IsTake closed before (Ok front) now = before ≡ record now { contents = front ∷ now.contents }
IsTake closed before (Err Empty) now =
    IsFalse closed × (before.contents ≡ [])
    × (now ≡ with_counts before (record before.queue.counts { empty = next_count before.queue.counts.empty }))
IsTake closed before (Err Ended) now =
    IsTrue closed × (before.contents ≡ [])
    × (now ≡ with_counts before (record before.queue.counts { closed = next_count before.queue.counts.closed }))

-- a closed queue keeps its messages
abbrev pub after_close : {M : Type 0} → Local M → Local M
after_close local = record local {
  is_closed = true;
  queue = record local.queue { closes = next_count local.queue.closes; at_close = local.queue.counts };
}
