-- What a handle on a queue that threads share counts of its own calls.
use Rattle.std.specs.Prelude.{ℕ, Option, Some, None, Result, Ok, Err}
use Rattle.session_channels.specs.declared.errors.PutError.{PutError}
use Rattle.session_channels.specs.declared.errors.PutError.TheVariants.{Full, Closed, OutOfMemory}
use Rattle.session_channels.specs.declared.errors.TakeError.{TakeError}
use Rattle.session_channels.specs.declared.errors.TakeError.TheVariants.{Empty, Closed as Ended}
use Rattle.session_channels.specs.Queues.{Queue, next_count}

-- after a put that was answered so: the count of the refusal is one more
abbrev pub after_put : {M A : Type 0} → Queue → Result A (PutError M) → Queue
after_put queue (Ok done) = queue
after_put queue (Err (Full message)) =
    record queue { counts = record queue.counts { full = next_count queue.counts.full } }
after_put queue (Err (Closed message)) =
    record queue { counts = record queue.counts { closed = next_count queue.counts.closed } }
after_put queue (Err (OutOfMemory message)) =
    record queue { counts = record queue.counts { out_of_memory = next_count queue.counts.out_of_memory } }

-- after a take that was answered so
abbrev pub after_take : {M : Type 0} → Queue → Result M TakeError → Queue
after_take queue (Ok front) = queue
after_take queue (Err Empty) =
    record queue { counts = record queue.counts { empty = next_count queue.counts.empty } }
after_take queue (Err Ended) =
    record queue { counts = record queue.counts { closed = next_count queue.counts.closed } }

-- what the handle answers where the queue under the lock answered so: the same. A queue without a capacity is never full, but
-- that isn't known of what lies under a lock, so there a full one would be told as want of memory
abbrev pub told_put : {M A : Type 0} → Option ℕ → Result A (PutError M) → Result A (PutError M)
told_put capacity (Ok done) = Ok done
told_put (Some capacity) (Err (Full message)) = Err (Full message)
told_put None (Err (Full message)) = Err (OutOfMemory message)
told_put capacity (Err (Closed message)) = Err (Closed message)
told_put capacity (Err (OutOfMemory message)) = Err (OutOfMemory message)
