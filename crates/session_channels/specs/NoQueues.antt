-- What stands where no queue is given.
use Rattle.std.specs.Prelude.{None}
use Rattle.coding_base.specs.Faults.{last_count}
use Rattle.session_channels.specs.declared.counts.Counts.{Counts}
use Rattle.session_channels.specs.Queues.{Queue, no_counts}

-- nothing that is put is refused: no count rises, and that of its closes stands at its last value
abbrev pub no_put : Queue
no_put = record { capacity = None; counts = no_counts; closes = last_count; at_close = no_counts }

-- each take is refused: each count stands at its last value
abbrev pub last_counts : Counts
last_counts = record { full = last_count; empty = last_count; closed = last_count; out_of_memory = last_count }

abbrev pub no_take : Queue
no_take = record { capacity = None; counts = last_counts; closes = last_count; at_close = last_counts }
