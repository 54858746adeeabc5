-- What a source and a sink in memory hold.
use Rattle.std.specs.Prelude.{ℕ, ◌-◌, min, not, ◌==◌, ◌&&◌, ◌||◌, if◌then◌else◌, List, length, drop, Result, Ok, Err}
use Rattle.std.specs.List.{list_any}
use Rattle.byte_streams.specs.declared.source.Failed.{Failed}
use Rattle.byte_streams.specs.declared.source.MemSource.{MemSource}
use Rattle.byte_streams.specs.declared.sink.MemSink.{MemSink}
use Rattle.byte_streams.specs.Streams.{failed}

abbrev pub source_left : MemSource → List ℕ
source_left source = drop source.taken source.bytes

abbrev pub source_fails : MemSource → List ℕ
source_fails source = source.fails.items

abbrev pub source_faults : MemSource → ℕ
source_faults source = source.faults

abbrev pub source_calls : MemSource → ℕ
source_calls source = source.calls

-- what a read of so much room answers: a fault where the call's number is among those that are to fail, else what
-- there is and fits
abbrev pub source_answer : MemSource → ℕ → Result ℕ Failed
source_answer source room =
    if list_any (λ call. call == source.calls) source.fails.items
    then Err failed
    else Ok (min (length (source_left source)) room)

abbrev pub sink_held : MemSink → List ℕ
sink_held sink = sink.held.items

abbrev pub sink_room : MemSink → ℕ
sink_room sink = sink.room

abbrev pub sink_fails : MemSink → List ℕ
sink_fails sink = sink.fails.items

abbrev pub sink_faults : MemSink → ℕ
sink_faults sink = sink.faults

abbrev pub sink_calls : MemSink → ℕ
sink_calls sink = sink.calls

-- how much of a piece fits
abbrev pub fitting : MemSink → List ℕ → ℕ
fitting sink piece = min (length piece) (sink.room - length sink.held.items)

-- what a write of a piece answers: a fault where the call's number is among those that are to fail, or where nothing of
-- a piece that isn't empty fits; else what fits
abbrev pub sink_answer : MemSink → List ℕ → Result ℕ Failed
sink_answer sink piece =
    if list_any (λ call. call == sink.calls) sink.fails.items
    || (fitting sink piece == 0 && not (length piece == 0))
    then Err failed
    else Ok (fitting sink piece)
