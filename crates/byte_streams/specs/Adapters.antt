-- The counts of the adapters over readers and writers.
use Rattle.std.specs.Prelude.{ℕ}
use Rattle.byte_streams.specs.declared.standard.Reading.{Reading}
use Rattle.byte_streams.specs.declared.standard.Writing.{Writing}

abbrev pub reading_faults : {R : Type 0} → Reading R → ℕ
reading_faults source = source.faults

abbrev pub writing_faults : {W : Type 0} → Writing W → ℕ
writing_faults sink = sink.faults
