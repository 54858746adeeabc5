use Rattle.std.proofs.Common.{◌≡◌, ◌++◌, drop}
use Rattle.std.specs.List.{enumerate_from}
use Rattle.generated_script.specs.Generated.{byte_counts_of}
use Rattle.generated_script.proofs.script.byte_counts.Given as goal

abbrev pub invariant-loop-frame : goal.invariant-loop-frame
invariant-loop-frame l =
    l.counts ++ byte_counts_of (enumerate_from l.frame (drop l.frame l.numbers)) ≡ byte_counts_of (enumerate_from 0 l.numbers)
