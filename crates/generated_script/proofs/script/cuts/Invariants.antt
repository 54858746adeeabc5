use Rattle.std.proofs.Common.{◌≡◌, ◌++◌, drop}
use Rattle.std.specs.List.{enumerate_from}
use Rattle.generated_script.specs.Generated.{cuts_of}
use Rattle.generated_script.proofs.script.cuts.Given as goal

abbrev pub invariant-loop-frame : goal.invariant-loop-frame
invariant-loop-frame l =
    l.cuts ++ cuts_of (enumerate_from l.frame (drop l.frame l.numbers)) ≡ cuts_of (enumerate_from 0 l.numbers)
