use Rattle.std.proofs.Common.{◌≡◌, ◌++◌, ◌-◌}
use Rattle.generated_script.specs.Numbers.{numbers_after}
use Rattle.generated_script.proofs.numbers.numbers_after.Given as goal

abbrev pub invariant-loop-done : goal.invariant-loop-done
invariant-loop-done l =
    l.numbers.items ++ numbers_after l.last (l.count - l._done) ≡ numbers_after l.seed l.count
