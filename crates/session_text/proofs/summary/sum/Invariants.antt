use Rattle.std.proofs.Common.{◌≡◌, ◌*◌, ◌≤◌, ◌^◌, take}
use Rattle.std.specs.Prelude.{sum}
use Rattle.session_text.proofs.summary.sum.Given as goal

abbrev pub invariant-loop-size : goal.invariant-loop-size
invariant-loop-size l = record {
  sum : l.sum ≡ sum (take l.size-index l.sizes);
  most : l.sum ≤ l.size-index * 2 ^ 64;
}
