use Rattle.std.proofs.Common.{◌≡◌, ◌^◌, ◌-◌, pos, negsuc, ◌≤ℤ◌}
use Rattle.rate_model.specs.Search.{bits, bisection}
use Rattle.rate_model.proofs.SearchLaws.{Continues}
use Rattle.rate_model.proofs.search.bisected.Given as goal

abbrev pub invariant-loop-turn : goal.invariant-loop-turn
invariant-loop-turn l = record {
  low : negsuc (2 ^ 62 - 1) ≤ℤ l.span.lo;
  high : l.span.hi ≤ℤ pos (2 ^ 62);
  last : l.last.bits ≡ bits l.model l.last.base;
  search : Continues (bits l.model) l.budget (bisection (bits l.model) l.budget 64 l.lo l.hi) l.turn l.span.lo l.span.hi;
}
