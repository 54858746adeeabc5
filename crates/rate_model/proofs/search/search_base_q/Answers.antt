use Rattle.std.proofs.Common.{◌≡◌, ap, sym, ◌∙◌, ℤ, subst, rules}
use Rattle.rate_model.specs.declared.search.Search.{Search}
use Rattle.rate_model.specs.Search.{bits, bisection, IsCertified}
use Rattle.rate_model.proofs.SearchLaws.{certified, turns_enough, span_closes}
use Rattle.rate_model.proofs.search.search_base_q.Goals as goal

pub returns-clause-ended : goal.returns-clause-ended
returns-clause-ended c = λ more.
    let is : c.bisected.result ≡ bisection (bits c.args.model.now) c.args.budget 64 c.args.lo c.args.hi = search rules in
    turns_enough (bits c.args.model.now) c.args.budget 64 more c.args.lo c.args.hi (span_closes c.args.lo c.args.hi c.requires.lo c.requires.hi) ∙ sym is

pub returns-clause-certified : goal.returns-clause-certified
returns-clause-certified c =
    let is : c.bisected.result ≡ bisection (bits c.args.model.now) c.args.budget 64 c.args.lo c.args.hi = search rules in
    let h = certified (bits c.args.model.now) c.args.budget 64 c.args.lo c.args.hi (span_closes c.args.lo c.args.hi c.requires.lo c.requires.hi) in
    let P : ℤ → Type 0 = λ q. IsCertified (bits c.args.model.now) c.args.budget c.args.lo c.args.hi q in
    subst P (ap (λ (s : Search). s.value) (sym is)) h
