use Rattle.std.proofs.Common.{◌≡◌, ◌^◌, rules, refl, subst, sym, ap, ◌∙◌, ℤ, pos, ◌+ℤ◌, ◌<ℤ◌, to_z, of_z, w32}
use Rattle.fixed_log.specs.Bessel.{Follower, with_delay}
use Rattle.rate_model.specs.Subtype.{SubtypeRate}
use Rattle.rate_model.specs.Measure.{with_longer_delay}
use Rattle.rate_model.proofs.subtype.SubtypeState.lengthen.Goals as goal

pub one_longer-delay-requires-clause-high : goal.one_longer-delay-requires-clause-high
one_longer-delay-requires-clause-high c =
    let below : c.self.inside.delay <ℤ pos (2 ^ 20) = subst (λ (s : SubtypeRate). s.delay <ℤ pos (2 ^ 20)) (sym c.self.view_is) c.requires in
    let is : to_z w32 (of_z w32 c.self.inside.delay) ≡ c.self.inside.delay = search rules in
    rw is below

made : (s : SubtypeRate) (delay : ℤ) (filter : Follower) → delay ≡ s.delay +ℤ pos 1 → filter ≡ with_delay delay s.filter
    → (record s { delay = delay; filter = filter }) ≡ with_longer_delay s
made s delay filter e f = rw (f, e) refl

pub returns : goal.returns
returns c =
    let e : to_z w32 (of_z w32 c.one_longer-delay.result) ≡ c.self.inside.delay +ℤ pos 1 = search rules in
    made (record { exponent = c.self.inside.exponent; log_scale = c.self.inside.log_scale; filter = c.self.inside.filter; delay = c.self.inside.delay; frames = c.self.inside.frames })
    (to_z w32 (of_z w32 c.one_longer-delay.result)) c.reinit.new.self e c.reinit.ensures.state
    ∙ ap with_longer_delay c.self.view_is
