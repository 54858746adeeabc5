use Rattle.std.proofs.Common.{◌≡◌, ◌∙◌, Bool, true, false, None, IfSome, ap, is_some, refl, rules}
use Rattle.std.specs.Bool.{then_some}
use Rattle.tests_of_queues.proofs.courses.course.Goals as goal

some-then : {A : Type 0} (on : Bool) (one : A) → is_some (then_some on one) ≡ on
some-then true one = refl
some-then false one = refl

holds-then : {A : Type 0} (on : Bool) (one : A) (Is : A → Type 0) → Is one → IfSome (then_some on one) Is
holds-then true one Is is = is
holds-then false one Is is = tt

pub drive-answer-requires-clause-fresh : goal.drive-answer-requires-clause-fresh
drive-answer-requires-clause-fresh g c κs within =
    let second = ap is_some c.then_some-second.ensures ∙ (some-then c.is_some.result _ ∙ c.is_some.ensures) in
    let first = ap is_some c.then_some-first.ensures ∙ some-then c.args.passes.now.first _ in
    rw (second, first) c.in_ok-inner.ensures

pub drive-answer-requires-clause-data_unlimited : goal.drive-answer-requires-clause-data_unlimited
drive-answer-requires-clause-data_unlimited g c κs within =
    let unlimited : c.new-pass_out.result.capacity ≡ None = search rules in
    rw c.then_some-first.ensures (holds-then c.args.passes.now.first _ (λ end. end.now.capacity ≡ None) unlimited)
