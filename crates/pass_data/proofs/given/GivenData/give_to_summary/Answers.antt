use Rattle.std.proofs.Common.{◌≡◌, ◌≤◌, ◌<◌, false, length, take, ap, sym, ◌∙◌, arith, subst, is_some, List, ℕ}
use Rattle.std.specs.Prelude.{Some, None}
use Rattle.pass_stats.specs.Summary.{Spells, first_met}
use Rattle.pass_data.specs.Given.{goal_by, refusal_by}
use Rattle.pass_data.proofs.WholeLaws.{still_short, summary_refused, summary_taken}
use Rattle.pass_data.proofs.given.GivenData.give_to_summary.Goals as goal

pub returns-then-held-lt68 : goal.returns-then-held-lt68
returns-then-held-lt68 c =
    let absent : is_some c.self.inside.header ≡ false = rw (← c.self.view_is) at c.requires in
    let short : length c.fill-taken.new.self < 68 = omega (arith, c.held.ensures.number) in
    rw (← c.self.view_is) (still_short 68 c.fill-taken.result c.args.bytes.now c.fill-taken.new.self _
    (record { size_is = ap goal_by absent; number = c.fill-taken.ensures.number; joined = c.fill-taken.ensures.joined }) short)

pub returns-in-Err : goal.returns-in-Err
returns-in-Err c =
    let absent : is_some c.self.inside.header ≡ false = rw (← c.self.view_is) at c.requires in
    let whole : 68 ≤ length c.fill-taken.new.self = omega (arith, c.held.ensures.number) in
    let why : refusal_by (first_met c.fill-taken.new.self) ≡ Some c.in-Err.e =
    ap (λ (xs : List ℕ). refusal_by (first_met xs)) (sym c.as_slice.ensures) ∙ c.in-Err.ensures in
    rw (← c.self.view_is) (summary_refused c.fill-taken.result c.args.bytes.now c.fill-taken.new.self c.take.new.self c.in-Err.e _ absent
    (record { size_is = ap goal_by absent; number = c.fill-taken.ensures.number; joined = c.fill-taken.ensures.joined }) whole c.take.ensures why)

pub returns-in-Ok : goal.returns-in-Ok
returns-in-Ok c =
    let absent : is_some c.self.inside.header ≡ false = rw (← c.self.view_is) at c.requires in
    let whole : 68 ≤ length c.fill-taken.new.self = omega (arith, c.held.ensures.number) in
    let unfinished : length c.self.inside.bytes < goal_by (is_some c.self.inside.header) = c.self.invariant.unfinished in
    let met : first_met c.fill-taken.new.self ≡ None = ap first_met (sym c.as_slice.ensures) ∙ c.in-Ok.ensures.0 in
    let spelled : Spells (take 68 c.fill-taken.new.self) c.in-Ok.s.ntus c.in-Ok.s.nframes c.in-Ok.s.exp c.in-Ok.s.scale_sum =
    subst (λ (xs : List ℕ). Spells (take 68 xs) c.in-Ok.s.ntus c.in-Ok.s.nframes c.in-Ok.s.exp c.in-Ok.s.scale_sum) c.as_slice.ensures c.in-Ok.ensures.1 in
    rw (← c.self.view_is) (summary_taken c.fill-taken.result c.args.bytes.now c.fill-taken.new.self c.take.new.self c.in-Ok.s.ntus c.in-Ok.s.nframes c.in-Ok.s.exp
    c.in-Ok.s.scale_sum c.in-Ok.s.total (record { bytes = c.self.inside.bytes; header = c.self.inside.header; left = c.self.inside.left; is_finite = c.self.inside.is_finite; window = c.self.inside.window; next = c.self.inside.next }) c.set_up.new.self absent
    (record { size_is = ap goal_by absent; number = c.fill-taken.ensures.number; joined = c.fill-taken.ensures.joined }) whole unfinished met spelled c.in-Ok.ensures.2 c.set_up.ensures)
