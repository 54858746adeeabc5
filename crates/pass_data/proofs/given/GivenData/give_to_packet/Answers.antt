use Rattle.std.proofs.Common.{◌≡◌, ◌≤◌, ◌<◌, nat_lt, true, false, length, ap, sym, ◌∙◌, arith, is_some, List, ℕ}
use Rattle.pass_stats.specs.Metric.{subtype_at}
use Rattle.pass_data.specs.Given.{goal_by, metrics_at}
use Rattle.pass_data.proofs.WholeLaws.{still_short, packet_refused, packet_taken, told_taken, told_refused}
use Rattle.pass_data.proofs.given.GivenData.give_to_packet.Goals as goal

pub returns-then-held-lt8 : goal.returns-then-held-lt8
returns-then-held-lt8 c =
    let there : is_some c.self.inside.header ≡ true = rw (← c.self.view_is) at c.requires in
    let short : length c.fill-taken.new.self < 8 = omega (arith, c.held.ensures.number) in
    rw (← c.self.view_is) (still_short 8 c.fill-taken.result c.args.bytes.now c.fill-taken.new.self _
    (record { size_is = ap goal_by there; number = c.fill-taken.ensures.number; joined = c.fill-taken.ensures.joined }) short)

pub returns-in-Err : goal.returns-in-Err
returns-in-Err c =
    let there : is_some c.self.inside.header ≡ true = rw (← c.self.view_is) at c.requires in
    let whole : 8 ≤ length c.fill-taken.new.self = omega (arith, c.held.ensures.number) in
    let packet : c.eight.result ≡ c.fill-taken.new.self = c.eight.ensures ∙ c.as_slice.ensures in
    let test : nat_lt 4 (subtype_at c.fill-taken.new.self) ≡ true = ap (λ (xs : List ℕ). nat_lt 4 (subtype_at xs)) (sym packet) ∙ c.in-Err.ensures.0 in
    rw (← c.self.view_is, c.in-Err.ensures.1, packet) (packet_refused c.fill-taken.result c.args.bytes.now c.fill-taken.new.self c.take.new.self _ there
    (record { size_is = ap goal_by there; number = c.fill-taken.ensures.number; joined = c.fill-taken.ensures.joined }) whole c.take.ensures test)

pub returns-in-Ok-take_metrics : goal.returns-in-Ok-take_metrics
returns-in-Ok-take_metrics c =
    let there : is_some c.self.inside.header ≡ true = rw (← c.self.view_is) at c.requires in
    let whole : 8 ≤ length c.fill-taken.new.self = omega (arith, c.held.ensures.number) in
    let packet : c.eight.result ≡ c.fill-taken.new.self = c.eight.ensures ∙ c.as_slice.ensures in
    let test : nat_lt 4 (subtype_at c.fill-taken.new.self) ≡ false = ap (λ (xs : List ℕ). nat_lt 4 (subtype_at xs)) (sym packet) ∙ c.in-Ok.ensures.0 in
    let is : c.in-Ok.m ≡ metrics_at c.fill-taken.new.self = c.in-Ok.ensures.1 ∙ ap metrics_at packet in
    rw (← c.self.view_is) (packet_taken c.fill-taken.result c.args.bytes.now c.fill-taken.new.self c.take.new.self c.in-Ok.m (record { bytes = c.self.inside.bytes; header = c.self.inside.header; left = c.self.inside.left; is_finite = c.self.inside.is_finite; window = c.self.inside.window; next = c.self.inside.next }) c.take_metrics.new.self _ _ there
    (record { size_is = ap goal_by there; number = c.fill-taken.ensures.number; joined = c.fill-taken.ensures.joined }) whole c.take.ensures test is
    c.in-Ok-take_metrics.ensures (told_taken c.fill-taken.result))

pub returns-in-Err-take_metrics : goal.returns-in-Err-take_metrics
returns-in-Err-take_metrics c =
    let there : is_some c.self.inside.header ≡ true = rw (← c.self.view_is) at c.requires in
    let whole : 8 ≤ length c.fill-taken.new.self = omega (arith, c.held.ensures.number) in
    let packet : c.eight.result ≡ c.fill-taken.new.self = c.eight.ensures ∙ c.as_slice.ensures in
    let test : nat_lt 4 (subtype_at c.fill-taken.new.self) ≡ false = ap (λ (xs : List ℕ). nat_lt 4 (subtype_at xs)) (sym packet) ∙ c.in-Ok.ensures.0 in
    let is : c.in-Ok.m ≡ metrics_at c.fill-taken.new.self = c.in-Ok.ensures.1 ∙ ap metrics_at packet in
    rw (← c.self.view_is) (packet_taken c.fill-taken.result c.args.bytes.now c.fill-taken.new.self c.take.new.self c.in-Ok.m (record { bytes = c.self.inside.bytes; header = c.self.inside.header; left = c.self.inside.left; is_finite = c.self.inside.is_finite; window = c.self.inside.window; next = c.self.inside.next }) c.take_metrics.new.self _ _ there
    (record { size_is = ap goal_by there; number = c.fill-taken.ensures.number; joined = c.fill-taken.ensures.joined }) whole c.take.ensures test is
    c.in-Err-take_metrics.ensures (told_refused c.fill-taken.result c.in-Err-take_metrics.e))
