use Rattle.std.proofs.Common.{◌≡◌, ◌+◌, ◌<◌, ◌≤◌, true, false, length, drop, List, ℕ, ℤ, sym, ◌∙◌, ap, arith, rules, inl, inr, to_z, of_z, w32}
use Rattle.std.specs.Int.{w128}
use Rattle.pass_data.specs.Pieces.{given_bytes, further, part, answer, wants}
use Rattle.pass_data.proofs.PieceLaws.{step_taken, step_refused, step_ended}
use Rattle.pass_data.proofs.given.GivenData.give_all.Goals as goal

abbrev delay_of : ℤ → ℤ
delay_of z = to_z w32 (of_z w32 z)

abbrev commands_of : ℤ → ℤ
commands_of z = to_z w128 (of_z w128 z)

taken : (c : goal.In-Ok)
    → (given_bytes (delay_of c.args.delay) (commands_of c.args.commands) c.args.bytes.now c.args.self.now
    ≡ further (c.loop-taken.taken + c.in-Ok.n) (given_bytes (delay_of c.args.delay) (commands_of c.args.commands) (drop (c.loop-taken.taken + c.in-Ok.n) c.args.bytes.now) c.give_part.new.self))
    × (c.loop-taken.taken + c.in-Ok.n ≤ length c.args.bytes.now) × (c.loop-taken.taken < c.loop-taken.taken + c.in-Ok.n)
taken c =
    let bytes = c.args.bytes.now in
    let rest : c.bytes_from.result.now ≡ drop c.loop-taken.taken bytes = c.bytes_from.ensures in
    let wanted : wants (delay_of c.args.delay) (commands_of c.args.commands) c.loop-taken.self ≡ true = sym c.wants.ensures ∙ c.if-wants.true in
    step_taken (delay_of c.args.delay) (commands_of c.args.commands) bytes c.loop-taken.taken c.in-Ok.n c.args.self.now c.loop-taken.self c.give_part.new.self
    c.loop-taken.invariant.so_far wanted c.in-Ok.ensures.unfinished c.loop-taken-test.true
    (c.in-Ok.ensures.part.0 ∙ ap (λ (xs : List ℕ). (part xs c.loop-taken.self).given) rest)
    (c.in-Ok.ensures.part.1 ∙ ap (λ (xs : List ℕ). answer (part xs c.loop-taken.self)) rest)

pub overflow_add-taken : goal.overflow_add-taken
overflow_add-taken c =
    let t = taken c in
    let fits = t.1 in
    record { fits = omega arith }

pub loop-taken-smaller : goal.loop-taken-smaller
loop-taken-smaller c =
    let t = taken c in
    let fits = t.1 in
    let more = t.2 in
    omega arith

pub loop-taken-preserved : goal.loop-taken-preserved
loop-taken-preserved c = let t = taken c in record { within = t.1; so_far = t.0 }

pub returns-in-Err : goal.returns-in-Err
returns-in-Err c =
    let delay_is : delay_of c.args.delay ≡ c.args.delay = search rules in
    let commands_is : commands_of c.args.commands ≡ c.args.commands = search rules in
    let bytes = c.args.bytes.now in
    let rest : c.bytes_from.result.now ≡ drop c.loop-taken.taken bytes = c.bytes_from.ensures in
    let wanted : wants (delay_of c.args.delay) (commands_of c.args.commands) c.loop-taken.self ≡ true = sym c.wants.ensures ∙ c.if-wants.true in
    let all = step_refused (delay_of c.args.delay) (commands_of c.args.commands) bytes c.loop-taken.taken c.in-Err.e c.args.self.now c.loop-taken.self c.give_part.new.self
    c.loop-taken.invariant.so_far wanted c.in-Err.ensures.unfinished c.loop-taken-test.true
    (c.in-Err.ensures.part.0 ∙ ap (λ (xs : List ℕ). (part xs c.loop-taken.self).given) rest)
    (c.in-Err.ensures.part.1 ∙ ap (λ (xs : List ℕ). answer (part xs c.loop-taken.self)) rest) in
    rw (delay_is, commands_is) at all

pub returns-else-wants : goal.returns-else-wants
returns-else-wants c =
    let delay_is : delay_of c.args.delay ≡ c.args.delay = search rules in
    let commands_is : commands_of c.args.commands ≡ c.args.commands = search rules in
    let unwanted : wants (delay_of c.args.delay) (commands_of c.args.commands) c.loop-taken.self ≡ false = sym c.wants.ensures ∙ c.if-wants.false in
    let all = step_ended (delay_of c.args.delay) (commands_of c.args.commands) c.args.bytes.now c.loop-taken.taken c.args.self.now c.loop-taken.self
    c.loop-taken.invariant.so_far (inr unwanted) in
    rw (delay_is, commands_is) at all

pub returns-after-loop-taken : goal.returns-after-loop-taken
returns-after-loop-taken c =
    let delay_is : delay_of c.args.delay ≡ c.args.delay = search rules in
    let commands_is : commands_of c.args.commands ≡ c.args.commands = search rules in
    let all = step_ended (delay_of c.args.delay) (commands_of c.args.commands) c.args.bytes.now c.loop-taken.taken c.args.self.now c.loop-taken.self
    c.loop-taken.invariant.so_far (inl c.loop-taken-test.false) in
    rw (delay_is, commands_is) at all
