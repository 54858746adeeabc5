use Rattle.std.proofs.Common.{◌≡◌, ◌+◌, ◌-◌, ◌++◌, ◌∷◌, [], arith}
use Rattle.generated_script.specs.Numbers.{numbers_after}
use Rattle.generated_script.proofs.NumberSteps.{numbers_done, numbers_more}
use Rattle.generated_script.proofs.numbers.numbers_after.Goals as goal

pub loop-done-preserved : goal.loop-done-preserved
loop-done-preserved c =
    let made = c.loop-done.numbers.items in
    let more = c.push.new.self.items in
    let next = c.next_number-last.result in
    let done = c.loop-done._done in
    let pushed : more ≡ made ++ next ∷ [] = rw c.in_ok-push.was at c.push.ensures.items in
    numbers_more made more (numbers_after c.args.seed c.args.count) c.loop-done.last next (c.args.count - done) (c.args.count - (done + 1))
    c.loop-done.invariant (omega arith) c.next_number-last.ensures pushed

pub returns : goal.returns
returns c =
    numbers_done c.loop-done.numbers.items (numbers_after c.args.seed c.args.count) c.loop-done.last (c.args.count - c.loop-done._done)
    c.loop-done.invariant (omega arith)
