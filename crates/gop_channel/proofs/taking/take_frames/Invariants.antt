use Rattle.std.proofs.Common.{◌≡◌, None, length, map}
use Rattle.gop_channel.specs.Messages.{TakesAll}
use Rattle.gop_channel.specs.Taking.{Took}
use Rattle.gop_channel.proofs.taking.take_frames.Given as goal

-- one frame was taken in each turn, and accepted
abbrev pub invariant-loop : goal.invariant-loop
invariant-loop g l =
    Took l.enc (TakesAll g.F.Take.contents g.F.Take.queue l.initial.queue l.queue) (map (λ frame. frame.value) l.frames.items) None
    × (length l.frames.items ≡ l.counter)
