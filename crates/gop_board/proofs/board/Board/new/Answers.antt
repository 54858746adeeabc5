use Rattle.std.proofs.Common.{◌≡◌, None, ap, ◌∙◌, arith}
use Rattle.std.specs.Prelude.{ℕ, replicate}
use Rattle.gop_board.proofs.NewRows.{new-row}
use Rattle.gop_board.proofs.board.Board.new.Goals as goal

pub invariant_of-result : goal.invariant_of-result
invariant_of-result g c =
    let all : c.loop.counter ≡ c.args.jobs = omega arith in
    new-row _ _ _ _ c.requires (c.loop.invariant ∙ ap (λ (n : ℕ). replicate n None) all)

pub returns : goal.returns
returns g c =
    let all : c.loop.counter ≡ c.args.jobs = omega arith in
    ap (λ entries. record { entries = entries; collected = 0 }) (c.loop.invariant ∙ ap (λ (n : ℕ). replicate n None) all)
