use Rattle.std.proofs.Common.{◌≡◌, ℕ, List, Some, ◌+◌, sym, ap, ap₂, subst, ◌∙◌, arith}
use Rattle.gop_board.specs.declared.core_state.CoreStep.TheVariants.{Take, Deposit, Collect}
use Rattle.gop_board.specs.declared.core_state.Holding.{Holding}
use Rattle.gop_board.specs.Core.{Core, moved}
use Rattle.gop_board.specs.CoreFields.{core_of}
use Rattle.gop_board.specs.Places.{EachAtOnePlace}
use Rattle.gop_board.proofs.Moves.{collect_is, moving_keeps}
use Rattle.gop_board.proofs.core_state.CoreState.move_job.Goals as goal

pub invariant_of-self-in-Take : goal.invariant_of-self-in-Take
invariant_of-self-in-Take c =
    let core : Core = core_of c.self.inside in
    let found : moved core (Take c.in-Take.worker) ≡ Some c.args.job = ap₂ moved c.self.view_is (sym c.in-Take.is) ∙ c.requires in
    subst EachAtOnePlace
    (ap₂ (λ (queued : List ℕ) (held : List Holding). record core { queued = queued; held = held }) (sym c.pop_front.ensures.rest) (sym c.in_ok-push-in-Take.ensures.items))
    (moving_keeps core (Take c.in-Take.worker) c.args.job c.self.invariant found)

pub invariant_of-self-in-Deposit : goal.invariant_of-self-in-Deposit
invariant_of-self-in-Deposit c =
    let core : Core = core_of c.self.inside in
    let found : moved core (Deposit c.in-Deposit.worker) ≡ Some c.args.job = ap₂ moved c.self.view_is (sym c.in-Deposit.is) ∙ c.requires in
    subst EachAtOnePlace
    (ap₂ (λ (held : List Holding) (deposited : List ℕ). record core { held = held; deposited = deposited }) (sym c.let_go.ensures) (sym c.in_ok-push-in-Deposit.ensures.items))
    (moving_keeps core (Deposit c.in-Deposit.worker) c.args.job c.self.invariant found)

pub overflow_add-self-in-Collect : goal.overflow_add-self-in-Collect
overflow_add-self-in-Collect c =
    let core : Core = core_of c.self.inside in
    let found : moved core Collect ≡ Some c.args.job = ap₂ moved c.self.view_is (sym c.in-Collect.is) ∙ c.requires in
    omega (arith, (collect_is core c.args.job c.self.invariant found).1)

pub invariant_of-self-in-Collect : goal.invariant_of-self-in-Collect
invariant_of-self-in-Collect c =
    let core : Core = core_of c.self.inside in
    let found : moved core Collect ≡ Some c.args.job = ap₂ moved c.self.view_is (sym c.in-Collect.is) ∙ c.requires in
    subst EachAtOnePlace
    (ap (λ (deposited : List ℕ). record core { deposited = deposited; collected = core.collected + 1 }) (sym c.take_out.ensures))
    (moving_keeps core Collect c.args.job c.self.invariant found)
