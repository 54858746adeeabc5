use Rattle.std.proofs.Common.{List, ◌∷◌, [], ◌++◌, ap, ◌∙◌, sym, subst, ◌<◌, ◌≤◌, ℕ}
use Rattle.pyramid.specs.declared.command.Command.{Command}
use Rattle.pyramid.proofs.GopSteps.{group_of-within, group_of-past, appended}
use Rattle.pyramid.proofs.plans.push_group.Goals as goal
use Rattle.pyramid.proofs.plans.push_group.Goals.{then-row_position-length+in_ok-push, else-row_position-length}

pub loop-row-preserved : goal.loop-row-preserved
loop-row-preserved c =
    let a = c.args in
    let items : List Command = c.loop-row.commands.items in
    elim c.if-row_position-length.branch [
      | then-row_position-length+in_ok-push w ↦
          let below = subst (λ (n : ℕ). n < a.length) c.row_position.ensures w.if-row_position-length.true in
          let grown = group_of-within a.cfg.now a.start a.length a.number c.rows-rows.result.now c.loop-row.row-index _ c.loop-row-test.true below in
          let pushed = ap (λ v. v.items) w.commands-is ∙ w.in_ok-push.ensures.items ∙ ap (λ (r : Command). items ++ r ∷ []) w.command_of.ensures in
          appended _ _ _ _ items _ pushed c.loop-row.invariant grown
      | else-row_position-length w ↦
          let past = subst (λ (n : ℕ). a.length ≤ n) c.row_position.ensures w.if-row_position-length.false in
          let same = group_of-past a.cfg.now a.start a.length a.number c.rows-rows.result.now c.loop-row.row-index _ c.loop-row-test.true past in
          ap (λ v. v.items) w.commands-is ∙ c.loop-row.invariant ∙ ap (λ (s : List Command). a.commands.now.items ++ s) (sym same)
    ]
