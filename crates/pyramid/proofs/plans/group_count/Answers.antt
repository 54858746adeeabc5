use Rattle.std.proofs.Common.{ℕ, ◌+◌, ◌-◌, ◌/◌, ◌%◌, ◌^◌, min, ap, ◌∙◌}
use Rattle.std.proofs.lemmas.Nat.{pow_pos}
use Rattle.pyramid.proofs.GroupCount.{ceil-is}
use Rattle.pyramid.proofs.plans.group_count.Goals as goal

pub returns-clause-value : goal.returns-clause-value
returns-clause-value c =
    c.div_ceil.ensures
    ∙ ap (λ (n : ℕ). (c.args.length - 1) / n + min 1 ((c.args.length - 1) % n)) c.group_inputs.ensures.value
    ∙ ceil-is (c.args.length - 1) (2 ^ c.args.cfg.now.depth) (pow_pos c.args.cfg.now.depth)
