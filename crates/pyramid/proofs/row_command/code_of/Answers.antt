use Rattle.std.proofs.Common.{ℕ, sym, ap, ◌∙◌}
use Rattle.pyramid.specs.Levels.{level_of}
use Rattle.pyramid.proofs.LevelLemmas.{row-level}
use Rattle.pyramid.proofs.row_command.code_of.Goals as goal

pub refs_of-requires-clause-level : goal.refs_of-requires-clause-level
refs_of-requires-clause-level c =
    row-level c.args.cfg.now c.args.number c.args.row.now c.requires.row ∙ ap (λ (p : ℕ). level_of c.args.cfg.now.depth p) (sym c.row_position-position.ensures)
