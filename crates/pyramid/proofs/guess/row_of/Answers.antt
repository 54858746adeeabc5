use Rattle.std.proofs.Common.{◌≡◌, ℕ, ◌/◌, ◌%◌, ap, ap₂, ◌∙◌, arith}
use Rattle.std.proofs.lemmas.Nat.{mod_below}
use Rattle.pyramid.specs.declared.rows.Row.{Row}
use Rattle.pyramid.specs.Positions.{row_position, index_of, position_of}
use Rattle.pyramid.specs.Rows.{row_at}
use Rattle.pyramid.proofs.GuessSteps.{row_level, position-near}
use Rattle.pyramid.proofs.guess.row_of.Goals as goal

pub returns-clause-level : goal.returns-clause-level
returns-clause-level c =
    let behind = c.saturating_sub-behind_key.result in
    let places = c.group_places.result in
    let within = mod_below behind places c.group_places.ensures.some in
    omega (arith, ap (λ (r : Row). r.level) c.row-row.ensures.value, row_level c.args.cfg.now.depth (behind % places) c.row-row.ensures.table (omega (arith, within, c.group_places.ensures.value)))

pub returns-clause-position : goal.returns-clause-position
returns-clause-position c =
    let numbers = c.args.cfg.now in
    let index = ap₂ (λ (a b : ℕ). a % b) c.saturating_sub-behind_key.ensures c.group_places.ensures.value in
    let group = ap₂ (λ (a b : ℕ). a / b) c.saturating_sub-behind_key.ensures c.group_places-2.ensures.value in
    let same : c.row_position.result ≡ position_of numbers c.args.place (index_of numbers c.args.place) =
    c.row_position.ensures ∙ ap₂ (λ (g : ℕ) (r : Row). row_position numbers g r) group (c.row-row.ensures.value ∙ ap (row_at numbers.depth) index) in
    omega (arith, same, position-near numbers c.args.place c.row-row.ensures.table)
