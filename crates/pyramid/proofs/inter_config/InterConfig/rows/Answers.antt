use Rattle.std.proofs.Common.{◌+◌, ◌^◌, length, sym, ap, ◌∙◌, subst, arith}
use Rattle.std.specs.List.{AllPass}
use Rattle.std.proofs.lemmas.List.Sums.{AllPass-from_list_all}
use Rattle.pyramid.specs.Numbers.{Numbers}
use Rattle.pyramid.specs.Rows.{rows, is_row, HasTable}
use Rattle.pyramid.proofs.DepthFacts.{shallow, few_inputs}
use Rattle.pyramid.proofs.Tables.{table}
use Rattle.pyramid.proofs.inter_config.InterConfig.rows.Goals as goal

pub returns-clause-value : goal.returns-clause-value
returns-clause-value c = c.rows.ensures ∙ ap (λ n. rows n.depth) c.self.view_is

pub returns-clause-count : goal.returns-clause-count
returns-clause-count c =
    ap length c.rows.ensures ∙ (table c.self.inside.depth c.self.invariant).size ∙ ap (λ n. 2 ^ n.depth + n.depth) c.self.view_is

pub returns-clause-each : goal.returns-clause-each
returns-clause-each c =
    let depth = c.self.inside.depth in
    let P : Numbers → Type 0 = λ n. AllPass (is_row n.depth) (rows depth) in
    let here : AllPass (is_row depth) (rows depth) = AllPass-from_list_all (is_row depth) (rows depth) (table depth c.self.invariant).all in
    subst (λ rs. AllPass (is_row c.args.self.now.depth) rs) (sym c.rows.ensures) (subst P c.self.view_is here)

pub returns-clause-few : goal.returns-clause-few
returns-clause-few c =
    let depth = c.self.inside.depth in
    let small = shallow depth c.self.invariant in
    omega (arith, ap length c.rows.ensures, (table depth c.self.invariant).size, small, few_inputs depth small)

pub returns-clause-table : goal.returns-clause-table
returns-clause-table c = subst (λ n. HasTable n.depth) c.self.view_is c.self.invariant
