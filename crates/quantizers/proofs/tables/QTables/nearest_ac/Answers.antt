use Rattle.std.proofs.Common.{◌≡◌, length, rules, ap, ◌∙◌, to_z, of_z, w64}
use Rattle.quantizers.specs.Tables.{Tables}
use Rattle.quantizers.specs.Nearest.{nearest}
use Rattle.quantizers.proofs.TableFacts.{ac_rises}
use Rattle.quantizers.proofs.tables.QTables.nearest_ac.Goals as goal

pub nearest-requires : goal.nearest-requires
nearest-requires c =
    let len : length c.self.inside.ac ≡ 256 = search rules in
    ac_rises c.self.inside.ac c.self.inside.dc len c.self.invariant

pub returns : goal.returns
returns c =
    let q_is : to_z w64 (of_z w64 c.args.q) ≡ c.args.q = search rules in
    (rw q_is at c.nearest.ensures) ∙ ap (λ (t : Tables). nearest t.ac c.args.q) c.self.view_is
