use Rattle.std.proofs.Common.{◌*◌, ◌^◌, ◌≤◌, refl, arith}
use Rattle.std.proofs.lemmas.Nat.{mul-le}
use Rattle.pyramid.proofs.KeptKeys.{near-row}
use Rattle.pyramid.proofs.Tables.{fits}
use Rattle.pyramid.proofs.place.row_place.Goals as goal

pub returns-clause-near : goal.returns-clause-near
returns-clause-near c =
    let fit = fits c.args.cfg.now.depth c.args.row.now c.requires.row in
    let places = c.group_places.result in
    let few : places * c.args.number ≤ 20 * 2 ^ 32 = mul-le places c.args.number 20 (2 ^ 32) c.group_places.ensures.few c.requires.number in
    near-row c.args.cfg.now c.args.start c.args.length c.args.number c.args.row.now _ c.requires.end refl
    (omega (arith, few, fit.index, c.group_places.ensures.value, c.group_places.ensures.few)) c.row_command.ensures
