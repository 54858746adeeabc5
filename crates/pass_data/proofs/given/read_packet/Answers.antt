use Rattle.std.proofs.Common.{refl}
use Rattle.pass_data.proofs.WholeLaws.{metric_is, bad_is}
use Rattle.pass_data.proofs.given.read_packet.Goals as goal

pub returns-in-Ok : goal.returns-in-Ok
returns-in-Ok c = metric_is c.args.bytes.now c.in-Ok.m ((c.in-Ok.ensures.accepted c.in-Ok.m).0 refl)

pub returns-in-Err : goal.returns-in-Err
returns-in-Err c =
    let h = (c.in-Err.ensures.refused c.in-Err.e.value).0 refl in
    (bad_is c.args.bytes.now c.in-Err.e.value h, rw h.0 refl)
