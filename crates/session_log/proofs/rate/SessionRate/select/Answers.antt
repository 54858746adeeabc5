use Rattle.std.proofs.Common.{rules, to_z, of_z, w64}
use Rattle.session_log.proofs.Logs.{selection_after}
use Rattle.session_log.proofs.rate.SessionRate.select.Goals as goal

pub returns : goal.returns
returns g c = λ enc tables passes log keeps.
    selection_after enc tables passes log _ _ c.args.command.now c.args.mean_scale (to_z w64 (of_z w64 c.args.mean_scale)) c.args.self.now
    c.subtype.result c.select_subtype.result keeps c.subtype.ensures (search rules) c.select_subtype.ensures
