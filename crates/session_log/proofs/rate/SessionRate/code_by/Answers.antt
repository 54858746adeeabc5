use Rattle.std.proofs.Common.{◌≡◌, refl, rules, to_z, of_z, w64}
use Rattle.session_log.proofs.rate.SessionRate.code_by.Goals as goal

pub returns : goal.returns
returns c =
    let same : to_z w64 (of_z w64 c.args.base) ≡ c.args.base = search rules in
    rw (← c.self.view_is, c.init_first_pass.ensures, same) refl
