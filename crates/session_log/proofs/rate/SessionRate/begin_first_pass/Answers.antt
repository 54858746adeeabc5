use Rattle.std.proofs.Common.{◌≡◌, rules, to_z, of_z, w64}
use Rattle.session_log.proofs.Passing.{first_is_on}
use Rattle.session_log.proofs.rate.SessionRate.begin_first_pass.Goals as goal

pub returns-clause-keeps : goal.returns-clause-keeps
returns-clause-keeps g c = λ enc tables passes keeps.
    let same : to_z w64 (of_z w64 c.select_subtype-base.result.log_base_q) ≡ c.select_subtype-base.result.log_base_q = search rules in
    first_is_on enc tables passes _ _ c.args.self.now c.code_by.new.self c.select_subtype-base.result keeps c.select_subtype-base.ensures (rw same at c.code_by.ensures)
