use Rattle.std.proofs.Common.{◌≡◌, ◌∙◌, rules, to_z, of_z, w32}
use Rattle.session_core.proofs.Scheduling.{kept-rated}
use Rattle.session_core.proofs.state.SessionState.frames_needed.Goals as goal

pub returns : goal.returns
returns g c = λ enc kept.
    let same : to_z w32 (of_z w32 c.frames_needed.result) ≡ c.frames_needed.result = search rules in
    same ∙ c.frames_needed.ensures enc _ _ _ (kept-rated enc c.args.self.now kept).keeps
