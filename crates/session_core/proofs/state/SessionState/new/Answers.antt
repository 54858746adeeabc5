use Rattle.std.proofs.Common.{ℕ, false, [], refl, sym, subst, subst₂}
use Rattle.pyramid.specs.Numbers.{Numbers}
use Rattle.pyramid.specs.Schedules.{IsSchedule}
use Rattle.quantizers.specs.Tables.{Tables}
use Rattle.session_log.specs.Passes.{no_passes}
use Rattle.session_log.specs.Keeps.{Keeps}
use Rattle.session_core.proofs.Passing.{keeps-own, passes-are}
use Rattle.session_core.proofs.Scheduling.{kept-opening}
use Rattle.session_core.proofs.state.SessionState.new.Goals as goal

pub returns-clause-kept : goal.returns-clause-kept
returns-clause-kept g c =
    kept-opening c.args.enc.now _ refl refl refl c.new-2.ensures.items refl
    (subst₂ (λ (numbers : Numbers) (interval : ℕ). IsSchedule numbers interval 0 false [] 0 c.new-schedule.result)
    c.new.ensures c.key_frame_interval.ensures.value c.new-schedule.ensures)
    c.new-6.ensures (keeps-own _ _ _ _ _ (subst (λ (tables : Tables). Keeps c.args.enc.now tables no_passes [] c.new-5.result) (sym c.new-5.ensures.tables) c.new-5.ensures))

pub returns-clause-passes : goal.returns-clause-passes
returns-clause-passes g c = passes-are _ _ _ _ _ c.new-5.ensures
