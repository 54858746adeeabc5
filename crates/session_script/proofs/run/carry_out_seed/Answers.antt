use Rattle.scripted.specs.NoLevels.{no_levels}
use Rattle.session_script.proofs.Generating.{seed_outcome}
use Rattle.session_script.proofs.run.carry_out_seed.Goals as goal

pub returns-in-Ok : goal.returns-in-Ok
returns-in-Ok c =
    let outcome = seed_outcome _ c.in-Ok.script c.args.seed c.in-Ok.ensures.script (c.in-Ok.ensures.valid no_levels) c.carry_out_script.result c.carry_out_script.ensures.outcome in
    record { outcome = rw c.summed_up.ensures outcome }
