use Rattle.std.proofs.Common.{◌≡◌, count_by, map, replicate, refl}
use Rattle.scripted.specs.DetectorLog.{asked_first, detector_told}
use Rattle.session_script.specs.Calls.{own_picture}
use Rattle.session_script.specs.Jobs.{is_send}
use Rattle.session_script.proofs.CarryingJobs.{jobs_carry, jobs_stop}
use Rattle.session_script.proofs.JobFrames.{all_fit, are_few}
use Rattle.session_script.proofs.gops.encode_frames.Goals as goal

pub encode_gops-requires-clause-fit : goal.encode_gops-requires-clause-fit
encode_gops-requires-clause-fit g c κs within =
    let frames = c.in-Ok.frames.items in
    let count = count_by is_send c.args.script.now.calls in
    let sent : map (λ frame. frame.value) frames ≡ replicate count (own_picture c.args.config.now.enc) = rw c.as_slice.ensures at c.in-Ok.ensures in
    all_fit frames count c.args.config.now.enc sent

pub encode_gops-requires-clause-few : goal.encode_gops-requires-clause-few
encode_gops-requires-clause-few g c κs within =
    let frames = c.in-Ok.frames.items in
    let count = count_by is_send c.args.script.now.calls in
    let sent : map (λ frame. frame.value) frames ≡ replicate count (own_picture c.args.config.now.enc) = rw c.as_slice.ensures at c.in-Ok.ensures in
    are_few frames count c.args.config.now.enc sent c.args.script.now c.requires.gops refl

pub returns-in-Ok-encode_gops : goal.returns-in-Ok-encode_gops
returns-in-Ok-encode_gops g c =
    let script = c.args.script.now in
    let config = c.args.config.now in
    let frames = c.in-Ok.frames.items in
    let sent : map (λ frame. frame.value) frames ≡ replicate (count_by is_send script.calls) (own_picture config.enc) = rw c.as_slice.ensures at c.in-Ok.ensures in
    let begun : detector_told c.in-Ok-new.detector ≡ asked_first script.cuts = rw c.as_slice-2.ensures at c.in-Ok-new.ensures in
    let carried = jobs_carry script config c.args.levels.now c.scripted_tables-tables.result _ _ _ c.requires.made c.requires.valid c.requires.levels c.scripted_tables-tables.ensures c.requires.one_pass sent begun c.in-Ok-encode_gops.packets c.in-Ok-encode_gops.ensures.whole in
    record { outcome = λ heard. carried }

pub returns-in-Err-CoderFault : goal.returns-in-Err-CoderFault
returns-in-Err-CoderFault g c =
    let script = c.args.script.now in
    let config = c.args.config.now in
    let frames = c.in-Ok.frames.items in
    let sent : map (λ frame. frame.value) frames ≡ replicate (count_by is_send script.calls) (own_picture config.enc) = rw c.as_slice.ensures at c.in-Ok.ensures in
    let begun : detector_told c.in-Ok-new.detector ≡ asked_first script.cuts = rw c.as_slice-2.ensures at c.in-Ok-new.ensures in
    let stopped = jobs_stop script config c.args.levels.now c.scripted_tables-tables.result _ _ _ c.requires.made c.requires.valid c.requires.levels c.scripted_tables-tables.ensures c.requires.one_pass sent begun c.in-Err-CoderFault.job c.in-Err-CoderFault.command c.in-Err-CoderFault.field-0-2 (rw c.in-Err-CoderFault.field-0-is at c.in-Err-CoderFault.ensures.error) in
    record { outcome = λ heard. stopped }
