use Rattle.std.proofs.Common.{◌≡◌, take, w32, FitsSigned, arith, rules}
use Rattle.std.proofs.lemmas.Int.{to_z-of_z}
use Rattle.std.proofs.lemmas.List.{take_all}
use Rattle.pass_stats.specs.Summary.{Summary, Spells}
use Rattle.pass_stats.proofs.laws.summary_again.Goals as goal

pub returns : goal.returns
returns c =
    let s = c.args.s.now in
    let items = c.write_summary.result.items in
    let fits : FitsSigned w32 s.ntus = search rules in
    let spelled : Spells items s.ntus s.nframes s.exp s.scale_sum = rw (to_z-of_z w32 s.ntus fits) at c.write_summary.ensures.spelled in
    let whole : take 68 items ≡ items = take_all 68 items (omega (arith, spelled.size)) in
    let read : Summary (take 68 c.as_slice.result.now) s = rw (c.as_slice.ensures.value, whole) spelled in
    (c.parse_summary.ensures.accepted s).1 read
