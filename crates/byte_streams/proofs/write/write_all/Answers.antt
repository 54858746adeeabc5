use Rattle.std.proofs.Common.{◌+◌, ◌≤◌, length, drop, arith}
use Rattle.std.proofs.lemmas.List.{length-drop}
use Rattle.std.proofs.lemmas.Slice.{between_to_end}
use Rattle.byte_streams.proofs.Pieces.{more_written}
use Rattle.byte_streams.proofs.write.write_all.Goals as goal

pub loop-written-preserved : goal.loop-written-preserved
loop-written-preserved g c =
    let text = c.args.text.now in
    let w = c.loop-written.written in
    let rest = between_to_end text w (length text) (omega arith) in
    let count : c.in-Ok.count ≤ length (drop w text) = rw rest at c.in-Ok.ensures.bound in
    let within : w + c.in-Ok.count ≤ length text = omega (arith, length-drop w text) in
    record {
      within = within;
      held = more_written _ _ _ w c.in-Ok.count text _ rest within c.loop-written.invariant.held c.in-Ok.ensures.bytes;
      later = omega (arith, c.in-Ok.ensures.cause.later);
    }
