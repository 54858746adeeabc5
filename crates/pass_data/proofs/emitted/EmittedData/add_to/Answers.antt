use Rattle.std.proofs.Common.{◌≡◌, pos, slice_index_or, rules, to_z, of_z, w64}
use Rattle.pass_stats.proofs.Entries.{number_set}
use Rattle.pass_data.proofs.SumLaws.{not_negative}
use Rattle.pass_data.proofs.emitted.EmittedData.add_to.Goals as goal

pub invariant_of-self : goal.invariant_of-self
invariant_of-self c =
    let sums = c.self.inside.sums in
    let kept : to_z w64 (of_z w64 c.sum_with.result) ≡ c.sum_with.result = search rules in
    let own : to_z w64 (of_z w64 (slice_index_or sums c.args.i (pos 0))) ≡ slice_index_or sums c.args.i (pos 0) = search rules in
    record {
      sums = rw kept (number_set sums c.args.i c.sum_with.result c.self.invariant.sums (c.sum_with.ensures.positive (rw own (not_negative sums c.args.i c.self.invariant.sums))));
      waiting = c.self.invariant.waiting;
    }
