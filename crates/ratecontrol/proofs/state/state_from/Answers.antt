use Rattle.std.proofs.Common.{◌≡◌, rules, refl, int_div, to_z, of_z, w32, w64, ap, ◌∙◌}
use Rattle.std.specs.Int.{int_shr, w128}
use Rattle.fixed_log.specs.Logarithm.{blog64}
use Rattle.rate_model.specs.Curves.{start_subtypes}
use Rattle.reservoir.specs.Levels.{reservoir_most, reservoir_target}
use Rattle.ratecontrol.proofs.state.state_from.Goals as goal

pub returns : goal.returns
returns c =
    let half_is : to_z w32 (of_z w32 c.half_delay.result) ≡ int_shr c.args.delay 1 = search rules in
    let bitrate_is : to_z w32 (of_z w32 c.args.bitrate) ≡ c.args.bitrate = search rules in
    let bits_is : to_z w64 (of_z w64 c.args.bits_per_tu) ≡ c.args.bits_per_tu = search rules in
    let delay_is : to_z w32 (of_z w32 c.args.delay) ≡ c.args.delay = search rules in
    let log_is : to_z w64 (of_z w64 c.blog64.result) ≡ blog64 c.args.npixels = search rules in
    let most_is : to_z w128 (of_z w128 c.reservoir_most-most.result) ≡ reservoir_most c.args.bits_per_tu c.args.delay = search rules in
    let target_is : to_z w128 (of_z w128 c.reservoir_target-target.result) ≡ reservoir_target (to_z w128 (of_z w128 c.reservoir_most-most.result)) = search rules in
    let ibpp_is : to_z w64 (of_z w64 c.pixels_per_bit.result) ≡ int_div c.args.npixels c.args.bits_per_tu = search rules in
    let subtypes_are : c.start_subtypes.result ≡ start_subtypes (int_div c.args.npixels c.args.bits_per_tu) = c.start_subtypes.ensures ∙ ap start_subtypes ibpp_is in
    rw (half_is, bitrate_is, bits_is, delay_is, log_is, target_is, most_is, subtypes_are, c.new.ensures, c.new-2.ensures) refl
