use Rattle.std.proofs.Common.{◌≡◌, length, pos, ◌-ℤ◌, refl, rules, to_z, of_z, w32, w64}
use Rattle.std.specs.Int.{int_min, int_max}
use Rattle.metrics_window.specs.Tallies.{all_frames, shown_of}
use Rattle.pass_data.proofs.given.GivenData.needed_in_window.Goals as goal

pub returns : goal.returns
returns c =
    let shown : to_z w32 (of_z w32 c.shown.result) ≡ shown_of c.self.inside.window.held = search rules in
    let frames : to_z w64 (of_z w64 c.all_frames-frames.result) ≡ all_frames c.self.inside.left = search rules in
    let held : c.len.result ≡ length c.self.inside.window.held = c.len.ensures.value in
    let delay : to_z w32 (of_z w32 c.args.delay) ≡ c.args.delay = search rules in
    let ntus : to_z w32 (of_z w32 c.args.header.now.ntus) ≡ c.args.header.now.ntus = search rules in
    let all : to_z w32 (of_z w32 c.window_needs.result)
    ≡ int_max (int_min (int_min (to_z w32 (of_z w32 c.args.delay)) (to_z w32 (of_z w32 c.args.header.now.ntus)) -ℤ to_z w32 (of_z w32 c.shown.result)) (to_z w64 (of_z w64 c.all_frames-frames.result) -ℤ pos c.len.result)) (pos 0) = search rules in
    rw (← c.self.view_is, all, delay, ntus, shown, frames, held) refl
