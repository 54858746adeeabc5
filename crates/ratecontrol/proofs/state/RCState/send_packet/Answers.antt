use Rattle.std.proofs.Common.{◌≡◌, rules, ap, ◌∙◌, to_z, of_z, w32}
use Rattle.pass_data.specs.Given.{Given}
use Rattle.ratecontrol.specs.Rate.{Rate}
use Rattle.ratecontrol.specs.Passes.{frames_needed}
use Rattle.ratecontrol.proofs.state.RCState.send_packet.Goals as goal

pub returns : goal.returns
returns c =
    let rate = c.args.self.now in
    let needed : to_z w32 (of_z w32 c.twopass_in_frames_needed-is_needed.result) ≡ frames_needed rate = search rules in
    let own : c.self.inside.given ≡ rate.given = ap (λ (r : Rate). r.given) c.self.view_is in
    let sent = rw (needed, own) at c.send.ensures in
    (ap (λ (r : Rate). record r { given = c.send.new.self }) c.self.view_is ∙ ap (λ (g : Given). record rate { given = g }) sent.0, sent.1)
