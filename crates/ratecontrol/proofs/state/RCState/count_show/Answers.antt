use Rattle.std.proofs.Common.{◌≡◌, refl, rules, to_z, of_z, w32, w64}
use Rattle.rate_model.specs.Measure.{grown, LAST_I32}
use Rattle.reservoir.specs.Moves.{LAST_COUNT}
use Rattle.ratecontrol.proofs.state.RCState.count_show.Goals as goal

pub returns : goal.returns
returns c =
    let again : to_z w64 (of_z w64 c.next_count-self-inside.result) ≡ grown LAST_COUNT c.self.inside.shown_again = search rules in
    let shows : to_z w32 (of_z w32 c.next_shows-self-inside.result) ≡ grown LAST_I32 c.self.inside.shows = search rules in
    rw (← c.self.view_is, again, shows) refl
