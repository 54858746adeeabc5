use Rattle.std.proofs.Common.{◌≡◌, ◌<◌, length, Some, refl, ap, map, ◌∙◌, rules}
use Rattle.std.specs.List.{slice_get}
use Rattle.std.specs.Option.{option_map}
use Rattle.std.proofs.lemmas.Option.{slice_get-map, slice_get_read}
use Rattle.session_core.specs.Moments.{Coding}
use Rattle.session_core.specs.States.{coding_value, moment_of, waiting_of}
use Rattle.session_core.specs.Turns.{shown_coding}
use Rattle.session_core.proofs.StateLemmas.{shown-is-coded}
use Rattle.session_core.proofs.state.SessionState.packet.Goals as goal

pub returns-clause-packet : goal.returns-clause-packet
returns-clause-packet g c =
    let self = c.args.self.now in
    let first = c.in-Some.first in
    let some : 0 < length self.waiting.items = search rules in
    let is_first : slice_get (map waiting_of self.waiting.items) 0 ≡ Some (waiting_of first) =
    slice_get-map waiting_of self.waiting.items 0
    ∙ ap (option_map waiting_of) (slice_get_read self.waiting.items (length self.waiting.items) 0 first refl some c.in-Some.ensures.lookup) in
    let coded : Some (coding_value c.shown_coding-coding.result) ≡ shown_coding c.args.coded.now.entry (waiting_of first) =
    c.shown_coding-coding.ensures (shown-is-coded (moment_of self) (waiting_of first) c.args.coded.now.entry is_first c.requires.next) in
    record {
      bytes = search rules;
      number = refl;
      first = waiting_of first;
      is_first = is_first;
      source = refl;
      opaque = refl;
      frame_type = ap (option_map (λ (coding : Coding). coding.kind)) coded;
      qp = ap (option_map (λ (coding : Coding). coding.qp)) coded;
    }
