use Rattle.std.proofs.Common.{◌≡◌, map, take, IfSome}
use Rattle.std.specs.List.{flat_map}
use Rattle.session_script.specs.Calls.{asked_for_passes, asked_in_passes, own_picture}
use Rattle.session_script.proofs.calls.pass_calls.Given as goal

abbrev pub invariant-loop-call : goal.invariant-loop-call
invariant-loop-call l = record {
  made : IfSome l.picture (λ made. made.value ≡ own_picture l.enc);
  asked : map asked_in_passes l.calls.items ≡ flat_map (asked_for_passes l.takes l.enc) (take l.call-index l.asked);
}
