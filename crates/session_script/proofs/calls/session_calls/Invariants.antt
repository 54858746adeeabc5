use Rattle.std.proofs.Common.{◌≡◌, map, take, IfSome}
use Rattle.session_script.specs.Calls.{asked_by, asked_for, own_picture}
use Rattle.session_script.proofs.calls.session_calls.Given as goal

abbrev pub invariant-loop-call : goal.invariant-loop-call
invariant-loop-call l = record {
  made : IfSome l.picture (λ made. made.value ≡ own_picture l.enc);
  asked : map asked_by l.calls.items ≡ map (asked_for l.enc) (take l.call-index l.asked);
}
