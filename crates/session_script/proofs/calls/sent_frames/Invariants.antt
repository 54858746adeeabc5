use Rattle.std.proofs.Common.{◌≡◌, map, replicate, IfSome}
use Rattle.session_script.specs.Calls.{own_picture}
use Rattle.session_script.proofs.calls.sent_frames.Given as goal

abbrev pub invariant-loop : goal.invariant-loop
invariant-loop l = record {
  made : IfSome l.picture (λ made. made.value ≡ own_picture l.enc);
  sent : map (λ frame. frame.value) l.frames.items ≡ replicate l.counter (own_picture l.enc);
}
