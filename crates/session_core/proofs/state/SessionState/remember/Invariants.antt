use Rattle.std.proofs.Common.{◌≡◌, ◌++◌, map, take}
use Rattle.session_core.proofs.state.SessionState.remember.Given as goal

-- the log has those that were taken in
abbrev pub invariant-loop-entry : goal.invariant-loop-entry
invariant-loop-entry g l =
    (map (λ pair. pair.0) l.self.log.items ≡ map (λ pair. pair.0) l.fn.self.log.items ++ take l.entry-index l.entry-items)
    × (l.self ≡ record l.fn.self { log = l.self.log })
