use Rattle.std.proofs.Common.{◌≡◌, ◌≤◌, ◌+◌, length, None, subst, arith}
use Rattle.session_core.specs.Contexts.{Session}
use Rattle.session_core.specs.Moments.{places_ahead}
use Rattle.session_core.specs.States.{moment_of}
use Rattle.session_core.proofs.Scheduling.{kept-schedule}
use Rattle.session_core.proofs.context_inner.ContextInner.places_held.Given as given
use Rattle.session_core.proofs.context_inner.ContextInner.places_held.Goals as goal

-- those of the schedule
all_known : (g : given.Over) (c : goal.After-places_held g) → c.self.inside.failure ≡ None →
    c.places_held.result ≡ length (places_ahead c.self.inside.enc (moment_of c.self.inside.state))
all_known g c none = c.places_held.ensures _ _ _ _ _ _ (kept-schedule _ _ (c.self.invariant.kept none))

pub returns-clause-known : goal.returns-clause-known
returns-clause-known g c =
    let Holds : Session g.row.T.Denot g.row.O.Denot g.row.D.Denot g.row.S.Denot g.row.C.Denot → Type 0 = λ now.
    now.failure ≡ None → c.places_held.result ≡ length (places_ahead now.enc now.moment) in
    subst Holds c.self.view_is (all_known g c)

pub returns-clause-few : goal.returns-clause-few
returns-clause-few g c =
    let Holds : Session g.row.T.Denot g.row.O.Denot g.row.D.Denot g.row.S.Denot g.row.C.Denot → Type 0 = λ now.
    now.failure ≡ None → c.places_held.result ≤ length (places_ahead now.enc now.moment) + 2 in
    subst Holds c.self.view_is (λ none. omega (arith, all_known g c none))
