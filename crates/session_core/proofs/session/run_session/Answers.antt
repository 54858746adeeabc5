use Rattle.std.proofs.Common.{◌≡◌, ◌++◌, ◌∷◌, [], Result, Err, inr, ap, sym, subst, ◌∙◌, append_assoc, append-nil, arith}
use Rattle.std.proofs.lemmas.List.{nil_from_length}
use Rattle.session_core.specs.Sessions.{IsSessionRun}
use Rattle.session_core.proofs.CallLoop.{Carried, Stops, carried-opening, carried-step, carried-session, carried-steps, session-schedule, carried-stop}
use Rattle.session_core.proofs.Playing.{leads-ready}
use Rattle.session_core.proofs.Telling.{later-then}
use Rattle.session_core.proofs.session.run_session.Given as given
use Rattle.session_core.proofs.session.run_session.Invariants.{outside}
use Rattle.session_core.proofs.session.run_session.Goals as goal

pub loop-call-init : goal.loop-call-init
loop-call-init g c = (
  tt,
  tt,
  carried-opening c.args.cfg.now.enc c.args.tables.now c.new-turns.result.items c.new-state.result (outside g c.args.coder.now c.args.detector.now c.args.scales.now) c.new-turns.ensures.items c.new-state.ensures.moment c.new-state.ensures.kept c.new-state.ensures.tables c.new-state.ensures.passes,
  c.into_iter-call-iterator.ensures.into_iter_gives.0,
)

pub turn-requires-clause-ready : goal.turn-requires-clause-ready
turn-requires-clause-ready g c = leads-ready _ _ _ _ c.in_default.ensures.valid.looks_ahead c.loop-call.invariant.2.playing.leads

pub loop-call-preserved : goal.loop-call-preserved
loop-call-preserved g c =
    let left : c.loop-call.yielded ++ c.in-Some.call ∷ [] ++ c.next.new.self.rest.items ≡ c.args.calls.items =
    append_assoc c.loop-call.yielded (c.in-Some.call ∷ []) c.next.new.self.rest.items
    ∙ ap (λ rest. c.loop-call.yielded ++ rest) (sym c.in-Some.ensures.steps.0) ∙ c.loop-call.invariant.3 in (
      tt,
      tt,
      carried-step c.args.cfg.now.enc c.args.tables.now c.loop-call.yielded c.loop-call.turns.items c.push.new.self.items c.loop-call.state c.turn.new.self _ _ (outside g c.turn.new.coder c.turn.new.detector c.turn.new.scales) c.in-Some.call c.in-Ok.turn
          c.in_default.ensures.valid.looks_ahead c.loop-call.invariant.2 c.in-Ok.ensures.step c.in-Ok.ensures.passes c.in-Ok.ensures.kept c.turn.ensures.tables c.in-Ok.ensures.later
          c.in_ok-push-in-Ok.ensures.items,
      left,
    )

pub returns-in_err-push-in-Ok-clause-later : goal.returns-in_err-push-in-Ok-clause-later
returns-in_err-push-in-Ok-clause-later g c = later-then _ _ _ c.loop-call.invariant.2.playing.later c.in-Ok.ensures.later

-- what an error says of the calls
stop : (g : given.Over) (c : goal.After-drop-state-in-Err-turn-6 g) →
    Stops c.args.cfg.now.enc c.args.tables.now c.args.calls.items (outside g c.args.coder.now c.args.detector.now c.args.scales.now) (outside g c.turn.new.coder c.turn.new.detector c.turn.new.scales) c.from.result
stop g c =
    let at : c.loop-call.yielded ++ c.in-Some.call ∷ c.next.new.self.rest.items ≡ c.args.calls.items =
    ap (λ rest. c.loop-call.yielded ++ rest) (sym c.in-Some.ensures.steps.0) ∙ c.loop-call.invariant.3 in
    subst (Stops c.args.cfg.now.enc c.args.tables.now c.args.calls.items (outside g c.args.coder.now c.args.detector.now c.args.scales.now) (outside g c.turn.new.coder c.turn.new.detector c.turn.new.scales)) (sym c.from.ensures)
    (carried-stop c.args.cfg.now.enc c.args.tables.now c.loop-call.yielded c.next.new.self.rest.items c.args.calls.items c.loop-call.turns.items c.loop-call.state
    _ _ _ c.in-Some.call c.in-Err-turn.fault c.loop-call.invariant.2 at c.in-Err-turn.ensures.failed)

same : {A E : Type 0} (a b : E) → ◌≡◌ {A = Result A E} (Err a) (Err b) → a ≡ b
same a b e = cc

pub returns-in-Err-turn-clause-invalid : goal.returns-in-Err-turn-clause-invalid
returns-in-Err-turn-clause-invalid g c = λ v is. absurd ((stop g c).valid v (same _ _ is))

pub returns-in-Err-turn-clause-fault : goal.returns-in-Err-turn-clause-fault
returns-in-Err-turn-clause-fault g c = λ command is. (stop g c).fault command (same _ _ is)

pub returns-in-Err-turn-clause-never : goal.returns-in-Err-turn-clause-never
returns-in-Err-turn-clause-never g c = λ refusal is. (stop g c).message refusal (same _ _ is)

pub returns-in-Err-turn-clause-complete : goal.returns-in-Err-turn-clause-complete
returns-in-Err-turn-clause-complete g c = λ valid still. inr (ap Err ((stop g c).complete still))

pub returns-in-Err-turn-clause-later : goal.returns-in-Err-turn-clause-later
returns-in-Err-turn-clause-later g c = later-then _ _ _ c.loop-call.invariant.2.playing.later c.in-Err-turn.ensures.later

-- every call was answered
all_done : (g : given.Over) (c : goal.After-drop-state-6 g) → c.loop-call.yielded ≡ c.args.calls.items
all_done g c =
    let none : c.loop-call.call-iterator.rest.items ≡ [] = nil_from_length _ (omega (arith, c.in-None.ensures.steps.0)) in
    sym (append-nil c.loop-call.yielded) ∙ ap (λ rest. c.loop-call.yielded ++ rest) (sym none) ∙ c.loop-call.invariant.3

-- what the loop kept, of all calls and the transcript's turns
kept : (g : given.Over) (c : goal.After-drop-state-6 g) →
    Carried c.args.cfg.now.enc c.args.tables.now c.args.calls.items c.from_vec.result c.loop-call.state
    (outside g c.args.coder.now c.args.detector.now c.args.scales.now) (outside g c.loop-call.coder c.loop-call.detector c.loop-call.scales)
kept g c =
    let enc = c.args.cfg.now.enc in
    let tables = c.args.tables.now in
    let calls = c.args.calls.items in
    let state = c.loop-call.state in
    let before = outside g c.args.coder.now c.args.detector.now c.args.scales.now in
    let now = outside g c.loop-call.coder c.loop-call.detector c.loop-call.scales in
    let all = subst (λ done. Carried enc tables done c.loop-call.turns.items state before now) (all_done g c) c.loop-call.invariant.2 in
    subst (λ turns. Carried enc tables calls turns state before now) (sym c.from_vec.ensures) all

run : (g : given.Over) (c : goal.After-drop-state-6 g) →
    IsSessionRun c.args.cfg.now.enc c.args.tables.now c.args.calls.items (record { turns = c.from_vec.result; decisions = c.from_vec-2.result })
    (outside g c.args.coder.now c.args.detector.now c.args.scales.now) (outside g c.loop-call.coder c.loop-call.detector c.loop-call.scales)
run g c =
    carried-session c.args.cfg.now.enc c.args.tables.now c.args.calls.items (record { turns = c.from_vec.result; decisions = c.from_vec-2.result }) c.loop-call.state _ _
    (kept g c) c.from_vec-2.ensures

pub returns-clause-steps : goal.returns-clause-steps
returns-clause-steps g c =
    carried-steps c.args.cfg.now.enc c.args.tables.now c.args.calls.items (record { turns = c.from_vec.result; decisions = c.from_vec-2.result }) c.loop-call.state _ _
    (kept g c) c.from_vec-2.ensures

pub returns-clause-session : goal.returns-clause-session
returns-clause-session g c = run g c

pub returns-clause-schedules : goal.returns-clause-schedules
returns-clause-schedules g c = session-schedule c.args.cfg.now.enc c.args.tables.now c.args.calls.items _ _ _ (run g c)

pub returns-clause-later : goal.returns-clause-later
returns-clause-later g c = c.loop-call.invariant.2.playing.later
