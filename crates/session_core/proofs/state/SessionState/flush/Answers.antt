use Rattle.std.proofs.Common.{◌≡◌, Bool, true, false, refl, ap, ◌∙◌, subst, rules, arith}
use Rattle.av1_settings.specs.Settings.{interval_of}
use Rattle.pyramid.specs.Schedules.{IsSchedule}
use Rattle.pyramid.specs.Settings.{numbers_of}
use Rattle.session_core.specs.Decisions.{decided_count, keys_of}
use Rattle.session_core.specs.States.{moment_of}
use Rattle.session_core.proofs.Deciding.{Made, asked-none, made-of, made-decides, made-all, made-asked}
use Rattle.session_core.proofs.Scheduling.{flushed-scheduled, is-kept, kept-last_key, kept-rated, kept-schedule, still-rated}
use Rattle.session_core.proofs.state.SessionState.flush.Given as given
use Rattle.session_core.proofs.state.SessionState.flush.Goals as goal

made : (g : given.Over) (c : goal.In_ok-close g) →
    Made c.args.enc.now (moment_of c.args.self.now) (record (moment_of c.args.self.now) { flushed = true }) (moment_of c.decide.new.self)
    (g.D.Detector.told c.args.detector.now).questions (g.D.Detector.told c.decide.new.detector).questions (g.D.Detector.told c.args.detector.now).answers
made g c = made-of c.args.enc.now _ _ (record c.args.self.now { flushed = true }) _ _ _ _ _ refl refl c.saturating_sub-last.ensures c.in_ok-decide.ensures.decided

pub returns-clause-after : goal.returns-clause-after
returns-clause-after g c = made-all c.args.enc.now _ _ _ _ _ _ (made g c)

pub returns-clause-decides : goal.returns-clause-decides
returns-clause-decides g c = made-decides c.args.enc.now _ _ _ _ _ _ (made g c)

pub returns-clause-asked : goal.returns-clause-asked
returns-clause-asked g c = made-asked c.args.enc.now _ _ _ _ _ _ (made g c)

pub returns-then-self-clause-asked : goal.returns-then-self-clause-asked
returns-then-self-clause-asked g c = asked-none c.args.enc.now _ _ _ _ refl

pub returns-clause-kept : goal.returns-clause-kept
returns-clause-kept g c =
    let self = c.args.self.now in
    let enc = c.args.enc.now in
    let open_yet : self.flushed ≡ false = search rules in
    let was = subst (λ (b : Bool). IsSchedule (numbers_of enc) (interval_of enc.max_key_frame_interval) self.accepted b (keys_of self.accepted self.decisions.items) self.commands self.schedule)
    open_yet (kept-schedule _ _ c.requires.kept) in
    is-kept enc _ c.in_ok-decide.ensures.decided.last_key
    (flushed-scheduled enc _ (record self { flushed = true }) c.decide.new.self _ _ _ _ self.accepted c.in_ok-decide.ensures.decided
    (c.requires.ready.decided ∙ ap (decided_count (numbers_of enc) self.accepted) open_yet) (λ e. omega (arith, e, c.saturating_sub-last.ensures)) was
    c.close.new.self refl (omega arith) c.in_ok-close.ensures.closed)
    (still-rated enc self (record c.decide.new.self { schedule = c.close.new.self }) (kept-rated _ _ c.requires.kept)
    (ap (λ state. state.log) c.in_ok-decide.ensures.decided.others) (ap (λ state. state.commands) c.in_ok-decide.ensures.decided.others)
    (ap (λ state. state.rate) c.in_ok-decide.ensures.decided.others))

pub decide-requires-clause-last_key : goal.decide-requires-clause-last_key
decide-requires-clause-last_key g c = kept-last_key c.args.enc.now c.args.self.now c.requires.kept
