use Rattle.std.proofs.Common.{◌≡◌, ℕ, Bool, ◌+◌, ◌<◌, length, ◌++◌, ◌∷◌, [], List, map, None, false, refl, ap, subst, sym, ◌∙◌, rules, arith}
use Rattle.std.proofs.lemmas.List.{map-append}
use Rattle.av1_settings.specs.Settings.{interval_of}
use Rattle.pyramid.specs.Numbers.{ahead}
use Rattle.pyramid.specs.Schedules.{IsSchedule}
use Rattle.pyramid.specs.Settings.{numbers_of}
use Rattle.session_core.specs.declared.state.SessionState.{SessionState}
use Rattle.session_core.specs.Decisions.{decided_count, keys_of}
use Rattle.session_core.specs.Moments.{Moment, Waiting}
use Rattle.session_core.specs.States.{moment_of, waiting_of, KeepsLastKey}
use Rattle.session_core.specs.Turns.{accepted_of}
use Rattle.session_core.proofs.Deciding.{Made, asked-none, made-of, made-decides, made-all, made-asked}
use Rattle.session_core.proofs.Scheduling.{first-scheduled, further-scheduled, is-kept, kept-last_key, kept-rated, kept-schedule, sent-scheduled, still-rated}
use Rattle.session_core.proofs.StateLemmas.{decided-zero}
use Rattle.session_core.proofs.state.SessionState.send.Given as given
use Rattle.session_core.proofs.state.SessionState.send.Goals as goal
use Rattle.session_core.proofs.state.SessionState.send.Goals.{then-number-eq0+in_ok-note_key, else-number-eq0}

-- the moment with the frame
abbrev with_frame : (g : given.Over) (c : goal.In_ok-extend g) → Moment g.row.T.Denot g.row.O.Denot
with_frame g c =
    let before = moment_of c.args.self.now in
    record before {
      accepted = before.accepted + 1;
      waiting = before.waiting ++ record { frame = accepted_of c.args.frame.value c.args.parameters; coded = None } ∷ [];
    }

taken : (g : given.Over) (c : goal.In_ok-extend g) →
    moment_of (record c.if-number-eq0.self { accepted = c.args.self.now.accepted + 1 }) ≡ with_frame g c
taken g c =
    let self = c.args.self.now in
    let with_waiting : List (Waiting g.row.T.Denot g.row.O.Denot) → Moment g.row.T.Denot g.row.O.Denot =
    λ waiting. record (with_frame g c) { waiting = waiting } in
    let Joined : SessionState g.row.T.Denot g.row.O.Denot → Type 0 =
    λ state. moment_of (record state { accepted = self.accepted + 1 }) ≡ with_frame g c in
    let frames = ap (map waiting_of) c.in_ok-push_back.ensures.items ∙ map-append waiting_of self.waiting.items (c.in_ok-new.field-0 ∷ [])
    ∙ ap (λ one. map waiting_of self.waiting.items ++ one ∷ []) c.in_ok-new.ensures in
    elim c.if-number-eq0.branch [
      | then-number-eq0+in_ok-note_key w ↦ subst Joined (sym w.self-is) (ap with_waiting frames)
      | else-number-eq0 w ↦ subst Joined (sym w.self-is) (ap with_waiting frames)
    ]

all : (g : given.Over) (c : goal.In_ok-extend g) →
    c.saturating_sub-last.result ≡ decided_count (numbers_of c.args.enc.now) (c.args.self.now.accepted + 1) c.args.self.now.flushed
all g c =
    let open_yet : c.args.self.now.flushed ≡ false = search rules in
    let distance : c.ahead.result ≡ ahead (numbers_of c.args.enc.now) = c.ahead.ensures ∙ ap ahead c.new-2.ensures in
    rw open_yet (omega (arith, distance))

made : (g : given.Over) (c : goal.In_ok-extend g) →
    Made c.args.enc.now (moment_of c.args.self.now) (with_frame g c) (moment_of c.decide.new.self)
    (g.D.Detector.told c.args.detector.now).questions (g.D.Detector.told c.decide.new.detector).questions (g.D.Detector.told c.args.detector.now).answers
made g c =
    made-of c.args.enc.now (moment_of c.args.self.now) (with_frame g c) (record c.if-number-eq0.self { accepted = c.args.self.now.accepted + 1 }) c.decide.new.self
    _ _ _ _ (taken g c) refl (all g c) c.in_ok-decide.ensures.decided

pub returns-clause-after : goal.returns-clause-after
returns-clause-after g c = made-all c.args.enc.now _ _ _ _ _ _ (made g c)

pub returns-clause-decides : goal.returns-clause-decides
returns-clause-decides g c = made-decides c.args.enc.now _ _ _ _ _ _ (made g c)

pub returns-clause-asked : goal.returns-clause-asked
returns-clause-asked g c = made-asked c.args.enc.now _ _ _ _ _ _ (made g c)

pub returns-then-not-fits-clause-asked : goal.returns-then-not-fits-clause-asked
returns-then-not-fits-clause-asked g c = asked-none c.args.enc.now _ _ _ _ refl

-- of the old count of frames, with the first one's key
joined : (g : given.Over) (c : goal.In_ok-extend g) →
    IsSchedule (numbers_of c.args.enc.now) (interval_of c.args.enc.now.max_key_frame_interval) c.args.self.now.accepted false
    (keys_of (c.args.self.now.accepted + 1) c.if-number-eq0.self.decisions.items) c.if-number-eq0.self.commands c.if-number-eq0.self.schedule
joined g c =
    let self = c.args.self.now in
    let decisions = self.decisions.items in
    let numbers = numbers_of c.args.enc.now in
    let interval = interval_of c.args.enc.now.max_key_frame_interval in
    let Scheduled : SessionState g.row.T.Denot g.row.O.Denot → Type 0 = λ state.
    IsSchedule numbers interval self.accepted false (keys_of (self.accepted + 1) state.decisions.items) state.commands state.schedule in
    let open_yet : self.flushed ≡ false = search rules in
    let was : IsSchedule numbers interval self.accepted false (keys_of self.accepted decisions) self.commands self.schedule =
    subst (λ (b : Bool). IsSchedule numbers interval self.accepted b (keys_of self.accepted decisions) self.commands self.schedule) open_yet (kept-schedule _ _ c.requires.kept) in
    elim c.if-number-eq0.branch [
      | then-number-eq0+in_ok-note_key w ↦
          let first : self.accepted ≡ 0 = omega (arith, w.if-number-eq0.true) in
          let none : length decisions ≡ 0 = c.requires.ready.decided ∙ ap (λ (n : ℕ). decided_count numbers n self.flushed) first ∙ decided-zero numbers self.flushed in
          subst Scheduled (sym w.self-is)
          (first-scheduled numbers interval self.accepted self.commands decisions self.schedule w.note_key.new.self first none w.in_ok-note_key.ensures.noted was)
      | else-number-eq0 w ↦
          let some : 0 < self.accepted = omega (arith, w.if-number-eq0.false) in
          subst Scheduled (sym w.self-is) (further-scheduled numbers interval self.accepted self.commands decisions self.schedule some was)
    ]

pub returns-clause-kept : goal.returns-clause-kept
returns-clause-kept g c =
    let self = c.args.self.now in
    let numbers = numbers_of c.args.enc.now in
    let Counts : SessionState g.row.T.Denot g.row.O.Denot → Type 0 = λ state. (length state.decisions.items ≡ decided_count numbers self.accepted false) × (state.flushed ≡ false) in
    let open_yet : self.flushed ≡ false = search rules in
    let here : Counts self = (c.requires.ready.decided ∙ ap (decided_count numbers self.accepted) open_yet, open_yet) in
    let counts : Counts c.if-number-eq0.self = elim c.if-number-eq0.branch [
      | then-number-eq0+in_ok-note_key w ↦ subst Counts (sym w.self-is) here
      | else-number-eq0 w ↦ subst Counts (sym w.self-is) here
    ] in
    let Same : SessionState g.row.T.Denot g.row.O.Denot → Type 0 = λ state. (state.log ≡ self.log) × (state.commands ≡ self.commands) × (state.rate ≡ self.rate) in
    let same : Same c.if-number-eq0.self = elim c.if-number-eq0.branch [
      | then-number-eq0+in_ok-note_key w ↦ subst Same (sym w.self-is) (refl, refl, refl)
      | else-number-eq0 w ↦ subst Same (sym w.self-is) (refl, refl, refl)
    ] in
    is-kept c.args.enc.now _ c.in_ok-decide.ensures.decided.last_key
    (sent-scheduled c.args.enc.now _ (record c.if-number-eq0.self { accepted = self.accepted + 1 }) c.decide.new.self _ _ _ _ self.accepted
    c.in_ok-decide.ensures.decided counts.0 (λ e. absurd (omega (arith, e))) (joined g c) c.extend.new.self counts.1 (omega arith) c.in_ok-extend.ensures.extended)
    (still-rated c.args.enc.now self (record c.decide.new.self { schedule = c.extend.new.self }) (kept-rated _ _ c.requires.kept)
    (ap (λ state. state.log) c.in_ok-decide.ensures.decided.others ∙ same.0) (ap (λ state. state.commands) c.in_ok-decide.ensures.decided.others ∙ same.1)
    (ap (λ state. state.rate) c.in_ok-decide.ensures.decided.others ∙ same.2))

pub decide-requires-clause-last_key : goal.decide-requires-clause-last_key
decide-requires-clause-last_key g c =
    let Last : SessionState g.row.T.Denot g.row.O.Denot → Type 0 = λ state. KeepsLastKey state in
    let was = kept-last_key c.args.enc.now c.args.self.now c.requires.kept in
    elim c.if-number-eq0.branch [
      | then-number-eq0+in_ok-note_key w ↦ subst Last (sym w.self-is) was
      | else-number-eq0 w ↦ subst Last (sym w.self-is) was
    ]
