use Rattle.std.proofs.Common.{◌≡◌, ℤ, ◌≤◌, ◌+◌, [], IfOk, OnOk, None, Some, refl, sym, ap, subst, subst₂, ◌∙◌, append-nil, to_z, of_z, w64, rules}
use Rattle.std.specs.List.{slice_get}
use Rattle.std.proofs.lemmas.Result.{IfOk-weaker, MatchResult-weaker}
use Rattle.quantizers.specs.Tables.{Tables}
use Rattle.session_core.specs.declared.state.SessionState.{SessionState}
use Rattle.session_core.specs.Moments.{Moment, plan_at}
use Rattle.session_core.specs.Quantisers.{passes_behind}
use Rattle.session_core.specs.Scales.{AreScaled, frame_of, picture_at, scale_list}
use Rattle.session_core.specs.States.{moment_of, passes_at, CanCode, FailsCoding, IsAdvanced, IsCodedTurn, IsDue, IsRatedBehind, IsTried}
use Rattle.session_core.specs.Turns.{AreTrials, after_receive, held_back}
use Rattle.session_core.proofs.Scheduling.{commands-fit, kept-rated, kept-schedule, next-planned, next-there}
use Rattle.session_core.proofs.Passing.{behind-nothing}
use Rattle.session_core.proofs.Scaling.{scaled-none}
use Rattle.session_core.proofs.StateLemmas.{turn-codes}
use Rattle.session_core.proofs.Telling.{coder-same, coder-then, counts-none, taken-none}
use Rattle.session_core.proofs.Trying.{begin-none, coding-fails, kept-answered, quiet-quantised, tries-few, tries-marked, tries-of, tries-scales, turn-counted, turn-next, turn-passes, turn-quantised, turn-scaled, turn-taken}
use Rattle.session_core.proofs.state.SessionState.receive.Given as given
use Rattle.session_core.proofs.state.SessionState.receive.Goals as goal

-- ---- where nothing is coded

pub returns-in-Some-clause-quantised : goal.returns-in-Some-clause-quantised
returns-in-Some-clause-quantised g c =
    quiet-quantised c.args.enc.now _ _ (moment_of c.args.self.now) c.without_log.result c.without_log.ensures.log
    (c.without_log.ensures.reservoir _ _ _ _ (kept-rated _ _ c.requires.kept).keeps)

pub returns-in-Some-clause-taken : goal.returns-in-Some-clause-taken
returns-in-Some-clause-taken g c = rw (c.without_log.ensures.log, c.without_log.ensures.reply) (taken-none _)

pub returns-in-Some-clause-scaled : goal.returns-in-Some-clause-scaled
returns-in-Some-clause-scaled g c = rw c.without_log.ensures.log (scaled-none _)

-- ---- the next command

pub unreachable-requires : goal.unreachable-requires
unreachable-requires g c =
    let due : held_back c.args.enc.now (moment_of c.args.self.now) ≡ None = sym c.held_back.ensures ∙ c.in_default.is in
    next-there c.args.enc.now (moment_of c.args.self.now) c.next_command.result (c.next_command.ensures _ _ _ _ _ _ (kept-schedule _ _ c.requires.kept))
    (c.requires.ready.there due) c.in_default-next_command.is

pub mean_scale-requires-clause-next : goal.mean_scale-requires-clause-next
mean_scale-requires-clause-next g c =
    c.requires.ready.next _
    (next-planned c.args.enc.now (moment_of c.args.self.now) c.next_command.result _ (c.next_command.ensures _ _ _ _ _ _ (kept-schedule _ _ c.requires.kept)) c.in-Some-next_command.is)

pub try_command-requires-clause-next : goal.try_command-requires-clause-next
try_command-requires-clause-next g c =
    c.requires.ready.next _
    (next-planned c.args.enc.now (moment_of c.args.self.now) c.next_command.result _ (c.next_command.ensures _ _ _ _ _ _ (kept-schedule _ _ c.requires.kept)) c.in-Some-next_command.is)

pub try_command-requires-clause-due : goal.try_command-requires-clause-due
try_command-requires-clause-due g c = record {
  scheduled = kept-schedule _ _ c.requires.kept;
  known = c.requires.ready.there (sym c.held_back.ensures ∙ c.in_default.is);
}

pub try_command-requires-clause-room : goal.try_command-requires-clause-room
try_command-requires-clause-room g c =
    commands-fit c.args.enc.now (moment_of c.args.self.now) c.requires.ready.few (c.requires.ready.there (sym c.held_back.ensures ∙ c.in_default.is))

pub returns-in-Err-clause-failed : goal.returns-in-Err-clause-failed
returns-in-Err-clause-failed g c = λ detector.
    let enc = c.args.enc.now in
    let self = c.args.self.now in
    let m = moment_of self in
    let told = g.C.FrameCoder.told c.args.coder.now in
    let command = c.in-Some-next_command.command in
    let due : held_back enc m ≡ None = sym c.held_back.ensures ∙ c.in_default.is in
    let planned = next-planned enc m c.next_command.result command (c.next_command.ensures _ _ _ _ _ _ (kept-schedule _ _ c.requires.kept)) c.in-Some-next_command.is in
    coding-fails enc self.rate.tables (passes_at self) m command [] (scale_list command c.in_ok-mean_scale.mean_scale) told told (g.C.FrameCoder.told c.try_command.new.coder) detector _ _ c.in-Err.fault
    due planned (begin-none enc m command) tt c.in_ok-mean_scale.ensures.scaled refl (taken-none told) (counts-none told.fails_after) (coder-same told)
    c.try_command.ensures.later.gives c.in-Err.ensures.failed

-- ---- behind the tries

pub code_command-requires-clause-next : goal.code_command-requires-clause-next
code_command-requires-clause-next g c =
    subst (λ (m : Moment g.row.T.Denot g.row.O.Denot). CanCode m c.in-Some-next_command.command) (sym (ap moment_of c.try_command.ensures.others))
    (c.requires.ready.next _
    (next-planned c.args.enc.now (moment_of c.args.self.now) c.next_command.result _ (c.next_command.ensures _ _ _ _ _ _ (kept-schedule _ _ c.requires.kept)) c.in-Some-next_command.is))

pub code_command-requires-clause-due : goal.code_command-requires-clause-due
code_command-requires-clause-due g c =
    subst (λ (state : SessionState g.row.T.Denot g.row.O.Denot). IsDue c.args.enc.now (moment_of state) state.schedule) (sym c.try_command.ensures.others) (record {
      scheduled = kept-schedule _ _ c.requires.kept;
      known = c.requires.ready.there (sym c.held_back.ensures ∙ c.in_default.is);
    })

pub code_command-requires-clause-room : goal.code_command-requires-clause-room
code_command-requires-clause-room g c =
    subst (λ (state : SessionState g.row.T.Denot g.row.O.Denot). state.commands + 2 ≤ 4294967296) (sym c.try_command.ensures.others)
    (commands-fit c.args.enc.now (moment_of c.args.self.now) c.requires.ready.few (c.requires.ready.there (sym c.held_back.ensures ∙ c.in_default.is)))

pub code_command-requires-clause-tries : goal.code_command-requires-clause-tries
code_command-requires-clause-tries g c =
    tries-marked c.in-Some-next_command.command c.in-Ok.trials (tries-of c.args.enc.now (moment_of c.args.self.now) _ _ c.in-Ok.ensures.tried.tried)

pub code_command-requires-clause-single : goal.code_command-requires-clause-single
code_command-requires-clause-single g c =
    tries-few c.in-Some-next_command.command c.in-Ok.trials (tries-of c.args.enc.now (moment_of c.args.self.now) _ _ c.in-Ok.ensures.tried.tried)

-- ---- the command for good

due : (g : given.Over) (c : goal.After-code_command g) → held_back c.args.enc.now (moment_of c.args.self.now) ≡ None
due g c = sym c.held_back.ensures ∙ c.in_default.is

-- the next command is the plan's
planned : (g : given.Over) (c : goal.After-code_command g) → slice_get (plan_at c.args.enc.now (moment_of c.args.self.now)) c.args.self.now.commands ≡ Some c.in-Some-next_command.command
planned g c = next-planned c.args.enc.now (moment_of c.args.self.now) c.next_command.result _ (c.next_command.ensures _ _ _ _ _ _ (kept-schedule _ _ c.requires.kept)) c.in-Some-next_command.is

-- the moment of the tries is the receive's
same : (g : given.Over) (c : goal.After-code_command g) → moment_of c.try_command.new.self ≡ moment_of c.args.self.now
same g c = ap moment_of c.try_command.ensures.others

-- the mean scale, as a number of 64 bits
abbrev scale : (g : given.Over) (c : goal.After-code_command g) → ℤ
scale g c = to_z w64 (of_z w64 c.in_ok-mean_scale.mean_scale)

scaled : (g : given.Over) (c : goal.After-code_command g) →
    AreScaled (frame_of (picture_at (moment_of c.args.self.now)) c.in-Some-next_command.command) (scale_list c.in-Some-next_command.command (scale g c))
    (g.S.MeanScale.told c.args.scales.now) (g.S.MeanScale.told c.mean_scale.new.scales)
scaled g c =
    let same : to_z w64 (of_z w64 c.in_ok-mean_scale.mean_scale) ≡ c.in_ok-mean_scale.mean_scale = search rules in
    subst (λ (value : ℤ). AreScaled (frame_of (picture_at (moment_of c.args.self.now)) c.in-Some-next_command.command) (scale_list c.in-Some-next_command.command value)
    (g.S.MeanScale.told c.args.scales.now) (g.S.MeanScale.told c.mean_scale.new.scales)) (sym same) c.in_ok-mean_scale.ensures.scaled

tried : (g : given.Over) (c : goal.After-code_command g) →
    IsTried c.args.enc.now c.args.self.now.rate.tables (passes_at c.args.self.now) (moment_of c.args.self.now) c.in-Some-next_command.command (scale g c) c.in-Ok.trials
    (g.C.FrameCoder.told c.args.coder.now) (g.C.FrameCoder.told c.try_command.new.coder)
tried g c = c.in-Ok.ensures.tried

moved : (g : given.Over) (c : goal.After-code_command g) →
    passes_at c.try_command.new.self ≡ passes_behind c.args.enc.now (passes_at c.args.self.now) (moment_of c.args.self.now).log c.in-Ok.trials
moved g c = c.in-Ok.ensures.passes

coded : (g : given.Over) (c : goal.After-code_command g) → IfOk c.code_command.result (λ turn.
    IsCodedTurn c.args.enc.now c.args.self.now.rate.tables (passes_at c.try_command.new.self) (passes_at c.code_command.new.self) (moment_of c.args.self.now) c.in-Some-next_command.command (scale g c) c.in-Ok.trials turn
    (g.C.FrameCoder.told c.try_command.new.coder) (g.C.FrameCoder.told c.code_command.new.coder))
coded g c =
    subst₂ (λ (m : Moment g.row.T.Denot g.row.O.Denot) (tables : Tables). IfOk c.code_command.result (λ turn.
    IsCodedTurn c.args.enc.now tables (passes_at c.try_command.new.self) (passes_at c.code_command.new.self) m c.in-Some-next_command.command (scale g c) c.in-Ok.trials turn
    (g.C.FrameCoder.told c.try_command.new.coder) (g.C.FrameCoder.told c.code_command.new.coder)))
    (same g c) c.try_command.ensures.tables c.code_command.ensures.coded

pub returns-clause-turn : goal.returns-clause-turn
returns-clause-turn g c =
    IfOk-weaker c.code_command.result _ _
    (λ turn is. turn-codes c.args.enc.now (moment_of c.args.self.now) turn (due g c) (turn-next _ _ _ _ _ _ _ _ _ turn _ _ _ (tried g c) (moved g c) is (planned g c)))
    (coded g c)

pub returns-clause-quantised : goal.returns-clause-quantised
returns-clause-quantised g c = IfOk-weaker c.code_command.result _ _ (λ turn is. turn-quantised _ _ _ _ _ _ _ _ _ turn _ _ _ (tried g c) (moved g c) is) (coded g c)

pub returns-clause-taken : goal.returns-clause-taken
returns-clause-taken g c = IfOk-weaker c.code_command.result _ _ (λ turn is. turn-taken _ _ _ _ _ _ _ _ _ turn _ _ _ (tried g c) (moved g c) is) (coded g c)

pub returns-clause-counted : goal.returns-clause-counted
returns-clause-counted g c = IfOk-weaker c.code_command.result _ _ (λ turn is. turn-counted _ _ _ _ _ _ _ _ _ turn _ _ _ (tried g c) (moved g c) is) (coded g c)

pub returns-clause-scaled : goal.returns-clause-scaled
returns-clause-scaled g c = IfOk-weaker c.code_command.result _ _ (λ turn is. turn-scaled _ _ _ _ _ _ _ _ _ turn _ _ _ (tried g c) (moved g c) is _ _ (scaled g c)) (coded g c)

pub returns-clause-later : goal.returns-clause-later
returns-clause-later g c = coder-then _ _ _ c.try_command.ensures.later c.code_command.ensures.later

pub returns-clause-failed : goal.returns-clause-failed
returns-clause-failed g c =
    let enc = c.args.enc.now in
    let self = c.args.self.now in
    let m = moment_of self in
    let command = c.in-Some-next_command.command in
    let is = tried g c in
    let told = g.C.FrameCoder.told c.args.coder.now in
    let between = g.C.FrameCoder.told c.try_command.new.coder in
    let now = g.C.FrameCoder.told c.code_command.new.coder in
    MatchResult-weaker c.code_command.result c.code_command.ensures.failed (λ turn _. tt)
    (λ fault fails detector.
    coding-fails enc self.rate.tables (passes_at self) m command c.in-Ok.trials (scale_list command (scale g c)) told between now detector _ _ fault (due g c) (planned g c)
    ([], subst (AreTrials enc m command) (sym (append-nil c.in-Ok.trials)) is.tried) is.selected (scaled g c)
    (tries-scales command c.in-Ok.trials (scale g c) (tries-of enc m command c.in-Ok.trials is.tried) is.alike)
    is.taken is.counted c.try_command.ensures.later c.code_command.ensures.later.gives
    (subst (λ (state : SessionState g.row.T.Denot g.row.O.Denot). FailsCoding state.commands between now fault) c.try_command.ensures.others fails))

pub returns-clause-kept : goal.returns-clause-kept
returns-clause-kept g c =
    let enc = c.args.enc.now in
    let self = c.args.self.now in
    let after = c.code_command.new.self in
    let result = c.code_command.result in
    kept-answered enc _ _ _ self after c.in-Some-next_command.command (scale g c) c.in-Ok.trials result _ _ _ (tried g c) (moved g c) (coded g c) c.requires.kept
    (c.code_command.ensures.last_key ∙ ap (λ (state : SessionState g.row.T.Denot g.row.O.Denot). state.last_key) c.try_command.ensures.others)
    (subst (λ (m : Moment g.row.T.Denot g.row.O.Denot). IfOk result (λ turn. moment_of after ≡ after_receive m turn.log turn.reply)) (same g c) c.code_command.ensures.after)
    (subst (λ (state : SessionState g.row.T.Denot g.row.O.Denot). OnOk result (IsAdvanced state.schedule after.schedule)) c.try_command.ensures.others c.code_command.ensures.schedule)
    (c.requires.ready.there (due g c))
    (subst₂ (λ (m : Moment g.row.T.Denot g.row.O.Denot) (tables : Tables). IfOk result (λ turn. IsRatedBehind enc tables m turn.log after.rate))
    (same g c) c.try_command.ensures.tables c.code_command.ensures.rated)
    (c.code_command.ensures.tables ∙ c.try_command.ensures.tables)

pub returns-clause-passes : goal.returns-clause-passes
returns-clause-passes g c = IfOk-weaker c.code_command.result _ _ (λ turn is. turn-passes _ _ _ _ _ _ _ _ _ turn _ _ _ (tried g c) (moved g c) is) (coded g c)

pub returns-in-Some-clause-passes : goal.returns-in-Some-clause-passes
returns-in-Some-clause-passes g c =
    sym (behind-nothing c.args.enc.now (passes_at c.args.self.now) (moment_of c.args.self.now).log c.without_log.result.log c.without_log.ensures.log)
