use Rattle.std.proofs.Common.{◌≡◌, ℕ, ℤ, pos, ◌+◌, List, [], ◌∷◌, ◌++◌, map, length, cond, sym, ap, ap₂, ◌∙◌, subst, to_z, of_z, w64, rules}
use Rattle.std.proofs.lemmas.List.{length-map}
use Rattle.pyramid.specs.Known.{is_coding}
use Rattle.pyramid.specs.Schedules.{IsSchedule}
use Rattle.pyramid.specs.declared.schedule.Schedule.{Schedule}
use Rattle.session_log.specs.Passes.{passes_after}
use Rattle.session_log.specs.Keeps.{IsLog, Keeps, RateKept}
use Rattle.session_log.specs.declared.entry.LogEntry.{LogEntry}
use Rattle.session_core.specs.declared.state.SessionState.{SessionState}
use Rattle.session_core.specs.Moments.{Moment}
use Rattle.session_core.specs.States.{moment_of, passes_at, waiting_of, CanCode, IsRatedBehind}
use Rattle.session_core.specs.Turns.{after_receive}
use Rattle.session_core.proofs.Passing.{passes-are}
use Rattle.session_core.proofs.StateLemmas.{taken-coded}
use Rattle.session_core.proofs.Trying.{after-tries, next-log, rated-next}
use Rattle.session_core.proofs.state.SessionState.code_command.Given as given
use Rattle.session_core.proofs.state.SessionState.code_command.Goals as goal

-- the log has the tries and the entry
logged : (g : given.Over) (c : goal.Joined-coded-3 g) → c.push.new.self ≡ c.args.trials ++ c.in-Ok.coded.entry ∷ []
logged g c = c.in_ok-push.ensures.ok ∙ ap (λ (e : LogEntry). c.args.trials ++ e ∷ []) c.in_ok-reply.ensures.entry

kept : (g : given.Over) (c : goal.Joined-coded-3 g) →
    Keeps c.args.enc.now c.args.self.now.rate.tables
    (passes_after c.args.enc.now (passes_at c.args.self.now) ((moment_of c.args.self.now).log ++ c.args.trials) c.in-Ok.coded.entry) (((moment_of c.args.self.now).log ++ c.args.trials) ++ c.in-Ok.coded.entry ∷ []) c.note.new.self
kept g c =
    let enc = c.args.enc.now in
    let self = c.args.self.now in
    let m = moment_of self in
    let before : List LogEntry = m.log ++ c.args.trials in
    let is_log = next-log enc self.rate.tables m c.args.trials c.in-Ok.coded.entry self.rate c.requires.rated c.requires.single c.requires.room c.in-Ok.ensures.coded.sized in
    subst (λ (e : LogEntry). Keeps enc self.rate.tables (passes_after enc (passes_at self) before e) (before ++ e ∷ []) c.note.new.self) c.in_ok-reply.ensures.entry
    (c.note.ensures.keeps enc self.rate.tables (passes_at self) before
    (subst (λ (rate : RateKept). Keeps enc self.rate.tables (passes_at self) before rate) (sym c.in_ok-reply.ensures.rate) c.requires.rated.keeps)
    (subst (λ (e : LogEntry). IsLog (before ++ e ∷ [])) (sym c.in_ok-reply.ensures.entry) is_log))

rated : (g : given.Over) (c : goal.Joined-coded-3 g) →
    IsRatedBehind c.args.enc.now c.args.self.now.rate.tables (moment_of c.args.self.now) c.push.new.self c.remember.new.self.rate
rated g c =
    let enc = c.args.enc.now in
    let self = c.args.self.now in
    let m = moment_of self in
    subst (λ (rate : RateKept). IsRatedBehind enc self.rate.tables m c.push.new.self rate)
    (sym (ap (λ (state : SessionState g.row.T.Denot g.row.O.Denot). state.rate) c.remember.ensures.others))
    (subst (λ (log : List LogEntry). IsRatedBehind enc self.rate.tables m log c.note.new.self) (sym (logged g c))
    (rated-next enc self.rate.tables _ m c.args.trials c.in-Ok.coded.entry self.rate c.note.new.self c.requires.rated c.in-Ok.ensures.coded.sized (kept g c)))

pub returns-clause-rated : goal.returns-clause-rated
returns-clause-rated g c = rated g c

pub returns-clause-coded : goal.returns-clause-coded
returns-clause-coded g c =
    let self = c.args.self.now in
    let m = moment_of self in
    let same : to_z w64 (of_z w64 c.args.mean_scale) ≡ c.args.mean_scale = search rules in
    let waits : self.packets + length (map waiting_of self.waiting.items) ≡ self.accepted =
    ap (λ (n : ℕ). self.packets + n) (length-map self.waiting.items waiting_of) ∙ c.requires.waits in
    record {
      entry = c.in-Ok.coded.entry;
      log = logged g c;
      command_of = c.in-Ok.ensures.command;
      real = c.in-Ok.ensures.trial;
      scale_of = c.in-Ok.ensures.scale ∙ ap (λ (scale : ℤ). cond (is_coding c.args.command.now) scale (pos 0)) same;
      quant = c.in-Ok.ensures.quant self.rate.tables (m.log ++ c.args.trials) c.requires.rated.keeps;
      reply = c.in_ok-reply.ensures.reply;
      moved = passes-are _ _ _ _ _
          (subst (λ (rate : RateKept). Keeps c.args.enc.now self.rate.tables
          (passes_after c.args.enc.now (passes_at self) (m.log ++ c.args.trials) c.in-Ok.coded.entry) ((m.log ++ c.args.trials) ++ c.in-Ok.coded.entry ∷ []) rate)
          (sym (ap (λ (state : SessionState g.row.T.Denot g.row.O.Denot). state.rate) c.remember.ensures.others)) (kept g c));
      reservoir = c.reservoir.ensures c.args.enc.now self.rate.tables _ (m.log ++ c.push.new.self) (rated g c).keeps;
      taken = taken-coded m c.in-Ok.coded c.in_ok-reply.reply _ _ waits (subst (CanCode m) (sym c.in-Ok.ensures.command) c.requires.next) c.in-Ok.ensures.trial
          c.in_ok-reply.ensures.carries c.in-Ok.ensures.coded c.code.ensures.later.gives;
      counted = c.in-Ok.ensures.coded.counted;
    }

pub returns-clause-after : goal.returns-clause-after
returns-clause-after g c =
    let m = moment_of c.args.self.now in
    let answered = moment_of c.answer.new.self in
    let with_log : List LogEntry → List LogEntry → Moment g.row.T.Denot g.row.O.Denot = λ a b. record answered { log = a ++ b } in
    let same : answered.log ≡ m.log = ap (λ log. map (λ pair. pair.0) log.items) c.in_ok-reply.ensures.log in
    c.remember.ensures.log ∙ ap₂ with_log same (logged g c)
    ∙ after-tries m answered c.args.trials c.in-Ok.coded.entry c.in_ok-reply.reply c.requires.tries c.in-Ok.ensures.trial c.in_ok-reply.ensures.after
    ∙ ap (λ (log : List LogEntry). after_receive m log c.in_ok-reply.reply) (sym (logged g c))

pub returns-clause-schedule : goal.returns-clause-schedule
returns-clause-schedule g c = λ numbers interval frames flushed keys commands below is.
    subst (λ (schedule : Schedule). IsSchedule numbers interval frames flushed keys (commands + 1) schedule)
    (sym (ap (λ (state : SessionState g.row.T.Denot g.row.O.Denot). state.schedule) c.remember.ensures.others))
    (c.advance.ensures.known numbers interval frames flushed keys commands below
    (subst (λ (schedule : Schedule). IsSchedule numbers interval frames flushed keys commands schedule) (sym c.in_ok-reply.ensures.schedule) is))
