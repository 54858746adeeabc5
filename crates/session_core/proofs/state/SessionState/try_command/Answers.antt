use Rattle.std.proofs.Common.{◌≡◌, ◌+◌, ◌∷◌, [], ◌++◌, List, ℕ, ℤ, pos, cond, map, length, to_z, of_z, w64, sym, ap, ◌∙◌, subst, zero-le, rules}
use Rattle.std.proofs.lemmas.Bool.{and_parts}
use Rattle.std.proofs.lemmas.List.{length-map}
use Rattle.pyramid.specs.Known.{is_coding}
use Rattle.session_log.specs.declared.entry.LogEntry.{LogEntry}
use Rattle.session_core.specs.States.{moment_of, passes_at, waiting_of, IsRatedBehind, IsTried}
use Rattle.session_core.specs.Quantisers.{passes_behind}
use Rattle.session_core.proofs.Passing.{behind-nothing, behind-push, passes-are}
use Rattle.session_core.proofs.Scheduling.{kept-rated}
use Rattle.session_core.proofs.Trying.{next-log, rated-next, rated-none, tried-nothing, tried-once}
use Rattle.session_core.proofs.state.SessionState.try_command.Given as given
use Rattle.session_core.proofs.state.SessionState.try_command.Goals as goal

pub code-requires-clause-tried : goal.code-requires-clause-tried
code-requires-clause-tried g c = λ tried.
    (and_parts (is_coding c.args.command.now) _
    (sym (c.is_trial_due.ensures _ _ _ _ (kept-rated _ _ c.requires.kept).keeps) ∙ c.if-not-is_trial_due.false)).0

pub returns-then-not-is_trial_due-clause-tried : goal.returns-then-not-is_trial_due-clause-tried
returns-then-not-is_trial_due-clause-tried g c =
    let self = c.args.self.now in
    let told = g.C.FrameCoder.told c.args.coder.now in
    subst (λ (trials : List LogEntry). IsTried c.args.enc.now self.rate.tables (passes_at self) (moment_of self) c.args.command.now c.args.mean_scale trials told told)
    (sym c.new-trials.ensures)
    (tried-nothing c.args.enc.now self.rate.tables (passes_at self) (moment_of self) c.args.command.now c.args.mean_scale told
    (sym (c.is_trial_due.ensures _ _ _ _ (kept-rated _ _ c.requires.kept).keeps) ∙ c.if-not-is_trial_due.true))

pub returns-then-not-is_trial_due-clause-rated : goal.returns-then-not-is_trial_due-clause-rated
returns-then-not-is_trial_due-clause-rated g c =
    let self = c.args.self.now in
    subst (λ (trials : List LogEntry). IsRatedBehind c.args.enc.now self.rate.tables (moment_of self) trials self.rate) (sym c.new-trials.ensures)
    (rated-none c.args.enc.now (moment_of self) self.rate (kept-rated _ _ c.requires.kept))

one : (g : given.Over) (c : goal.Joined-coded-2 g) → c.push.new.self ≡ c.in-Ok.coded.entry ∷ []
one g c = c.in_ok-push-in-Ok.ensures.ok ∙ ap (λ (l : List LogEntry). l ++ c.in-Ok.coded.entry ∷ []) c.new-trials.ensures

pub returns-in_ok-push-in-Ok-clause-tried : goal.returns-in_ok-push-in-Ok-clause-tried
returns-in_ok-push-in-Ok-clause-tried g c =
    let self = c.args.self.now in
    let told = g.C.FrameCoder.told c.args.coder.now in
    let now = g.C.FrameCoder.told c.code.new.coder in
    let rated = kept-rated c.args.enc.now self c.requires.kept in
    let waits : self.packets + length (map waiting_of self.waiting.items) ≡ self.accepted =
    ap (λ (n : ℕ). self.packets + n) (length-map self.waiting.items waiting_of) ∙ c.requires.waits in
    let same : to_z w64 (of_z w64 c.args.mean_scale) ≡ c.args.mean_scale = search rules in
    let scaled : c.in-Ok.coded.entry.mean_scale ≡ cond (is_coding c.args.command.now) c.args.mean_scale (pos 0) =
    c.in-Ok.ensures.scale ∙ ap (λ (scale : ℤ). cond (is_coding c.args.command.now) scale (pos 0)) same in
    subst (λ (trials : List LogEntry). IsTried c.args.enc.now self.rate.tables (passes_at self) (moment_of self) c.args.command.now c.args.mean_scale trials told now) (sym (one g c))
    (tried-once c.args.enc.now self.rate.tables (passes_at self) (moment_of self) c.args.command.now c.args.mean_scale c.in-Ok.coded told now waits c.requires.next
    (sym (c.is_trial_due.ensures _ _ _ _ rated.keeps) ∙ c.if-not-is_trial_due.false)
    c.in-Ok.ensures.command c.in-Ok.ensures.trial scaled (c.in-Ok.ensures.quant _ _ rated.keeps) c.in-Ok.ensures.coded c.code.ensures.later.gives)

pub returns-in_ok-push-in-Ok-clause-rated : goal.returns-in_ok-push-in-Ok-clause-rated
returns-in_ok-push-in-Ok-clause-rated g c =
    let self = c.args.self.now in
    let enc = c.args.enc.now in
    let tables = self.rate.tables in
    let m = moment_of self in
    let entry = c.in-Ok.coded.entry in
    let behind : IsRatedBehind enc tables m [] self.rate = rated-none enc m self.rate (kept-rated _ _ c.requires.kept) in
    let sized = c.in-Ok.ensures.coded.sized in
    subst (λ (trials : List LogEntry). IsRatedBehind enc tables m trials c.note.new.self) (sym (one g c))
    (rated-next enc tables _ m [] entry self.rate c.note.new.self behind sized
    (c.note.ensures.keeps enc tables (passes_at self) (m.log ++ []) behind.keeps (next-log enc tables m [] entry self.rate behind zero-le c.requires.room sized)))

pub returns-then-not-is_trial_due-clause-passes : goal.returns-then-not-is_trial_due-clause-passes
returns-then-not-is_trial_due-clause-passes g c =
    sym (behind-nothing c.args.enc.now (passes_at c.args.self.now) (moment_of c.args.self.now).log c.new-trials.result c.new-trials.ensures)

pub returns-in_ok-push-in-Ok-clause-passes : goal.returns-in_ok-push-in-Ok-clause-passes
returns-in_ok-push-in-Ok-clause-passes g c =
    let self = c.args.self.now in
    let enc = c.args.enc.now in
    let tables = self.rate.tables in
    let m = moment_of self in
    let entry = c.in-Ok.coded.entry in
    let behind : IsRatedBehind enc tables m [] self.rate = rated-none enc m self.rate (kept-rated _ _ c.requires.kept) in
    passes-are enc tables _ _ c.note.new.self
    (c.note.ensures.keeps enc tables (passes_at self) (m.log ++ []) behind.keeps
    (next-log enc tables m [] entry self.rate behind zero-le c.requires.room c.in-Ok.ensures.coded.sized))
    ∙ behind-push enc (passes_at self) m.log [] entry
    ∙ ap (passes_behind enc (passes_at self) m.log) (sym (one g c))
