use Rattle.std.proofs.Common.{◌≡◌, IfOk, refl, sym, ap, ◌∙◌, subst}
use Rattle.std.proofs.lemmas.Result.{MatchResult-weaker}
use Rattle.session_log.specs.Keeps.{Keeps, RateKept}
use Rattle.session_core.specs.declared.call.Call.{Call}
use Rattle.session_core.specs.declared.call.Call.TheVariants.{Send, Flush}
use Rattle.session_core.specs.declared.state.SessionState.{SessionState}
use Rattle.session_core.specs.declared.transcript.Reply.TheVariants.{Flushed}
use Rattle.session_core.specs.States.{moment_of, passes_at}
use Rattle.session_core.specs.Steps.{Fails, IsStep}
use Rattle.session_core.specs.Taken.{packet_of}
use Rattle.session_core.specs.Told.{IsDetectorLater, heard}
use Rattle.session_core.specs.Turns.{Decides, IsTurn, accepted_of, after_send, sent_reply}
use Rattle.session_core.proofs.Scheduling.{kept-rated}
use Rattle.session_core.proofs.Telling.{coder-same, detector-same, scales-same}
use Rattle.session_core.proofs.Turning.{quiet-step, receive-step, sent-packet}
use Rattle.session_core.proofs.state.SessionState.turn.Goals as goal
use Rattle.session_core.proofs.state.SessionState.turn.Goals.{in-Send+in_ok-reply-in-Send, in-Flush+in_ok-reply-in-Flush}

pub returns-in-Receive-clause-step : goal.returns-in-Receive-clause-step
returns-in-Receive-clause-step g c =
    let told = g.D.Detector.told c.args.detector.now in
    subst
    (λ (call : Call g.row.T.Denot g.row.O.Denot). IfOk c.receive.result (λ turn. IsStep c.args.enc.now c.args.self.now.rate.tables (passes_at c.args.self.now) call turn (moment_of c.args.self.now) (moment_of c.receive.new.self)
    (heard (g.C.FrameCoder.told c.args.coder.now) told (g.S.MeanScale.told c.args.scales.now)) (heard (g.C.FrameCoder.told c.receive.new.coder) told (g.S.MeanScale.told c.receive.new.scales))))
    (sym c.in-Receive.is)
    (receive-step c.args.enc.now c.args.self.now.rate.tables (passes_at c.args.self.now) c.receive.result (moment_of c.args.self.now) (moment_of c.receive.new.self) _ _ told _ _
    c.receive.ensures.turn c.receive.ensures.after c.receive.ensures.same c.receive.ensures.quantised c.receive.ensures.taken c.receive.ensures.counted c.receive.ensures.scaled)

pub returns-in-Receive-clause-failed : goal.returns-in-Receive-clause-failed
returns-in-Receive-clause-failed g c =
    let told = g.D.Detector.told c.args.detector.now in
    MatchResult-weaker c.receive.result c.receive.ensures.failed (λ turn _. tt)
    (λ fault fails. subst (λ (call : Call g.row.T.Denot g.row.O.Denot). Fails c.args.enc.now c.args.self.now.rate.tables (passes_at c.args.self.now) call (moment_of c.args.self.now)
    (heard (g.C.FrameCoder.told c.args.coder.now) told (g.S.MeanScale.told c.args.scales.now)) (heard (g.C.FrameCoder.told c.receive.new.coder) told (g.S.MeanScale.told c.receive.new.scales)) fault)
    (sym c.in-Receive.is) (fails told))

pub returns-in-Receive-clause-later : goal.returns-in-Receive-clause-later
returns-in-Receive-clause-later g c = record { coder = c.receive.ensures.later; detector = detector-same _; scales = c.receive.ensures.scales_later }

pub returns-clause-step : goal.returns-clause-step
returns-clause-step g c =
    let enc = c.args.enc.now in
    let tables = c.args.self.now.rate.tables in
    let passes = passes_at c.args.self.now in
    let before = moment_of c.args.self.now in
    let coder = g.C.FrameCoder.told c.args.coder.now in
    let scales = g.S.MeanScale.told c.args.scales.now in
    let told = g.D.Detector.told in
    let turn = c.without_log.result in
    let log = c.without_log.ensures.log in
    let Steps : Call g.row.T.Denot g.row.O.Denot → SessionState g.row.T.Denot g.row.O.Denot → g.row.D.Denot → Type 0 =
    λ call state detector. IsStep enc tables passes call turn before (moment_of state) (heard coder (told c.args.detector.now) scales) (heard coder (told detector) scales) in
    let rated = kept-rated enc c.args.self.now c.requires.kept in
    let Held : SessionState g.row.T.Denot g.row.O.Denot → Type 0 = λ state. Keeps enc tables passes before.log state.rate in
    elim c.match-call.branch [
      | in-Send+in_ok-reply-in-Send w ↦
          let call : Call g.row.T.Denot g.row.O.Denot = Send w.in-Send.frame w.in-Send.parameters in
          let now = w.send.new in
          let facts = w.in_ok-reply-in-Send.ensures in
          let reply : turn.reply ≡ sent_reply enc before w.in-Send.frame.value = c.without_log.ensures.reply ∙ w.reply-is ∙ facts.reply in
          let after : moment_of now.self ≡ after_send enc now.self.decisions.items before (accepted_of w.in-Send.frame.value w.in-Send.parameters) turn.reply =
          facts.after ∙ ap (after_send enc now.self.decisions.items before (accepted_of w.in-Send.frame.value w.in-Send.parameters)) (sym (c.without_log.ensures.reply ∙ w.reply-is)) in
          let is : IsTurn enc (moment_of now.self).decisions before call turn = ((reply, log), subst (Decides enc before) after facts.decides) in
          let keeps : Held c.match-call.self = subst Held (sym w.self-is) (subst (λ (rate : RateKept). Keeps enc tables passes before.log rate) (sym facts.rate) rated.keeps) in
          subst (λ call. Steps call c.match-call.self c.match-call.detector) (sym w.in-Send.is)
          (subst (λ state. Steps call state c.match-call.detector) (sym w.self-is)
          (subst (λ detector. Steps call now.self detector) (sym w.detector-is)
          (quiet-step enc tables passes call turn before (moment_of now.self) coder _ _ scales log (c.without_log.ensures.reservoir enc tables passes before.log keeps)
          (ap packet_of reply ∙ sent-packet enc before w.in-Send.frame.value) is after facts.asked)))
      | in-Flush+in_ok-reply-in-Flush w ↦
          let now = w.flush.new in
          let facts = w.in_ok-reply-in-Flush.ensures in
          let reply : turn.reply ≡ Flushed = c.without_log.ensures.reply ∙ w.reply-is ∙ facts.reply in
          let is : IsTurn enc (moment_of now.self).decisions before Flush turn = ((reply, log), subst (Decides enc before) facts.after facts.decides) in
          let keeps : Held c.match-call.self = subst Held (sym w.self-is) (subst (λ (rate : RateKept). Keeps enc tables passes before.log rate) (sym facts.rate) rated.keeps) in
          subst (λ call. Steps call c.match-call.self c.match-call.detector) (sym w.in-Flush.is)
          (subst (λ state. Steps Flush state c.match-call.detector) (sym w.self-is)
          (subst (λ detector. Steps Flush now.self detector) (sym w.detector-is)
          (quiet-step enc tables passes Flush turn before (moment_of now.self) coder _ _ scales log (c.without_log.ensures.reservoir enc tables passes before.log keeps)
          (ap packet_of reply) is facts.after facts.asked)))
    ]

pub returns-clause-later : goal.returns-clause-later
returns-clause-later g c =
    let told = g.D.Detector.told in
    let Grows : g.row.D.Denot → Type 0 = λ detector. IsDetectorLater (told c.args.detector.now) (told detector) in
    record {
      coder = coder-same _;
      detector = elim c.match-call.branch [
        | in-Send+in_ok-reply-in-Send w ↦ subst Grows (sym w.detector-is) w.send.ensures.later
        | in-Flush+in_ok-reply-in-Flush w ↦ subst Grows (sym w.detector-is) w.flush.ensures.later
      ];
      scales = scales-same _;
    }

pub returns-in_err-reply-in-Send-clause-later : goal.returns-in_err-reply-in-Send-clause-later
returns-in_err-reply-in-Send-clause-later g c = record { coder = coder-same _; detector = c.send.ensures.later; scales = scales-same _ }

pub returns-in_err-reply-in-Send-clause-unused : goal.returns-in_err-reply-in-Send-clause-unused
returns-in_err-reply-in-Send-clause-unused g c = rw c.in-Send.is (refl, refl)

pub returns-in_err-reply-in-Flush-clause-unused : goal.returns-in_err-reply-in-Flush-clause-unused
returns-in_err-reply-in-Flush-clause-unused g c = rw c.in-Flush.is (refl, refl)

pub returns-in-Receive-clause-unused : goal.returns-in-Receive-clause-unused
returns-in-Receive-clause-unused g c = rw c.in-Receive.is refl

pub returns-clause-unused : goal.returns-clause-unused
returns-clause-unused g c = elim c.match-call.branch [
  | in-Send+in_ok-reply-in-Send w ↦ rw w.in-Send.is (refl, refl)
  | in-Flush+in_ok-reply-in-Flush w ↦ rw w.in-Flush.is (refl, refl)
]

pub returns-in_err-reply-in-Flush-clause-later : goal.returns-in_err-reply-in-Flush-clause-later
returns-in_err-reply-in-Flush-clause-later g c = record { coder = coder-same _; detector = c.flush.ensures.later; scales = scales-same _ }
