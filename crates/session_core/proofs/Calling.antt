-- Calls of a context: what one keeps, and what it answers.
use Rattle.std.proofs.Common.{◌≡◌, ℕ, ◌+◌, ◌-◌, ◌/◌, ◌^◌, ◌≤◌, min, take, length, ◌⊎◌, inl, inr, List, [], ◌∷◌, ◌++◌, Bool, true, false, MatchOption, MatchBool, IfOk, IfErr, Option, Some, None, is_some, Result, Ok, Err, refl, sym, ap, ◌∙◌, subst, arith}
use Rattle.std.proofs.lemmas.List.{length-map, length-take}
use Rattle.std.proofs.lemmas.List.Elements.{All-weaker}
use Rattle.av1_frame.specs.declared.frame.Frame.{Frame}
use Rattle.av1_settings.specs.declared.encoder.EncoderConfig.{EncoderConfig}
use Rattle.av1_settings.specs.declared.status.EncoderStatus.{EncoderStatus}
use Rattle.av1_settings.specs.declared.status.EncoderStatus.TheVariants.{NeedMoreData, EnoughData, LimitReached, Encoded, Failure, NotReady, FrameSizeMismatch, OutOfMemory as NoMemory}
use Rattle.av1_settings.specs.Checks.{IsValid}
use Rattle.pyramid.specs.declared.command.Command.{Command}
use Rattle.pyramid.specs.declared.command.Command.TheVariants.{Code, Show}
use Rattle.quantizers.specs.Tables.{Tables}
use Rattle.ratecontrol.specs.Rate.{Rate}
use Rattle.session_log.specs.Keeps.{HasSize, IsSized}
use Rattle.session_log.specs.Passes.{Passes, rate_at}
use Rattle.session_core.specs.declared.call.Call.{Call}
use Rattle.session_core.specs.declared.call.Call.TheVariants.{Send, Flush, Receive}
use Rattle.session_core.specs.declared.call.FrameParameters.{FrameParameters}
use Rattle.session_core.specs.declared.fault.SessionFault.{SessionFault}
use Rattle.session_core.specs.declared.fault.SessionFault.TheVariants.{Coder, OutOfMemory, PassData}
use Rattle.session_core.specs.declared.state.SessionState.{SessionState}
use Rattle.session_core.specs.declared.transcript.Decision.{Decision}
use Rattle.session_core.specs.declared.packet.Packet.{Packet}
use Rattle.session_log.specs.declared.entry.LogEntry.{LogEntry}
use Rattle.session_core.specs.declared.transcript.Reply.{Reply}
use Rattle.session_core.specs.declared.transcript.Reply.TheVariants.{Sent, Flushed, Packet as GivesPacket, Status}
use Rattle.session_core.specs.declared.transcript.Turn.{Turn}
use Rattle.session_core.specs.Contexts.{Session, GivesDone, GivesReply, IsAnswered, IsCall, IsFailed, IsReceiveReply, IsSend, Asks, RunsOut, Waits, at_of, status_of}
use Rattle.session_core.specs.Held.{IsHeld, Leads}
use Rattle.session_core.specs.Moments.{Moment, opening, plan_at}
use Rattle.session_core.specs.PassStates.{IsPassStep, IsReadyTurn, at_state}
use Rattle.session_core.specs.PassTurns.{IsWaiting, PassMoment, awaits_data}
use Rattle.session_core.specs.States.{moment_of, passes_at, waiting_of, IsKept, IsReady}
use Rattle.session_core.specs.Sessions.{commands_of, moment_after}
use Rattle.session_core.specs.Steps.{Fails, IsStep, Unused, WhereRefused}
use Rattle.session_core.specs.Told.{Heard, IsLater}
use Rattle.session_core.specs.Turns.{HaveBytes, frame_limit, held_back, is_showing, IsNextPacket, IsTurn, CodesNext, OnlyReplies}
use Rattle.session_core.proofs.PlanAt.{plan-of}
use Rattle.session_core.proofs.Playing.{leads-ready, leads-step}
use Rattle.session_core.proofs.Scheduling.{kept-rated}
use Rattle.session_core.proofs.SessionLaws.{on-plan}

-- ---- what is kept

pub held-fresh : {T O : Type 0} (enc : EncoderConfig) (state : SessionState T O) (failure : Option SessionFault) → IsValid enc →
    moment_of state ≡ opening → IsKept enc state → IsHeld enc state failure
held-fresh {T} {O} enc state failure valid opened kept = record {
  valid = valid;
  reached = λ none. ([], [], record { answered = tt; leads = opened });
  kept = λ none. kept;
}

pub held-ready : {T O : Type 0} (enc : EncoderConfig) (state : SessionState T O) (failure : Option SessionFault) → IsHeld enc state failure →
    failure ≡ None → IsReady enc (moment_of state)
held-ready enc state failure held none =
    let (calls, turns, leads) = held.reached none in
    leads-ready enc calls turns (moment_of state) held.valid.looks_ahead leads

-- the frames that are held are the accepted ones less the packets given
pub held-frames : {T O : Type 0} (enc : EncoderConfig) (state : SessionState T O) (failure : Option SessionFault) (count : ℕ) → IsHeld enc state failure →
    failure ≡ None → count ≡ length state.waiting.items → count ≡ state.accepted - state.packets
held-frames enc state failure count held none size =
    omega (arith, size, (held-ready enc state failure held none).waits, length-map state.waiting.items waiting_of)

-- no more commands are coded than so many frames have
pub held-few : {T O : Type 0} (enc : EncoderConfig) (state : SessionState T O) (failure : Option SessionFault) → IsHeld enc state failure → failure ≡ None →
    state.commands ≤ 2 ^ 32
held-few {T} {O} enc state failure held none =
    let (calls, turns, leads) = held.reached none in
    let planned = on-plan enc state.decisions.items calls turns leads.answered in
    let m = moment_after enc state.decisions.items calls turns in
    fits state.commands (length (commands_of turns)) m.commands (length (take m.commands (plan_at enc m))) (length (plan_at enc m)) m.accepted
    (ap (λ (m : Moment T O). m.commands) leads.leads) planned.1 (ap (λ (l : List Command). length l) planned.0) (length-take m.commands (plan_at enc m)) (plan-of enc m).size
    (omega (arith, (held-ready enc state failure held none).few, ap (λ (m : Moment T O). m.accepted) leads.leads))
  where
    fits : (here coded there taken whole frames : ℕ) → here ≡ there → coded ≡ there → coded ≡ taken → taken ≡ min there whole → whole ≤ frames + frames / 2 →
        frames ≤ frame_limit → here ≤ 2 ^ 32
    fits here coded there taken whole frames a b c d e f = omega (arith, a, b, c, d, e, f)

-- each entry of a state that is kept has bytes
size-bytes : (command : Command) (entry : LogEntry) → HasSize command entry → 1 ≤ length entry.bytes
size-bytes (Code frame kind refs refresh shown) entry size = size.0
size-bytes (Show slot) entry size = let three = size.0 in omega (arith, three)

pub kept-bytes : {T O : Type 0} (enc : EncoderConfig) (state : SessionState T O) → IsKept enc state → HaveBytes (moment_of state).log
kept-bytes enc state kept =
    All-weaker IsSized (λ entry. 1 ≤ length entry.bytes) (λ entry size. size-bytes entry.command entry size) (moment_of state).log (kept-rated enc state kept).sized

-- the state of the rate controller is that of the moment's log
pub held-rate : {T O : Type 0} (enc : EncoderConfig) (state : SessionState T O) (failure : Option SessionFault) (now : Rate) → IsHeld enc state failure →
    now ≡ state.rate.state → failure ≡ None → now ≡ rate_at enc (passes_at state) (moment_of state).log
held-rate enc state failure now held is none = is ∙ (kept-rated enc state (held.kept none)).keeps.state

-- one more call
pub held-step : {T O : Type 0} (enc : EncoderConfig) (tables : Tables) (passes : Passes) (state after : SessionState T O) (failure failure_after : Option SessionFault) (call : Call T O) (turn : Turn T O)
    (told now : Heard T) → IsHeld enc state failure → failure ≡ None → IsStep enc tables passes call turn (moment_of state) (moment_of after) told now → IsKept enc after →
    IsHeld enc after failure_after
held-step enc tables passes state after failure failure_after call turn told now held none step kept =
    let (calls, turns, leads) = held.reached none in
    record {
      valid = held.valid;
      reached = λ still. (calls ++ call ∷ [], turns ++ turn ∷ [], leads-step enc calls turns (moment_of state) (moment_of after) call turn leads step.answered step.moment);
      kept = λ still. kept;
    }

-- where the moment stays
pub held-moved : {T O : Type 0} (enc : EncoderConfig) (state after : SessionState T O) (failure failure_after : Option SessionFault) → IsHeld enc state failure →
    failure ≡ None → moment_of after ≡ moment_of state → IsKept enc after → IsHeld enc after failure_after
held-moved {T} {O} enc state after failure failure_after held none same kept =
    let (calls, turns, leads) = held.reached none in
    record {
      valid = held.valid;
      reached = λ still. (calls, turns, subst (λ (m : Moment T O). Leads enc calls turns m) (sym same) leads);
      kept = λ still. kept;
    }

-- one more call, which may wait
pub held-turn : {T O : Type 0} (enc : EncoderConfig) (tables : Tables) (state after : SessionState T O) (failure failure_after : Option SessionFault) (call : Call T O) (turn : Turn T O)
    (told now : Heard T) → IsHeld enc state failure → failure ≡ None → IsReadyTurn enc tables call turn (at_state state) (at_state after) told now → IsKept enc after →
    IsHeld enc after failure_after
held-turn {T} {O} enc tables state after failure failure_after call turn told now held none is kept = by_wait (awaits_data enc (at_state state) call) is
  where
    by_wait : (waits : Bool) → MatchBool waits (IsWaiting enc (at_state state) turn × (at_state after ≡ at_state state) × (now ≡ told))
        (IsPassStep enc tables call turn (at_state state) (at_state after) told now) → IsHeld enc after failure_after
    by_wait true (waits, same, silent) = held-moved enc state after failure failure_after held none (ap (λ (at : PassMoment T O). at.moment) same) kept
    by_wait false step = held-step enc tables (passes_at state) state after failure failure_after call turn told now held none step.step kept

-- where the session failed nothing more is kept
pub held-failed : {T O : Type 0} (enc : EncoderConfig) (state after : SessionState T O) (failure failure_after : Option SessionFault) (fault : SessionFault) →
    IsHeld enc state failure → failure_after ≡ Some fault → IsHeld enc after failure_after
held-failed enc state after failure failure_after fault held is = record {
  valid = held.valid;
  reached = λ none. absurd (cc);
  kept = λ none. absurd (cc);
}

-- ---- what is answered

module _ {T O D S C A : Type 0} (Gives : Reply T O → Result A EncoderStatus → Type 0) (call : Call T O) (before after : Session T O D S C) (told now : Heard T) (result : Result A EncoderStatus) where
  abbrev GoesOn : Bool → Type 0
  GoesOn waits =
      MatchBool waits (Waits Gives before after result)
      (IsAnswered Gives call before after told now result ⊎ IsFailed call before after told now result)

  abbrev CallOf : Option SessionFault → Type 0
  CallOf failure =
      MatchOption failure (GoesOn (awaits_data before.enc (at_of before) call))
      (λ fault. (result ≡ Err Failure) × (after ≡ before))

  pub call-waits : before.failure ≡ None → awaits_data before.enc (at_of before) call ≡ true → Waits Gives before after result → IsCall Gives call before after told now result
  call-waits none waits is = subst CallOf (sym none) (subst GoesOn (sym waits) is)

  pub call-answered : before.failure ≡ None → awaits_data before.enc (at_of before) call ≡ false → IsAnswered Gives call before after told now result → IsCall Gives call before after told now result
  call-answered none awake answered = subst CallOf (sym none) (subst GoesOn (sym awake) (inl answered))

  pub call-failed : before.failure ≡ None → awaits_data before.enc (at_of before) call ≡ false → IsFailed call before after told now result → IsCall Gives call before after told now result
  call-failed none awake failed = subst CallOf (sym none) (subst GoesOn (sym awake) (inr failed))

  pub call-refused : (fault : SessionFault) → before.failure ≡ Some fault → result ≡ Err Failure → after ≡ before → IsCall Gives call before after told now result
  call-refused fault some refused same = subst CallOf (sym some) (refused, same)

-- in a session that has failed nothing is called
pub call-of-failed : {T O D S C : Type 0} (call : Call T O) (before : Session T O D S C) (told now : Heard T) → is_some before.failure ≡ true →
    IsCall GivesReply call before before told now (Err Failure)
call-of-failed {T} {O} {D} {S} {C} call before told now some = by_failure before.failure some
  where
    by_failure : (failure : Option SessionFault) → is_some failure ≡ true → CallOf GivesReply call before before told now (Err Failure) failure
    by_failure None some = absurd (cc)
    by_failure (Some fault) some = (refl, refl)

-- the record of a context
abbrev pub session_of : {T O D S C : Type 0} → EncoderConfig → SessionState T O → Option SessionFault → D → S → C → Session T O D S C
session_of enc state failure detector scales coder = record {
  enc = enc;
  tables = state.rate.tables;
  moment = moment_of state;
  passes = passes_at state;
  failure = failure;
  detector = detector;
  scales = scales;
  coder = coder;
}

refused-map : {T O A B : Type 0} (reply : Reply T O) → (A → B) → WhereRefused reply A → WhereRefused reply B
refused-map (Sent number) f holds = tt
refused-map Flushed f holds = tt
refused-map (GivesPacket packet) f holds = tt
refused-map (Status NeedMoreData) f holds = f holds
refused-map (Status EnoughData) f holds = f holds
refused-map (Status LimitReached) f holds = f holds
refused-map (Status Encoded) f holds = tt
refused-map (Status Failure) f holds = f holds
refused-map (Status NotReady) f holds = f holds
refused-map (Status FrameSizeMismatch) f holds = f holds
refused-map (Status NoMemory) f holds = f holds

pub session-same : {T O D S C : Type 0} (enc : EncoderConfig) (state after : SessionState T O) (failure : Option SessionFault) (d e : D) (r s : S) (c f : C) →
    after ≡ state → e ≡ d → s ≡ r → f ≡ c → session_of enc after failure e s f ≡ session_of enc state failure d r c
session-same enc state after failure d e r s c f states detectors scales coders = rw (states, detectors, scales, coders) refl

-- a call that a turn of the state answers
pub call-of-turn : {T O D S C : Type 0} (enc : EncoderConfig) (state after : SessionState T O) (failure : Option SessionFault) (d e : D) (r s : S) (c f : C) (call : Call T O) (turn : Turn T O)
    (told now : Heard T) → failure ≡ None → IsReadyTurn enc state.rate.tables call turn (at_state state) (at_state after) told now → after.rate.tables ≡ state.rate.tables →
    WhereRefused turn.reply ((after ≡ state) × (e ≡ d) × (s ≡ r) × (f ≡ c)) → Unused call (e ≡ d) ((f ≡ c) × (s ≡ r)) → IsLater told now →
    IsCall GivesReply call (session_of enc state failure d r c) (session_of enc after failure e s f) told now (Ok turn.reply)
call-of-turn {T} {O} {D} {S} {C} enc state after failure d e r s c f call turn told now none is tables refused unused later =
    by_wait (awaits_data enc (at_state state) call) refl is
  where
    same : (after ≡ state) × (e ≡ d) × (s ≡ r) × (f ≡ c) → session_of enc after failure e s f ≡ session_of enc state failure d r c
    same (states, detectors, scales, coders) = session-same enc state after failure d e r s c f states detectors scales coders

    by_wait : (waits : Bool) → awaits_data enc (at_state state) call ≡ waits →
        MatchBool waits (IsWaiting enc (at_state state) turn × (at_state after ≡ at_state state) × (now ≡ told)) (IsPassStep enc state.rate.tables call turn (at_state state) (at_state after) told now) →
        IsCall GivesReply call (session_of enc state failure d r c) (session_of enc after failure e s f) told now (Ok turn.reply)
    by_wait true waits (waiting, stays, silent) =
        call-waits GivesReply call (session_of enc state failure d r c) (session_of enc after failure e s f) told now (Ok turn.reply) none waits
        (ap Ok waiting.replies.0, same (subst (λ (reply : Reply T O). WhereRefused reply ((after ≡ state) × (e ≡ d) × (s ≡ r) × (f ≡ c))) waiting.replies.0 refused))
    by_wait false awake step =
        call-answered GivesReply call (session_of enc state failure d r c) (session_of enc after failure e s f) told now (Ok turn.reply) none awake (record {
          turn = turn;
          step = step.step;
          passes = step.passes;
          reply = refl;
          settings = refl;
          tables = tables;
          unfailed = none;
          refused = refused-map turn.reply same refused;
          unused = unused;
          later = later;
        })

-- a call that failed
pub call-of-fault : {T O D S C : Type 0} (enc : EncoderConfig) (state after : SessionState T O) (failure : Option SessionFault) (d e : D) (r s : S) (c f : C) (call : Call T O) (fault : SessionFault)
    (status : EncoderStatus) (told now : Heard T) → failure ≡ None → status ≡ status_of fault → awaits_data enc (at_state state) call ≡ false → Fails enc state.rate.tables (passes_at state) call (moment_of state) told now fault →
    after.rate.tables ≡ state.rate.tables → ((number : ℕ) → fault ≡ Coder number → moment_of after ≡ moment_of state) →
    Unused call (e ≡ d) ((f ≡ c) × (s ≡ r)) → IsLater told now →
    IsCall GivesReply call (session_of enc state failure d r c) (session_of enc after (Some fault) e s f) told now (Err status)
call-of-fault {T} {O} {D} {S} {C} enc state after failure d e r s c f call fault status told now none is awake fails tables stays unused later =
    call-failed GivesReply call (session_of enc state failure d r c) (session_of enc after (Some fault) e s f) told now (Err status) none awake (record {
      fault = fault;
      fails = fails;
      status = ap Err is;
      settings = refl;
      tables = tables;
      kept = refl;
      stays = stays;
      unused = unused;
      later = later;
    })

-- an answer made of a reply
module _ {T O D S C A : Type 0} (Gives : Reply T O → Result A EncoderStatus → Type 0) (call : Call T O) (before after : Session T O D S C) (told now : Heard T)
    (answer : Result (Reply T O) EncoderStatus) (result : Result A EncoderStatus)
    (reply : IfOk answer (λ r. Gives r result)) (err : IfErr answer (λ status. result ≡ Err status)) where
  of_reply : (r : Reply T O) → answer ≡ Ok r → Gives r result
  of_reply r is = subst (λ (a : Result (Reply T O) EncoderStatus). IfOk a (λ r. Gives r result)) is reply

  of_status : (status : EncoderStatus) → answer ≡ Err status → result ≡ Err status
  of_status status is = subst (λ (a : Result (Reply T O) EncoderStatus). IfErr a (λ status. result ≡ Err status)) is err

  by_wait : (waits : Bool) → GoesOn GivesReply call before after told now answer waits → GoesOn Gives call before after told now result waits
  by_wait true (waits, same) = (of_reply (Status NotReady) waits, same)
  by_wait false (inl answered) = inl (record {
    turn = answered.turn;
    step = answered.step;
    passes = answered.passes;
    reply = of_reply answered.turn.reply answered.reply;
    settings = answered.settings;
    tables = answered.tables;
    unfailed = answered.unfailed;
    refused = answered.refused;
    unused = answered.unused;
    later = answered.later;
  })
  by_wait false (inr failed) = inr (record {
    fault = failed.fault;
    fails = failed.fails;
    status = of_status _ failed.status;
    settings = failed.settings;
    tables = failed.tables;
    kept = failed.kept;
    stays = failed.stays;
    unused = failed.unused;
    later = failed.later;
  })

  by_failure : (failure : Option SessionFault) → CallOf GivesReply call before after told now answer failure → CallOf Gives call before after told now result failure
  by_failure None is = by_wait (awaits_data before.enc (at_of before) call) is
  by_failure (Some fault) (refused, same) = (of_status Failure refused, same)

  pub call-gives : IsCall GivesReply call before after told now answer → IsCall Gives call before after told now result
  call-gives is = by_failure before.failure is

pub none-of : {A : Type 0} (o : Option A) → is_some o ≡ false → o ≡ None
none-of None is = refl
none-of (Some a) is = cc

-- neither a send nor a flush is failed by the coder
runs-out : {T O D S C A : Type 0} (picture : Option (Frame T)) (parameters : Option (FrameParameters O)) (call : Call T O) (before after : Session T O D S C) (told now : Heard T) (result : Result A EncoderStatus) →
    Asks picture parameters call → IsFailed call before after told now result → RunsOut before after told now result
runs-out {T} {O} {D} {S} {C} {A} picture parameters call before after told now result asks failed = by_fault failed.fault failed.fails failed.status failed.kept
  where
    not-receive : (picture : Option (Frame T)) → Asks picture parameters Receive → ⊥
    not-receive None asks = cc
    not-receive (Some one) asks = asks

    OfCoder : Type 0
    OfCoder = (after.coder ≡ before.coder) × (after.scales ≡ before.scales)

    coder_same : (picture : Option (Frame T)) (call : Call T O) → Asks picture parameters call → Unused call (after.detector ≡ before.detector) OfCoder → OfCoder
    coder_same None call asks unused = subst (λ (c : Call T O). Unused c (after.detector ≡ before.detector) OfCoder) asks unused
    coder_same (Some one) (Send frame given) asks unused = unused
    coder_same (Some one) Flush asks unused = absurd asks
    coder_same (Some one) Receive asks unused = absurd asks

    by_fault : (fault : SessionFault) → Fails before.enc before.tables before.passes call before.moment told now fault → result ≡ Err (status_of fault) → after.failure ≡ Some fault →
        RunsOut before after told now result
    by_fault (PassData refusal) fails status kept = absurd fails
    by_fault (Coder number) fails status kept = absurd (not-receive picture (subst (Asks picture parameters) fails.0 asks))
    by_fault OutOfMemory fails status kept = record {
      status = status;
      settings = failed.settings;
      tables = failed.tables;
      kept = kept;
      unused = coder_same picture call asks failed.unused;
      later = failed.later;
    }

pub send-of : {T O D S C A : Type 0} (picture : Option (Frame T)) (parameters : Option (FrameParameters O)) (call : Call T O) (before after : Session T O D S C) (told now : Heard T) (result : Result A EncoderStatus) →
    Asks picture parameters call → IsCall GivesDone call before after told now result → IsSend picture parameters before after told now result
send-of {T} {O} {D} {S} {C} {A} picture parameters call before after told now result asks is = by_failure before.failure is
  where
    SendOf : Option SessionFault → Type 0
    SendOf failure =
        MatchOption failure
        (((call : Call T O) × Asks picture parameters call × IsAnswered GivesDone call before after told now result) ⊎ RunsOut before after told now result)
        (λ fault. (result ≡ Err Failure) × (after ≡ before))

    awake : (picture : Option (Frame T)) (call : Call T O) → Asks picture parameters call → awaits_data before.enc (at_of before) call ≡ false
    awake None call asks = ap (awaits_data before.enc (at_of before)) asks
    awake (Some one) (Send frame given) asks = refl
    awake (Some one) Flush asks = refl
    awake (Some one) Receive asks = absurd asks

    answered_or : IsAnswered GivesDone call before after told now result ⊎ IsFailed call before after told now result → SendOf None
    answered_or (inl answered) = inl (call, asks, answered)
    answered_or (inr failed) = inr (runs-out picture parameters call before after told now result asks failed)

    by_failure : (failure : Option SessionFault) → CallOf GivesDone call before after told now result failure → SendOf failure
    by_failure None is = answered_or (subst (GoesOn GivesDone call before after told now result) (awake picture call asks) is)
    by_failure (Some fault) refused = refused

-- what a receive replies
pub receive-reply : {T O : Type 0} (enc : EncoderConfig) (decisions : List Decision) (moment : Moment T O) (turn : Turn T O) → IsTurn enc decisions moment Receive turn →
    IsReceiveReply turn.reply
receive-reply {T} {O} enc decisions moment turn is = by_reason (held_back enc moment) is
  where
    by_command : (c : Command) (reply : Reply T O) (entry : LogEntry) → MatchBool (is_showing c)
        ((packet : Packet T O) × (reply ≡ GivesPacket packet) × IsNextPacket moment entry packet) (reply ≡ Status Encoded) → IsReceiveReply reply
    by_command c reply entry received = by_shown (is_showing c) received
      where
        by_shown : (shown : Bool) → MatchBool shown ((packet : Packet T O) × (reply ≡ GivesPacket packet) × IsNextPacket moment entry packet) (reply ≡ Status Encoded) →
            IsReceiveReply reply
        by_shown true (packet, gives, next) = subst IsReceiveReply (sym gives) tt
        by_shown false hidden = subst IsReceiveReply (sym hidden) tt

    by_reason : (reason : Option EncoderStatus) → MatchOption reason (CodesNext enc moment turn) (λ status. OnlyReplies turn (Status status)) → IsReceiveReply turn.reply
    by_reason None codes = by_command codes.entry.command turn.reply codes.entry codes.reply
    by_reason (Some status) only = subst IsReceiveReply (sym only.0) tt

pub received-reply : {T O D S C : Type 0} (before after : Session T O D S C) (told now : Heard T) (answer : Result (Reply T O) EncoderStatus) →
    IsCall GivesReply Receive before after told now answer → IfOk answer (λ reply. IsReceiveReply reply)
received-reply {T} {O} {D} {S} {C} before after told now answer is = by_failure before.failure is
  where
    Replies : Result (Reply T O) EncoderStatus → Type 0
    Replies a = IfOk a (λ reply. IsReceiveReply reply)

    by_wait : (waits : Bool) → GoesOn GivesReply Receive before after told now answer waits → Replies answer
    by_wait true (waits, same) = subst Replies (sym waits) tt
    by_wait false (inl answered) =
        subst Replies (sym answered.reply) (receive-reply before.enc after.moment.decisions before.moment answered.turn answered.step.answered)
    by_wait false (inr failed) = subst Replies (sym failed.status) tt

    by_failure : (failure : Option SessionFault) → CallOf GivesReply Receive before after told now answer failure → Replies answer
    by_failure None is = by_wait (awaits_data before.enc (at_of before) Receive) is
    by_failure (Some fault) (refused, same) = subst Replies (sym refused) tt
