-- What a session keeps of the calls so far and of what was told by then, however its quantisers come about.
use Rattle.std.proofs.Common.{◌≡◌, ℕ, ℤ, ◌≤◌, Bool, List, [], ◌∷◌, ◌++◌, length, take, drop, Option, Some, refl, sym, ap, ap₂, ◌∙◌, subst, subst₂, append-nil, take-append-drop}
use Rattle.std.specs.List.{flat_map, slice_get}
use Rattle.std.proofs.lemmas.List.{length-append}
use Rattle.coding_base.proofs.FaultLemmas.{rose-after}
use Rattle.coding_base.proofs.RunLemmas.{runs-length, runs-push, after-push}
use Rattle.av1_frame.specs.declared.frame.Frame.{Frame}
use Rattle.av1_settings.specs.declared.encoder.EncoderConfig.{EncoderConfig}
use Rattle.pyramid.specs.Display.{empty_slots}
use Rattle.quantizers.specs.Tables.{Tables}
use Rattle.session_core.specs.declared.call.Call.{Call}
use Rattle.session_core.specs.declared.call.Call.TheVariants.{Send, Flush, Receive}
use Rattle.session_core.specs.declared.packet.Packet.{Packet}
use Rattle.session_core.specs.declared.transcript.Decision.{Decision}
use Rattle.session_log.specs.declared.entry.LogEntry.{LogEntry}
use Rattle.session_core.specs.declared.transcript.Reply.{Reply}
use Rattle.session_core.specs.declared.transcript.Reply.TheVariants.{Sent, Flushed, Packet as GivesPacket, Status}
use Rattle.session_core.specs.declared.transcript.Transcript.{Transcript}
use Rattle.session_core.specs.declared.transcript.Turn.{Turn}
use Rattle.session_log.specs.Passes.{Passes}
use Rattle.session_core.specs.Answers.{Codes, IsStopped}
use Rattle.session_core.specs.Held.{Leads}
use Rattle.session_core.specs.Moments.{Moment, opening, plan_at}
use Rattle.session_core.specs.Questions.{AreAnswered, IsAsked, questions, questions_in}
use Rattle.session_core.specs.Quantisers.{AreSelected}
use Rattle.session_core.specs.Scales.{AreScaled, frame_of, frames_of, picture_at, scales_of}
use Rattle.session_core.specs.Sessions.{AreQuantised, AreTurns, AreKeyDecisions, Headline, IsPlayed, moment_after, accepted_in, commands_of, entries_of, handed_entries, packets_of, picture_sent}
use Rattle.session_core.specs.States.{IsReady}
use Rattle.session_core.specs.Steps.{IsCoderFault, IsStep}
use Rattle.session_core.specs.Taken.{IsTaken, handed_at}
use Rattle.session_core.specs.Told.{Counts, DetectorTold, FailsBehind, Grew, Handed, Heard, IsLater}
use Rattle.session_core.specs.Turns.{BeginTrials, IsTurn, after_receive, after_turn}
use Rattle.session_core.proofs.Quantising.{logged-all, widen-quantised}
use Rattle.session_core.proofs.RunHistory.{entries-push, packets-push}
use Rattle.session_core.proofs.Scaling.{scaled_turns, scaled_turns-push, scaled-all, scaled-next, scaled-none, scaled-then, scales-append, widen-scaled}
use Rattle.session_core.proofs.SessionLaws.{handed_turns, handed_turns-push, handed-all, handed-tried, ready-of, on-plan, headline-of, keys-of, asked-turn, widen, widen-handed}
use Rattle.session_core.proofs.Telling.{answered-append, answered-none, counts-fault, counts-none, counts-then, counts-within, grew-none, grew-then, later-same, later-then, taken-none, taken-then}

-- ---- so far

-- the calls so far were answered, the moment is what they leave, the coder took what they coded, mean scales were asked for
-- what they coded for good, and the detector was asked of their decisions
pub record Playing {T O : Type 0} (enc : EncoderConfig) (done : List (Call T O)) (turns : List (Turn T O)) (moment : Moment T O) (before now : Heard T) : Type 0 where
  pub leads : Leads enc done turns moment
  pub scaled : AreScaled (scaled_turns enc moment.decisions opening done turns) (scales_of (entries_of turns)) before.scales now.scales
  pub taken : IsTaken (handed_turns enc moment.decisions opening done turns) (entries_of turns) (packets_of turns) before.coder now.coder
  pub counted : Counts before.coder.fails_after now.coder.fails_after (length (entries_of turns))
  pub asked : IsAsked enc (accepted_in done turns) moment.decisions before now
  pub later : IsLater before now

pub playing-opening : {T O : Type 0} (enc : EncoderConfig) (moment : Moment T O) (heard : Heard T) → moment ≡ opening → Playing {T = T} {O = O} enc [] [] moment heard heard
playing-opening {T} {O} enc moment heard opened = record {
  leads = record { answered = tt; leads = opened };
  scaled = scaled-none heard.scales;
  taken = taken-none heard.coder;
  counted = counts-none heard.coder.fails_after;
  asked = subst (λ (d : List Decision). IsAsked {T = T} {O = O} enc [] d heard heard) (sym (ap (λ (m : Moment T O). m.decisions) opened))
      (record { grew = grew-none heard.detector.questions; ahead = answered-none heard.detector.answers });
  later = later-same heard;
}

-- no call changes a decision
pub received-kept : {T O : Type 0} (moment : Moment T O) (log : List LogEntry) (reply : Reply T O) → (after_receive moment log reply).decisions ≡ moment.decisions
received-kept moment log (GivesPacket packet) = refl
received-kept moment log (Sent number) = refl
received-kept moment log Flushed = refl
received-kept moment log (Status status) = refl

all-of : {A : Type 0} (xs : List A) → take (length xs) xs ≡ xs
all-of [] = refl
all-of (x ∷ xs) = ap (λ l. x ∷ l) (all-of xs)

turn-kept : {T O : Type 0} (enc : EncoderConfig) (decisions : List Decision) (moment : Moment T O) (call : Call T O) (turn : Turn T O) →
    IsTurn enc decisions moment call turn →
    moment.decisions ≡ take (length moment.decisions) (after_turn enc decisions moment call turn).decisions
turn-kept enc decisions moment (Send frame parameters) turn is = is.1.kept
turn-kept enc decisions moment Flush turn is = is.1.kept
turn-kept enc decisions moment Receive turn is =
    sym (all-of moment.decisions) ∙ ap (take (length moment.decisions)) (sym (received-kept moment turn.log turn.reply))

-- the decisions of a moment begin those after a call, and don't change what was answered
module _ {T O : Type 0} (enc : EncoderConfig) (done : List (Call T O)) (turns : List (Turn T O)) (before after : Moment T O) (call : Call T O) (turn : Turn T O)
    (led : Leads enc done turns before) (is : IsTurn enc after.decisions before call turn) (then : after ≡ after_turn enc after.decisions before call turn) where
  abbrev whole : List Decision
  whole = after.decisions

  abbrev new : List Decision
  new = drop (length before.decisions) whole

  pub kept : before.decisions ≡ take (length before.decisions) whole
  kept = turn-kept enc whole before call turn is ∙ ap (λ (m : Moment T O). take (length before.decisions) m.decisions) (sym then)

  pub grown : before.decisions ++ new ≡ whole
  grown = ap (λ (l : List Decision). l ++ new) kept ∙ take-append-drop (length before.decisions) whole

  pub answered : AreTurns enc whole done turns
  answered = subst (λ (d : List Decision). AreTurns enc d done turns) grown (widen enc before.decisions done turns new led.answered).0

  pub moment : before ≡ moment_after enc whole done turns
  moment = led.leads
      ∙ sym (widen enc before.decisions done turns new led.answered).1
      ∙ ap (λ (d : List Decision). moment_after enc d done turns) grown

  pub here : IsTurn enc whole (moment_after enc whole done turns) call turn
  here = subst (λ (m : Moment T O). IsTurn enc whole m call turn) moment is

  pub leads-step : Leads enc (done ++ call ∷ []) (turns ++ turn ∷ []) after
  leads-step = record {
    answered = runs-push (IsTurn enc whole) (after_turn enc whole) opening done turns call turn answered here;
    leads = then
        ∙ ap (λ (m : Moment T O). after_turn enc whole m call turn) moment
        ∙ sym (after-push (IsTurn enc whole) (after_turn enc whole) opening done turns call turn answered);
  }

  -- so far each turn has the quantisers selected at its moment
  pub quantised-kept : (tables : Tables) → AreQuantised enc tables before.decisions done turns → AreQuantised enc tables whole done turns
  quantised-kept tables quantised =
      subst (λ (d : List Decision). AreQuantised enc tables d done turns) grown (widen-quantised enc tables before.decisions done turns new led.answered quantised)

  -- the frames that were scaled so far, by the decisions after the call
  pub scaled-kept : scaled_turns enc whole opening done turns ≡ scaled_turns enc before.decisions opening done turns
  scaled-kept = ap (λ (d : List Decision). scaled_turns enc d opening done turns) (sym grown) ∙ widen-scaled enc before.decisions done turns new led.answered

  -- what was handed over so far, by the decisions after the call
  pub handed-kept : handed_turns enc whole opening done turns ≡ handed_turns enc before.decisions opening done turns
  handed-kept = ap (λ (d : List Decision). handed_turns enc d opening done turns) (sym grown) ∙ widen-handed enc before.decisions done turns new led.answered

-- one more call
pub playing-step : {T O : Type 0} (enc : EncoderConfig) (tables : Tables) (passes : Passes) (done : List (Call T O)) (turns : List (Turn T O)) (was is : Moment T O)
    (before now then : Heard T) (call : Call T O) (turn : Turn T O) → 1 ≤ enc.speed_settings.rdo_lookahead_frames →
    Playing enc done turns was before now → IsStep enc tables passes call turn was is now then → IsLater now then →
    Playing enc (done ++ call ∷ []) (turns ++ turn ∷ []) is before then
playing-step {T} {O} enc tables passes done turns was is before now then call turn looks carried step later = record {
  leads = leads-step enc done turns was is call turn carried.leads step.answered step.moment;
  scaled = scaled;
  taken = taken;
  counted = subst (Counts before.coder.fails_after then.coder.fails_after) (sym (ap (λ (l : List LogEntry). length l) entries ∙ length-append (entries_of turns) turn.log))
      (counts-then before.coder.fails_after now.coder.fails_after then.coder.fails_after (length (entries_of turns)) (length turn.log) carried.counted step.counted);
  asked = asked;
  later = later-then before now then carried.later later;
}
  where
    old : List Decision
    old = was.decisions

    whole : List Decision
    whole = is.decisions

    at : was ≡ moment_after enc whole done turns
    at = moment enc done turns was is call turn carried.leads step.answered step.moment

    goes_on : AreTurns enc whole done turns
    goes_on = answered enc done turns was is call turn carried.leads step.answered step.moment

    next : IsTurn enc whole (moment_after enc whole done turns) call turn
    next = here enc done turns was is call turn carried.leads step.answered step.moment

    entries : entries_of (turns ++ turn ∷ []) ≡ entries_of turns ++ turn.log
    entries = entries-push turns turn

    same : length turns ≡ length done
    same = runs-length (IsTurn enc whole) (after_turn enc whole) opening done turns goes_on

    jobs : handed_turns enc whole opening (done ++ call ∷ []) (turns ++ turn ∷ [])
        ≡ handed_turns enc old opening done turns ++ flat_map (handed_at was) turn.log
    jobs =
        handed_turns-push enc whole done turns call turn same
        ∙ ap₂ (λ (h : List (Handed T)) (m : Moment T O). h ++ flat_map (handed_at m) turn.log)
        (handed-kept enc done turns was is call turn carried.leads step.answered step.moment) (sym at)

    taken : IsTaken (handed_turns enc whole opening (done ++ call ∷ []) (turns ++ turn ∷ [])) (entries_of (turns ++ turn ∷ [])) (packets_of (turns ++ turn ∷ [])) before.coder then.coder
    taken =
        subst (λ (h : List (Handed T)). IsTaken h (entries_of (turns ++ turn ∷ [])) (packets_of (turns ++ turn ∷ [])) before.coder then.coder) (sym jobs)
        (subst₂ (λ (e : List LogEntry) (p : List (Packet T O)). IsTaken (handed_turns enc old opening done turns ++ flat_map (handed_at was) turn.log) e p before.coder then.coder)
        (sym entries) (sym (packets-push turns turn))
        (taken-then before.coder now.coder then.coder _ _ _ _ _ _ carried.taken step.taken))

    frames : scaled_turns enc whole opening (done ++ call ∷ []) (turns ++ turn ∷ [])
        ≡ scaled_turns enc old opening done turns ++ frames_of (picture_at was) turn.log
    frames =
        scaled_turns-push enc whole done turns call turn same
        ∙ ap₂ (λ (f : List (ℕ × Frame T)) (m : Moment T O). f ++ frames_of (picture_at m) turn.log)
        (scaled-kept enc done turns was is call turn carried.leads step.answered step.moment) (sym at)

    scaled : AreScaled (scaled_turns enc whole opening (done ++ call ∷ []) (turns ++ turn ∷ [])) (scales_of (entries_of (turns ++ turn ∷ []))) before.scales then.scales
    scaled =
        subst₂ (λ (f : List (ℕ × Frame T)) (s : List ℤ). AreScaled f s before.scales then.scales)
        (sym frames) (sym (ap scales_of entries ∙ scales-append (entries_of turns) turn.log))
        (scaled-then _ _ before.scales now.scales _ _ then.scales carried.scaled step.scaled)

    -- the questions of this call join those before
    all_asked : questions enc (accepted_in (done ++ call ∷ []) (turns ++ turn ∷ [])) whole
        ≡ questions enc (accepted_in done turns) old ++ questions_in enc was is
    all_asked =
        ap (questions enc (accepted_in (done ++ call ∷ []) (turns ++ turn ∷ []))) (ap (λ (m : Moment T O). m.decisions) step.moment)
        ∙ subst Joins (sym at) (asked-turn enc whole done turns looks goes_on call turn next
        (turn-kept enc whole (moment_after enc whole done turns) call turn next))
        ∙ ap (λ (m : Moment T O). questions enc (accepted_in done turns) old ++ questions_in enc was m) (sym step.moment)
      where
        Joins : Moment T O → Type 0
        Joins m = questions enc (accepted_in (done ++ call ∷ []) (turns ++ turn ∷ [])) (after_turn enc whole m call turn).decisions
            ≡ questions enc (accepted_in done turns) m.decisions ++ questions_in enc m (after_turn enc whole m call turn)

    asked : IsAsked enc (accepted_in (done ++ call ∷ []) (turns ++ turn ∷ [])) whole before then
    asked = record {
      grew = subst (Grew before.detector.questions then.detector.questions) (sym all_asked)
          (grew-then before.detector.questions now.detector.questions then.detector.questions _ _ carried.asked.grew step.asked.grew);
      ahead = subst (AreAnswered before.detector.answers) (grown enc done turns was is call turn carried.leads step.answered step.moment)
          (answered-append before.detector.answers old (drop (length old) whole) carried.asked.ahead
          (subst (λ (a : Option (ℕ → Bool)). AreAnswered a (drop (length old) whole)) carried.later.detector.answers step.asked.ahead));
    }

pub leads-ready : {T O : Type 0} (enc : EncoderConfig) (done : List (Call T O)) (turns : List (Turn T O)) (moment : Moment T O) →
    1 ≤ enc.speed_settings.rdo_lookahead_frames → Leads enc done turns moment → IsReady enc moment
leads-ready {T} {O} enc done turns moment looks led =
    subst (λ (m : Moment T O). IsReady enc m) (sym led.leads) (ready-of enc moment.decisions done turns looks led.answered)

-- ---- the end

pub playing-played : {T O : Type 0} (enc : EncoderConfig) (calls : List (Call T O)) (transcript : Transcript T O) (moment : Moment T O) (before now : Heard T) →
    Playing enc calls transcript.turns moment before now → transcript.decisions ≡ moment.decisions →
    IsPlayed enc calls transcript before now
playing-played {T} {O} enc calls transcript moment before now carried same = record {
  turns = subst (λ (d : List Decision). AreTurns enc d calls turns) (sym same) carried.leads.answered;
  decided = subst (λ (d : List Decision). d ≡ (moment_after enc d calls turns).decisions) (sym same) decided;
  keys = subst (AreKeyDecisions (accepted_in calls turns)) (sym same) (keys-of enc decisions calls turns carried.leads.answered decided);
  asked = subst (λ (d : List Decision). IsAsked enc (accepted_in calls turns) d before now) (sym same) carried.asked;
  headline = subst (λ (d : List Decision). Headline enc d calls turns) (sym same) (headline-of enc decisions calls turns carried.leads.answered);
  scaled = subst (λ (frames : List (ℕ × Frame T)). AreScaled frames (scales_of (entries_of turns)) before.scales now.scales)
      (scaled-all enc decisions calls turns carried.leads.answered) carried.scaled;
  taken = subst (λ (jobs : List (Handed T)). IsTaken jobs (entries_of turns) (packets_of turns) before.coder now.coder)
      (handed-all enc decisions calls turns carried.leads.answered) carried.taken;
  unreached = counts-within before.coder.fails_after now.coder.fails_after (length (entries_of turns)) carried.counted;
}
  where
    decisions : List Decision
    decisions = moment.decisions

    turns : List (Turn T O)
    turns = transcript.turns

    decided : decisions ≡ (moment_after enc decisions calls turns).decisions
    decided = ap (λ (m : Moment T O). m.decisions) carried.leads.leads

-- ---- a call that fails

pub get-behind : {A : Type 0} (done rest : List A) (x : A) → slice_get (done ++ x ∷ rest) (length done) ≡ Some x
get-behind [] rest x = refl
get-behind (y ∷ done) rest x = get-behind done rest x

-- the coder failed behind these calls
module _ {T O : Type 0} (enc : EncoderConfig) (tables : Tables) (passes : Passes) (done : List (Call T O)) (turns : List (Turn T O)) (at : Moment T O)
    (before now then : Heard T) (number : ℕ) (carried : Playing enc done turns at before now) (fault : IsCoderFault enc tables passes at now then number) where
  abbrev decisions : List Decision
  decisions = at.decisions

  led : at ≡ moment_after enc decisions done turns
  led = carried.leads.leads

  abbrev there : Moment T O
  there = moment_after enc decisions done turns

  codes_here : Codes enc there number fault.command
  codes_here = subst (λ (m : Moment T O). Codes enc m number fault.command) led fault.due

  begin_here : BeginTrials enc there fault.command fault.trials
  begin_here = subst (λ (m : Moment T O). BeginTrials enc m fault.command fault.trials) led fault.tried

  commands : there.commands ≡ number
  commands = codes_here.next

  planned : (commands_of turns ≡ take there.commands (plan_at enc there)) × (length (commands_of turns) ≡ there.commands)
  planned = on-plan enc decisions done turns carried.leads.answered

  jobs : handed_turns enc decisions opening done turns ++ flat_map (handed_at at) fault.trials
      ≡ handed_entries (accepted_in done turns) empty_slots (entries_of turns ++ fault.trials)
  jobs = ap (λ (m : Moment T O). handed_turns enc decisions opening done turns ++ flat_map (handed_at m) fault.trials) led
      ∙ handed-tried enc decisions done turns number fault.command fault.trials carried.leads.answered codes_here begin_here

  taken : IsTaken (handed_entries (accepted_in done turns) empty_slots (entries_of turns ++ fault.trials)) (entries_of turns ++ fault.trials) (packets_of turns) before.coder then.coder
  taken =
      subst₂ (λ (h : List (Handed T)) (p : List (Packet T O)). IsTaken h (entries_of turns ++ fault.trials) p before.coder then.coder)
      jobs (append-nil (packets_of turns))
      (taken-then before.coder now.coder then.coder _ _ _ _ _ _ carried.taken fault.taken)

  logged : there.log ≡ entries_of turns
  logged = logged-all enc decisions done turns carried.leads.answered

  pub playing-selected : AreSelected enc tables passes there (entries_of turns) fault.trials
  playing-selected =
      subst (λ (l : List LogEntry). AreSelected enc tables passes there l fault.trials) logged
      (subst (λ (m : Moment T O). AreSelected enc tables passes m m.log fault.trials) led fault.selected)

  scaled : AreScaled (frames_of (picture_sent (accepted_in done turns)) (entries_of turns) ++ frame_of (picture_sent (accepted_in done turns)) fault.command)
      (scales_of (entries_of turns) ++ fault.scales) before.scales then.scales
  scaled =
      subst₂ (λ (f g : List (ℕ × Frame T)). AreScaled (f ++ g) (scales_of (entries_of turns) ++ fault.scales) before.scales then.scales)
      (scaled-all enc decisions done turns carried.leads.answered)
      (ap (λ (m : Moment T O). frame_of (picture_at m) fault.command) led ∙ scaled-next enc decisions done turns number fault.command carried.leads.answered codes_here)
      (scaled-then _ _ before.scales now.scales _ _ then.scales carried.scaled fault.scaled)

  decided : decisions ≡ there.decisions
  decided = ap (λ (m : Moment T O). m.decisions) led

  -- a receive asks nobody
  asked : IsAsked enc (accepted_in done turns) decisions before then
  asked = record {
    grew = subst (λ (d : DetectorTold T). Grew before.detector.questions d.questions (questions enc (accepted_in done turns) decisions)) (sym fault.unasked) carried.asked.grew;
    ahead = carried.asked.ahead;
  }

  pub playing-stopped : IsStopped enc done turns at.decisions fault.command fault.trials before then number
  playing-stopped = record {
    answered = carried.leads.answered;
    decided = decided;
    keys = keys-of enc decisions done turns carried.leads.answered decided;
    asked = asked;
    due = codes_here;
    coded = planned.1 ∙ commands;
    first = planned.0 ∙ ap (λ (n : ℕ). take n (plan_at enc there)) commands;
    tried = begin_here;
    scales = fault.scales;
    scaled = scaled;
    alike = fault.alike;
    taken = taken;
    reached = subst (FailsBehind before.coder.fails_after) (sym (length-append (entries_of turns) fault.trials))
        (counts-fault before.coder.fails_after now.coder.fails_after (length (entries_of turns)) (length fault.trials) carried.counted fault.reached);
    rose = rose-after before.coder.faults now.coder.faults then.coder.faults carried.later.coder.faults fault.rose;
  }
