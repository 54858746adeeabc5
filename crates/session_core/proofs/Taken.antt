-- What the coder tells of the entries of turns, turn by turn and as the display machine says.
use Rattle.std.proofs.Common.{◌≡◌, ℕ, ◌<◌, ◌≤◌, Bool, true, false, cond, not, List, [], ◌∷◌, ◌++◌, length, Option, Some, None, All, option_map, option_to_list, slice_get, refl, sym, ap, ap₂, ◌∙◌, subst, subst₂, append_assoc, append-nil, arith}
use Rattle.std.specs.List.{flat_map}
use Rattle.std.proofs.lemmas.Bool.{cond-true}
use Rattle.std.proofs.lemmas.List.{length-append}
use Rattle.std.proofs.lemmas.List.Concat.{flat_map-append}
use Rattle.std.proofs.lemmas.List.Elements.{All-head, All-tail}
use Rattle.coding_base.specs.Runs.{after_calls}
use Rattle.coding_base.proofs.RunLemmas.{after-append}
use Rattle.av1_settings.specs.declared.encoder.EncoderConfig.{EncoderConfig}
use Rattle.pyramid.specs.declared.command.Command.{Command}
use Rattle.pyramid.specs.declared.command.Command.TheVariants.{Code, Show}
use Rattle.pyramid.specs.Display.{Slots, empty_slots, held, slots_after_one, slots_after}
use Rattle.session_core.specs.declared.call.Call.{Call}
use Rattle.session_core.specs.declared.transcript.Decision.{Decision}
use Rattle.session_log.specs.declared.entry.LogEntry.{LogEntry}
use Rattle.session_core.specs.declared.transcript.Turn.{Turn}
use Rattle.session_core.specs.Answers.{Codes as IsCodedNext}
use Rattle.session_core.specs.Moments.{Accepted, Waiting, Moment, opening, waiting_at, plan_at}
use Rattle.session_core.specs.Sessions.{AreTurns, moment_after, accepted_by, accepted_in, entries_of, handed_of, handed_entries}
use Rattle.session_core.specs.Taken.{handed_at, job_of}
use Rattle.session_core.specs.Told.{Handed, ToShow}
use Rattle.session_core.specs.Turns.{BeginTrials, real_entries, after_turn, IsTurn}
use Rattle.session_core.proofs.Along.{runs-along}
use Rattle.session_core.proofs.Decided.{frame_of, slice_get-front, waiting_at-sent}
use Rattle.session_core.proofs.History.{command_list}
use Rattle.session_core.proofs.PlanAt.{plan-of}
use Rattle.session_core.proofs.RunHistory.{HasHistory, history-none, history-turn, accepted-push, entries-push}
use Rattle.session_core.proofs.Sound.{IsSound, packets-are, can}
use Rattle.session_core.proofs.Steps.{TurnView, IsTrialOf, trials-begin, view}
use Rattle.session_core.proofs.Steps.TurnView.{Stays, Accepts, Ends, Codes}

-- ---- turn by turn

-- each entry at the moment before its turn
abbrev pub handed_turns : {T O : Type 0} → EncoderConfig → List Decision → Moment T O → List (Call T O) → List (Turn T O) → List (Handed T)
handed_turns enc decisions moment [] turns = []
handed_turns enc decisions moment (call ∷ calls) [] = []
handed_turns enc decisions moment (call ∷ calls) (turn ∷ turns) =
    flat_map (handed_at moment) turn.log ++ handed_turns enc decisions (after_turn enc decisions moment call turn) calls turns

-- one more call and its turn
pub handed_turns-push : {T O : Type 0} (enc : EncoderConfig) (decisions : List Decision) (moment : Moment T O) (calls : List (Call T O)) (turns : List (Turn T O)) (call : Call T O) (turn : Turn T O) →
    length turns ≡ length calls →
    handed_turns enc decisions moment (calls ++ call ∷ []) (turns ++ turn ∷ [])
    ≡ handed_turns enc decisions moment calls turns ++ flat_map (handed_at (after_calls (after_turn enc decisions) moment calls turns)) turn.log
handed_turns-push enc decisions moment [] [] call turn same = append-nil (flat_map (handed_at moment) turn.log)
handed_turns-push enc decisions moment [] (other ∷ turns) call turn same = absurd (omega arith)
handed_turns-push enc decisions moment (first ∷ calls) [] call turn same = absurd (omega arith)
handed_turns-push {T} {O} enc decisions moment (first ∷ calls) (other ∷ turns) call turn same =
    let next = after_turn enc decisions moment first other in
    ap (λ (l : List (Handed T)). flat_map (handed_at moment) other.log ++ l) (handed_turns-push enc decisions next calls turns call turn (omega arith))
    ∙ sym (append_assoc (flat_map (handed_at moment) other.log) (handed_turns enc decisions next calls turns)
    (flat_map (handed_at (after_calls (after_turn enc decisions) next calls turns)) turn.log))

-- ---- as the display machine says

-- the slots after entries, where trials leave them
abbrev told_slots : Slots → List LogEntry → Slots
told_slots slots [] = slots
told_slots slots (entry ∷ entries) = told_slots (cond entry.trial slots (slots_after_one slots entry.command)) entries

told_slots-real : (slots : Slots) (entries : List LogEntry) → told_slots slots entries ≡ slots_after slots (command_list (real_entries entries))
told_slots-real slots [] = refl
told_slots-real slots (entry ∷ entries) =
    by_test entry.trial (told_slots-real slots entries) (told_slots-real (slots_after_one slots entry.command) entries)
  where
    by_test : (t : Bool) → told_slots slots entries ≡ slots_after slots (command_list (real_entries entries)) →
        told_slots (slots_after_one slots entry.command) entries ≡ slots_after (slots_after_one slots entry.command) (command_list (real_entries entries)) →
        told_slots (cond t slots (slots_after_one slots entry.command)) entries ≡ slots_after slots (command_list (cond (not t) (entry ∷ real_entries entries) (real_entries entries)))
    by_test true kept moved = kept
    by_test false kept moved = moved

handed_entries-append : {T O : Type 0} (sent : List (Accepted T O)) (slots : Slots) (a b : List LogEntry) → handed_entries sent slots (a ++ b) ≡ handed_entries sent slots a ++ handed_entries sent (told_slots slots a) b
handed_entries-append sent slots [] b = refl
handed_entries-append {T} {O} sent slots (entry ∷ a) b =
    ap (λ (l : List (Handed T)). handed_of sent slots entry ++ l) (handed_entries-append sent (cond entry.trial slots (slots_after_one slots entry.command)) a b)
    ∙ sym (append_assoc (handed_of sent slots entry) (handed_entries sent (cond entry.trial slots (slots_after_one slots entry.command)) a)
    (handed_entries sent (told_slots (cond entry.trial slots (slots_after_one slots entry.command)) a) b))

-- ---- frames sent later change nothing

-- a frame that is coded is below `high`
abbrev IsBelow : ℕ → Command → Type 0
IsBelow high (Code frame kind refs refresh shown) = frame < high
IsBelow high (Show slot) = Unit {0}

below_higher : (low high : ℕ) (command : Command) → low ≤ high → IsBelow low command → IsBelow high command
below_higher low high (Code frame kind refs refresh shown) h below = omega arith
below_higher low high (Show slot) h below = tt

abbrev AllBelow : ℕ → List LogEntry → Type 0
AllBelow high [] = Unit {0}
AllBelow high (entry ∷ entries) = IsBelow high entry.command × AllBelow high entries

all_higher : (low high : ℕ) (entries : List LogEntry) → low ≤ high → AllBelow low entries → AllBelow high entries
all_higher low high [] h all = tt
all_higher low high (entry ∷ entries) h all = (below_higher low high entry.command h all.0, all_higher low high entries h all.1)

all-append : (high : ℕ) (a b : List LogEntry) → AllBelow high a → AllBelow high b → AllBelow high (a ++ b)
all-append high [] b all more = more
all-append high (entry ∷ a) b all more = (all.0, all-append high a b all.1 more)

handed_of-sent : {T O : Type 0} (sent more : List (Accepted T O)) (slots : Slots) (command : Command) (entry : LogEntry) → IsBelow (length sent) command →
    handed_of (sent ++ more) slots (record entry { command = command }) ≡ handed_of sent slots (record entry { command = command })
handed_of-sent {T} {O} sent more slots (Code frame kind refs refresh shown) entry below =
    ap (λ (o : Option (Accepted T O)). option_to_list (option_map (job_of (record entry { command = Code frame kind refs refresh shown })) o)) (slice_get-front sent more frame below)
handed_of-sent sent more slots (Show slot) entry below = refl

handed_entries-sent : {T O : Type 0} (sent more : List (Accepted T O)) (slots : Slots) (entries : List LogEntry) → AllBelow (length sent) entries →
    handed_entries (sent ++ more) slots entries ≡ handed_entries sent slots entries
handed_entries-sent sent more slots [] all = refl
handed_entries-sent {T} {O} sent more slots (entry ∷ entries) all =
    ap₂ (λ (a b : List (Handed T)). a ++ b) (handed_of-sent sent more slots entry.command entry all.0)
    (handed_entries-sent sent more (cond entry.trial slots (slots_after_one slots entry.command)) entries all.1)

-- ---- at a moment

module _ {T O : Type 0} (enc : EncoderConfig) (whole : List Decision) (moment : Moment T O) (sent : List (Accepted T O)) (done : List Command)
    (sound : IsSound enc whole moment sent done) (command : Command) (next : slice_get (plan_at enc moment) moment.commands ≡ Some command) where
  -- of the next command what is told is what the display machine says, also where it is only tried
  told_next : (next_one : Command) (entry : LogEntry) → slice_get (plan_at enc moment) moment.commands ≡ Some next_one →
      handed_at moment (record entry { command = next_one }) ≡ handed_of sent (slots_after empty_slots done) (record entry { command = next_one })
  told_next (Code frame kind refs refresh shown) entry is =
      by_frame (waiting_at moment frame)
      ∙ ap (λ (o : Option (Accepted T O)). option_to_list (option_map with_job o)) (waiting_at-sent moment sent frame sound.frames (can enc whole moment sent done sound (Code frame kind refs refresh shown) is).0)
    where
      with_job : Accepted T O → Handed T
      with_job = job_of (record entry { command = Code frame kind refs refresh shown })

      by_frame : (o : Option (Waiting T O)) →
          option_to_list (option_map (λ waiting. with_job waiting.frame) o) ≡ option_to_list (option_map with_job (option_map frame_of o))
      by_frame None = refl
      by_frame (Some one) = refl
  told_next (Show slot) entry is =
      let with_number : ℕ → Handed T = λ frame. ToShow (record { slot = slot; frame = frame }) in
      let holds : held (slots_after empty_slots done) slot ≡ Some moment.packets =
      ap (λ (l : List Command). held (slots_after empty_slots l) slot) sound.commands
      ∙ (plan-of enc moment).show moment.commands slot is
      ∙ ap (λ (n : ℕ). Some n) (sym (packets-are enc whole moment sent done sound)) in
      ap (λ (o : Option ℕ). option_to_list (option_map with_number o)) (sym holds)

  -- an entry of the command
  abbrev IsOf : LogEntry → Type 0
  IsOf entry = entry.command ≡ command

  told_one : (entry : LogEntry) → entry.command ≡ command → handed_at moment entry ≡ handed_of sent (slots_after empty_slots done) entry
  told_one entry is = told_next entry.command entry (next ∙ ap (λ (c : Command). Some c) (sym is))

  below_one : (entry : LogEntry) → entry.command ≡ command → IsBelow (length sent) entry.command
  below_one entry is = of_next entry.command (next ∙ ap (λ (c : Command). Some c) (sym is))
    where
      of_next : (c : Command) → slice_get (plan_at enc moment) moment.commands ≡ Some c → IsBelow (length sent) c
      of_next (Code frame kind refs refresh shown) is = subst (λ (n : ℕ). frame < n) sound.accepted (can enc whole moment sent done sound (Code frame kind refs refresh shown) is).1
      of_next (Show slot) is = tt

  -- trials of it
  told_trials : (trials : List LogEntry) → All (IsTrialOf command) trials → flat_map (handed_at moment) trials ≡ handed_entries sent (slots_after empty_slots done) trials
  told_trials [] tried = refl
  told_trials (trial ∷ trials) tried =
      let here = All-head (IsTrialOf command) trial trials tried in
      ap₂ (λ (a b : List (Handed T)). a ++ b) (told_one trial here.1) (told_trials trials (All-tail (IsTrialOf command) trial trials tried))
      ∙ ap (λ (s : Slots). handed_of sent (slots_after empty_slots done) trial ++ handed_entries sent s trials)
      (sym (cond-true trial.trial (slots_after empty_slots done) (slots_after_one (slots_after empty_slots done) trial.command) here.0))

  trials_stay : (trials : List LogEntry) → All (IsTrialOf command) trials → told_slots (slots_after empty_slots done) trials ≡ slots_after empty_slots done
  trials_stay [] tried = refl
  trials_stay (trial ∷ trials) tried =
      ap (λ (s : Slots). told_slots s trials)
      (cond-true trial.trial (slots_after empty_slots done) (slots_after_one (slots_after empty_slots done) trial.command) (All-head (IsTrialOf command) trial trials tried).0)
      ∙ trials_stay trials (All-tail (IsTrialOf command) trial trials tried)

  trials_below : (trials : List LogEntry) → All (IsTrialOf command) trials → AllBelow (length sent) trials
  trials_below [] tried = tt
  trials_below (trial ∷ trials) tried =
      (below_one trial (All-head (IsTrialOf command) trial trials tried).1, trials_below trials (All-tail (IsTrialOf command) trial trials tried))

  -- trials, and then the command itself
  told_log : (trials : List LogEntry) (entry : LogEntry) → All (IsTrialOf command) trials → entry.command ≡ command →
      flat_map (handed_at moment) (trials ++ entry ∷ []) ≡ handed_entries sent (slots_after empty_slots done) (trials ++ entry ∷ [])
  told_log trials entry tried is =
      flat_map-append (handed_at moment) trials (entry ∷ [])
      ∙ ap₂ (λ (a b : List (Handed T)). a ++ b) (told_trials trials tried) (ap (λ (l : List (Handed T)). l ++ []) (told_one entry is))
      ∙ ap (λ (s : Slots). handed_entries sent (slots_after empty_slots done) trials ++ handed_entries sent s (entry ∷ [])) (sym (trials_stay trials tried))
      ∙ sym (handed_entries-append sent (slots_after empty_slots done) trials (entry ∷ []))

-- ---- of calls and turns

moment_push : {T O : Type 0} (enc : EncoderConfig) (whole : List Decision) (moment : Moment T O) (calls : List (Call T O)) (turns : List (Turn T O)) (call : Call T O) (turn : Turn T O) → length turns ≡ length calls →
    after_calls (after_turn enc whole) moment (calls ++ call ∷ []) (turns ++ turn ∷ []) ≡ after_turn enc whole (after_calls (after_turn enc whole) moment calls turns) call turn
moment_push enc whole moment calls turns call turn same = after-append (IsTurn enc whole) (after_turn enc whole) moment calls turns (call ∷ []) (turn ∷ []) same

-- what was told so far is what the entries so far say
record IsTold {T O : Type 0} (enc : EncoderConfig) (whole : List Decision) (moment : Moment T O) (calls : List (Call T O)) (turns : List (Turn T O)) : Type 0 where
  has : HasHistory enc whole moment calls turns
  below : AllBelow (length (accepted_in calls turns)) (entries_of turns)
  moment_is : moment ≡ moment_after enc whole calls turns
  says : handed_turns enc whole opening calls turns ≡ handed_entries (accepted_in calls turns) empty_slots (entries_of turns)

module _ {T O : Type 0} (enc : EncoderConfig) (whole : List Decision) (moment : Moment T O) (calls : List (Call T O)) (turns : List (Turn T O)) (so_far : IsTold enc whole moment calls turns) where
  slots_now : told_slots empty_slots (entries_of turns) ≡ slots_after empty_slots (command_list (real_entries (entries_of turns)))
  slots_now = told_slots-real empty_slots (entries_of turns)

  -- what is told of further entries, where they say what the display machine says
  told_further : (log : List LogEntry) →
      flat_map (handed_at moment) log ≡ handed_entries (accepted_in calls turns) (slots_after empty_slots (command_list (real_entries (entries_of turns)))) log →
      handed_turns enc whole opening calls turns ++ flat_map (handed_at moment) log ≡ handed_entries (accepted_in calls turns) empty_slots (entries_of turns ++ log)
  told_further log said =
      ap₂ (λ (a b : List (Handed T)). a ++ b) so_far.says (said ∙ ap (λ (s : Slots). handed_entries (accepted_in calls turns) s log) (sym slots_now))
      ∙ sym (handed_entries-append (accepted_in calls turns) empty_slots (entries_of turns) log)

  -- one turn's entries, and the frames that it accepts
  record SaysMore (more : List (Accepted T O)) (log : List LogEntry) : Type 0 where
    below : AllBelow (length (accepted_in calls turns ++ more)) (entries_of turns ++ log)
    says : handed_turns enc whole opening calls turns ++ flat_map (handed_at moment) log ≡ handed_entries (accepted_in calls turns ++ more) empty_slots (entries_of turns ++ log)

  -- nothing is told where nothing is coded
  nothing_said : (more : List (Accepted T O)) → SaysMore more []
  nothing_said more = record {
    below = all-append (length (accepted_in calls turns ++ more)) (entries_of turns) [] (all_higher (length (accepted_in calls turns)) (length (accepted_in calls turns ++ more)) (entries_of turns) longer so_far.below) tt;
    says =
        append-nil (handed_turns enc whole opening calls turns) ∙ so_far.says
        ∙ sym (handed_entries-sent (accepted_in calls turns) more empty_slots (entries_of turns) so_far.below)
        ∙ ap (handed_entries (accepted_in calls turns ++ more) empty_slots) (sym (append-nil (entries_of turns)));
  }
    where
      longer : length (accepted_in calls turns) ≤ length (accepted_in calls turns ++ more)
      longer = omega (arith, length-append (accepted_in calls turns) more)

  said_of : (call : Call T O) (turn : Turn T O) (after : Moment T O) → TurnView enc whole moment call turn after → SaysMore (accepted_by call turn.reply) turn.log
  said_of call turn after (Stays staying) = subst (SaysMore (accepted_by call turn.reply)) (sym staying.log) (nothing_said (accepted_by call turn.reply))
  said_of call turn after (Accepts accepting) = subst (SaysMore (accepted_by call turn.reply)) (sym accepting.log) (nothing_said (accepted_by call turn.reply))
  said_of call turn after (Ends ending) = subst (SaysMore (accepted_by call turn.reply)) (sym ending.log) (nothing_said (accepted_by call turn.reply))
  said_of call turn after (Codes coding) =
      subst₂ SaysMore (sym coding.accepts) (sym coding.log)
      (record {
        below = subst (λ (l : List (Accepted T O)). AllBelow (length l) (entries_of turns ++ (coding.trials ++ coding.entry ∷ []))) (sym (append-nil (accepted_in calls turns)))
            (all-append (length (accepted_in calls turns)) (entries_of turns) (coding.trials ++ coding.entry ∷ []) so_far.below
            (all-append (length (accepted_in calls turns)) coding.trials (coding.entry ∷ [])
            (trials_below enc whole moment (accepted_in calls turns) (command_list (real_entries (entries_of turns))) so_far.has.history.sound coding.entry.command coding.command coding.trials coding.tried)
            (below_one enc whole moment (accepted_in calls turns) (command_list (real_entries (entries_of turns))) so_far.has.history.sound coding.entry.command coding.command coding.entry refl, tt)));
        says =
            told_further (coding.trials ++ coding.entry ∷ [])
            (told_log enc whole moment (accepted_in calls turns) (command_list (real_entries (entries_of turns))) so_far.has.history.sound coding.entry.command coding.command coding.trials coding.entry coding.tried refl)
            ∙ ap (λ (l : List (Accepted T O)). handed_entries l empty_slots (entries_of turns ++ (coding.trials ++ coding.entry ∷ []))) (sym (append-nil (accepted_in calls turns)));
      })

  told-turn : (call : Call T O) (turn : Turn T O) → IsTurn enc whole moment call turn → IsTold enc whole (after_turn enc whole moment call turn) (calls ++ call ∷ []) (turns ++ turn ∷ [])
  told-turn call turn is =
      let said = said_of call turn (after_turn enc whole moment call turn) (view enc whole moment call turn is) in
      record {
        has = history-turn enc whole moment calls turns call turn so_far.has is;
        below = subst₂ (λ (s : List (Accepted T O)) (e : List LogEntry). AllBelow (length s) e) (sym (accepted-push calls turns call turn so_far.has.same_length)) (sym (entries-push turns turn)) said.below;
        moment_is =
            ap (λ (m : Moment T O). after_turn enc whole m call turn) so_far.moment_is
            ∙ sym (moment_push enc whole opening calls turns call turn so_far.has.same_length);
        says =
            handed_turns-push enc whole opening calls turns call turn so_far.has.same_length
            ∙ ap (λ (m : Moment T O). handed_turns enc whole opening calls turns ++ flat_map (handed_at m) turn.log) (sym so_far.moment_is)
            ∙ said.says
            ∙ ap₂ (λ (s : List (Accepted T O)) (e : List LogEntry). handed_entries s empty_slots e) (sym (accepted-push calls turns call turn so_far.has.same_length)) (sym (entries-push turns turn));
      }

told-after : {T O : Type 0} (enc : EncoderConfig) (whole : List Decision) (calls : List (Call T O)) (turns : List (Turn T O)) → AreTurns enc whole calls turns →
    IsTold enc whole (moment_after enc whole calls turns) calls turns
told-after {T} {O} enc whole calls turns are =
    runs-along (IsTurn enc whole) (after_turn enc whole) (IsTold enc whole)
    (λ m done answered call turn so_far is. told-turn enc whole m done answered so_far call turn is)
    opening [] [] calls turns (record { has = history-none enc whole; below = tt; moment_is = refl; says = refl }) are

-- what is handed turn by turn is what the display machine says
pub handed-all : {T O : Type 0} (enc : EncoderConfig) (whole : List Decision) (calls : List (Call T O)) (turns : List (Turn T O)) → AreTurns enc whole calls turns →
    handed_turns enc whole opening calls turns ≡ handed_entries (accepted_in calls turns) empty_slots (entries_of turns)
handed-all enc whole calls turns are = (told-after enc whole calls turns are).says

-- also with what was tried for the next command
pub handed-tried : {T O : Type 0} (enc : EncoderConfig) (whole : List Decision) (calls : List (Call T O)) (turns : List (Turn T O)) (number : ℕ) (command : Command) (trials : List LogEntry) →
    AreTurns enc whole calls turns → IsCodedNext enc (moment_after enc whole calls turns) number command → BeginTrials enc (moment_after enc whole calls turns) command trials →
    handed_turns enc whole opening calls turns ++ flat_map (handed_at (moment_after enc whole calls turns)) trials
    ≡ handed_entries (accepted_in calls turns) empty_slots (entries_of turns ++ trials)
handed-tried {T} {O} enc whole calls turns number command trials are due tried =
    let told = told-after enc whole calls turns are in
    let due_command = ap (slice_get (plan_at enc (moment_after enc whole calls turns))) due.next ∙ due.command_of in
    told_further enc whole (moment_after enc whole calls turns) calls turns told trials
    (told_trials enc whole (moment_after enc whole calls turns) (accepted_in calls turns) (command_list (real_entries (entries_of turns))) told.has.history.sound command
    due_command trials (trials-begin enc (moment_after enc whole calls turns) command trials tried))
