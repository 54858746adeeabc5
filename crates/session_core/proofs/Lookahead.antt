-- The lookahead keeps the frame before the next undecided position: no packet of it or of a later frame is given before the
-- flush.
use Rattle.std.proofs.Common.{◌≡◌, ℕ, suc, ◌+◌, ◌-◌, ◌<◌, ◌≤◌, min, Bool, true, false, cond, inl, inr, List, [], ◌∷◌, length, get_or, take, drop, Some, None, slice_get, refl, sym, ap, ◌∙◌, subst, zero-le, arith, count_by}
use Rattle.std.proofs.Math.Seq.{take-add}
use Rattle.std.proofs.lemmas.Bool.{true≢false}
use Rattle.std.proofs.lemmas.List.{length-take}
use Rattle.std.proofs.lemmas.List.Sums.{sum_by-drop_more}
use Rattle.std.proofs.lemmas.Option.{slice_get_within}
use Rattle.av1_settings.specs.declared.encoder.EncoderConfig.{EncoderConfig}
use Rattle.av1_settings.specs.declared.frame_type.FrameType.{FrameType}
use Rattle.av1_settings.specs.Settings.{interval_of}
use Rattle.pyramid.specs.declared.command.Command.{Command}
use Rattle.pyramid.specs.declared.command.Command.TheVariants.{Code, Show}
use Rattle.pyramid.specs.Display.{shows, showing}
use Rattle.pyramid.specs.Known.{known, is_coding}
use Rattle.pyramid.specs.Numbers.{ahead}
use Rattle.pyramid.specs.Settings.{numbers_of}
use Rattle.session_core.specs.declared.call.Call.{Call}
use Rattle.session_core.specs.declared.transcript.Decision.{Decision}
use Rattle.session_core.specs.declared.transcript.Turn.{Turn}
use Rattle.session_core.specs.Decisions.{decided_count, keys_of}
use Rattle.session_core.specs.Moments.{Accepted, Moment, opening, plan_at, known_at}
use Rattle.session_core.specs.Sessions.{AreTurns, moment_after, accepted_in, commands_of}
use Rattle.session_core.specs.States.{IsReady}
use Rattle.session_core.specs.Turns.{held_back, after_turn, IsTurn}
use Rattle.session_core.proofs.Along.{runs-along}
use Rattle.session_core.proofs.Decided.{slice_get-drop, slice_get-front}
use Rattle.session_core.proofs.PlanAt.{plan-of, known-begins, known-unflushed}
use Rattle.session_core.proofs.KnownBehind.{known-behind}
use Rattle.session_core.proofs.PlanFronts.{take_next, count-append, count-cons, showing_yes}
use Rattle.session_core.proofs.RunHistory.{HasHistory, history-none, history-turn, history-after}
use Rattle.session_core.proofs.Sound.{IsSound, packets-are, there, due-many, sound-ready}
use Rattle.session_core.proofs.Steps.{TurnView, view}
use Rattle.session_core.proofs.Steps.TurnView.{Stays, Accepts, Ends, Codes}

-- ---- a coded frame behind the next command

-- a code at an index
abbrev CodeAt : List Command → ℕ → ℕ → Type 0
CodeAt commands index frame = (kind : FrameType) × (refs : List ℕ) × (refresh : ℕ) × (visible : Bool) × (slice_get commands index ≡ Some (Code frame kind refs refresh visible))

code_among : (commands : List Command) → 1 ≤ count_by is_coding commands → (index : ℕ) × (frame : ℕ) × CodeAt commands index frame
code_among [] some = absurd (omega arith)
code_among (Code frame kind refs refresh visible ∷ commands) some = (0, frame, (kind, refs, refresh, visible, refl))
code_among (Show slot ∷ commands) some =
    let rest : 1 ≤ count_by is_coding commands = omega (arith, count-cons is_coding (Show slot) commands) in
    let there = code_among commands rest in
    (suc there.0, there.1, there.2)

-- of two or more, one is behind the first command
code_behind : (commands : List Command) (k : ℕ) → k < length commands → 2 ≤ count_by is_coding (drop k commands) → (index : ℕ) × (frame : ℕ) × CodeAt commands (k + 1 + index) frame
code_behind commands k within two =
    let there = code_among (drop (k + 1) commands) rest in
    (there.0, there.1, (there.2.0, there.2.1, there.2.2, there.2.3, sym (slice_get-drop (k + 1) commands there.0) ∙ there.2.4))
  where
    one_less : (t : Bool) → count_by is_coding (drop k commands) ≡ cond t 1 0 + count_by is_coding (drop (k + 1) commands) → 1 ≤ count_by is_coding (drop (k + 1) commands)
    one_less true e = omega arith
    one_less false e = omega arith

    rest : 1 ≤ count_by is_coding (drop (k + 1) commands)
    rest = one_less (is_coding (get_or commands k (Show 0))) (sum_by-drop_more (λ c. cond (is_coding c) 1 0) commands k (Show 0) within)

-- no fewer are shown further on
showing_further : (commands : List Command) (n m : ℕ) → showing (take n commands) ≤ showing (take (n + m) commands)
showing_further commands n m =
    let split : showing (take (n + m) commands) ≡ showing (take n commands) + showing (take m (drop n commands)) =
    ap showing (take-add n m commands) ∙ count-append shows (take n commands) (take m (drop n commands)) in
    omega arith

-- ---- the turns

module _ {T O : Type 0} (enc : EncoderConfig) (whole : List Decision) (moment : Moment T O) (sent : List (Accepted T O)) (done : List Command)
    (sound : IsSound enc whole moment sent done) (looks : 1 ≤ enc.speed_settings.rdo_lookahead_frames) where
  -- the packet that is given before the flush leaves the frame before the next undecided position
  packet_late : (command : Command) → moment.flushed ≡ false → held_back enc moment ≡ None → slice_get (plan_at enc moment) moment.commands ≡ Some command → shows command ≡ true →
      moment.packets + 1 ≤ length moment.decisions
  packet_late command unflushed due next visible =
      before_undecided found.1 shown_later behind (sound.decided ∙ ap (decided_count (numbers_of enc) moment.accepted) unflushed)
    where
      known_now : List Command
      known_now = known (numbers_of enc) (interval_of enc.max_key_frame_interval) moment.accepted (keys_of moment.accepted moment.decisions)

      many : 2 ≤ count_by is_coding (drop moment.commands (known_at enc moment))
      many = two (enc.speed_settings.rdo_lookahead_frames) (count_by is_coding (drop moment.commands (known_at enc moment))) looks (due-many enc moment due unflushed)
        where
          two : (r n : ℕ) → 1 ≤ r → r + 1 ≤ n → 2 ≤ n
          two r n a b = omega arith

      found : (index : ℕ) × (frame : ℕ) × CodeAt (known_at enc moment) (moment.commands + 1 + index) frame
      found = code_behind (known_at enc moment) moment.commands (there enc whole moment sent done sound due) many

      in_plan : slice_get (plan_at enc moment) (moment.commands + 1 + found.0) ≡ Some (Code found.1 found.2.0 found.2.1 found.2.2 found.2.3)
      in_plan =
          ap (λ (l : List Command). slice_get l (moment.commands + 1 + found.0)) (known-begins enc moment).1
          ∙ slice_get-front (known_at enc moment) (known-begins enc moment).0 (moment.commands + 1 + found.0)
          (slice_get_within (known_at enc moment) (moment.commands + 1 + found.0) (Code found.1 found.2.0 found.2.1 found.2.2 found.2.3) found.2.4)
          ∙ found.2.4

      shown_now : showing (take (moment.commands + 1) (plan_at enc moment)) ≡ moment.packets + 1
      shown_now =
          ap showing (take_next (plan_at enc moment) moment.commands command next)
          ∙ showing_yes (take moment.commands (plan_at enc moment)) command visible
          ∙ ap (λ (n : ℕ). n + 1) (sym (packets-are enc whole moment sent done sound))

      shown_later : moment.packets + 1 ≤ found.1
      shown_later = not_after
          (showing_further (plan_at enc moment) (moment.commands + 1) found.0)
          ((plan-of enc moment).unshown (moment.commands + 1 + found.0) found.1 found.2.0 found.2.1 found.2.2 found.2.3 in_plan)
        where
          not_after : showing (take (moment.commands + 1) (plan_at enc moment)) ≤ showing (take (moment.commands + 1 + found.0) (plan_at enc moment)) →
              showing (take (moment.commands + 1 + found.0) (plan_at enc moment)) ≤ found.1 → moment.packets + 1 ≤ found.1
          not_after a b = omega (arith, shown_now)

      behind : found.1 + ahead (numbers_of enc) < moment.accepted
      behind = known-behind enc (interval_of enc.max_key_frame_interval) moment.accepted (keys_of moment.accepted moment.decisions)
          (moment.commands + 1 + found.0) found.1 found.2.0 found.2.1 found.2.2 found.2.3
          (ap (λ (l : List Command). slice_get l (moment.commands + 1 + found.0)) (sym (known-unflushed enc moment unflushed)) ∙ found.2.4)

      before_undecided : (frame : ℕ) → moment.packets + 1 ≤ frame → frame + ahead (numbers_of enc) < moment.accepted →
          length moment.decisions ≡ moment.accepted - (ahead (numbers_of enc) + 1) → moment.packets + 1 ≤ length moment.decisions
      before_undecided frame a b e = omega arith

  late-step : (call : Call T O) (turn : Turn T O) (after : Moment T O) → TurnView enc whole moment call turn after → (moment.flushed ≡ false → moment.packets ≤ length moment.decisions) →
      after.flushed ≡ false → after.packets ≤ length after.decisions
  late-step call turn after (Stays staying) late = subst (λ (m : Moment T O). m.flushed ≡ false → m.packets ≤ length m.decisions) (sym staying.stays) late
  late-step call turn after (Accepts accepting) late =
      subst (λ (m : Moment T O). m.flushed ≡ false → m.packets ≤ length m.decisions) (sym accepting.then)
      (λ e. no_fewer (length moment.decisions) _ (late e) (ap (λ (l : List Decision). length l) accepting.decides.kept ∙ length-take (length moment.decisions) _))
    where
      no_fewer : (n m : ℕ) → moment.packets ≤ n → n ≡ min n m → moment.packets ≤ m
      no_fewer n m h e = omega arith
  late-step call turn after (Ends ending) late =
      subst (λ (m : Moment T O). m.flushed ≡ false → m.packets ≤ length m.decisions) (sym ending.then) (λ e. absurd (true≢false e))
  late-step call turn after (Codes coding) late = elim coding.given [
    | inl giving ↦
        subst (λ (m : Moment T O). m.flushed ≡ false → m.packets ≤ length m.decisions) (sym giving.then)
        (λ e. packet_late coding.entry.command e coding.due coding.command giving.shows)
    | inr hiding ↦ subst (λ (m : Moment T O). m.flushed ≡ false → m.packets ≤ length m.decisions) (sym hiding.then) late
  ]

-- ---- of calls and turns

record HasLate {T O : Type 0} (enc : EncoderConfig) (whole : List Decision) (moment : Moment T O) (calls : List (Call T O)) (turns : List (Turn T O)) : Type 0 where
  has : HasHistory enc whole moment calls turns
  late : moment.flushed ≡ false → moment.packets ≤ length moment.decisions

pub late-after : {T O : Type 0} (enc : EncoderConfig) (whole : List Decision) (calls : List (Call T O)) (turns : List (Turn T O)) → 1 ≤ enc.speed_settings.rdo_lookahead_frames → AreTurns enc whole calls turns →
    (moment_after enc whole calls turns).flushed ≡ false → (moment_after enc whole calls turns).packets ≤ length (moment_after enc whole calls turns).decisions
late-after {T} {O} enc whole calls turns looks are = at_end.late
  where
    at_end : HasLate enc whole (moment_after enc whole calls turns) calls turns
    at_end = runs-along (IsTurn enc whole) (after_turn enc whole) (HasLate enc whole)
        (λ m done answered call turn so_far is. record {
          has = history-turn enc whole m done answered call turn so_far.has is;
          late = late-step enc whole m (accepted_in done answered) (commands_of answered) so_far.has.history.sound looks call turn
              (after_turn enc whole m call turn) (view enc whole m call turn is) so_far.late;
        })
        opening [] [] calls turns (record { has = history-none enc whole; late = λ e. zero-le }) are

-- what a call needs of the moment after others
pub ready-after : {T O : Type 0} (enc : EncoderConfig) (whole : List Decision) (calls : List (Call T O)) (turns : List (Turn T O)) → 1 ≤ enc.speed_settings.rdo_lookahead_frames → AreTurns enc whole calls turns →
    IsReady enc (moment_after enc whole calls turns)
ready-after enc whole calls turns looks are =
    sound-ready enc whole (moment_after enc whole calls turns) (accepted_in calls turns) (commands_of turns)
    (history-after enc whole calls turns are).history.sound (late-after enc whole calls turns looks are)
