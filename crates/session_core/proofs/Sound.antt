-- A moment against what was sent and coded up to it: the commands so far begin what is known of the plan, and the frames
-- that wait are those sent whose packets aren't given.
use Rattle.std.proofs.Common.{◌≡◌, ℕ, zero, suc, ◌+◌, ◌-◌, ◌<◌, ◌≤◌, Bool, true, false, cond, not, ltb, ◌&&◌, inl, inr, List, [], map, length, take, drop, Option, Some, None, IsSome, option_map, option_and_then, slice_get, refl, sym, ap, ap₂, ◌∙◌, subst, zero-le, arith}
use Rattle.std.specs.List.{count_by}
use Rattle.std.proofs.lemmas.Bool.{cases_Bool, and_cases, false≢true, eqb-false, ltb-false}
use Rattle.std.proofs.lemmas.List.{length-map, length-drop}
use Rattle.std.proofs.lemmas.List.Sums.{count_by-le-length}
use Rattle.std.proofs.lemmas.Option.{none-some}
use Rattle.av1_settings.specs.declared.encoder.EncoderConfig.{EncoderConfig}
use Rattle.av1_settings.specs.declared.frame_type.FrameType.{FrameType}
use Rattle.av1_settings.specs.declared.status.EncoderStatus.TheVariants.{NeedMoreData, LimitReached}
use Rattle.av1_settings.specs.Settings.{interval_of}
use Rattle.pyramid.specs.declared.command.Command.{Command}
use Rattle.pyramid.specs.declared.command.Command.TheVariants.{Code, Show}
use Rattle.pyramid.specs.Display.{showing}
use Rattle.pyramid.specs.Known.{known, is_coding}
use Rattle.pyramid.specs.Numbers.{ahead}
use Rattle.pyramid.specs.Settings.{numbers_of}
use Rattle.session_core.specs.declared.transcript.Decision.{Decision}
use Rattle.session_core.specs.Decisions.{decided_count, decisions_at, keys_of}
use Rattle.session_core.specs.Moments.{Accepted, Coding, Waiting, Moment, opening, is_complete, plan_at, known_at}
use Rattle.session_core.specs.Sessions.{coded_kind}
use Rattle.session_core.specs.States.{CanCode, IsReady}
use Rattle.session_core.specs.Turns.{frame_limit, needs_more_data, held_back}
use Rattle.session_core.proofs.Decided.{frame_of, AreDecided, decided-none}
use Rattle.session_core.proofs.PlanAt.{plan-of, front-same, known-begins, known-within, known-unflushed, known-flushed}
use Rattle.session_core.proofs.KnownBehind.{known-behind}
use Rattle.session_core.proofs.PlanFronts.{in_front, has_code, coded_at, kind_of, kind_of-coded, showing_front, more_to_come, show_coded}
use Rattle.session_core.proofs.WaitingKinds.{waiting_kind}

-- of a session's decisions `whole`, frames sent and commands done
pub record IsSound {T O : Type 0} (enc : EncoderConfig) (whole : List Decision) (moment : Moment T O) (sent : List (Accepted T O)) (done : List Command) : Type 0 where
  pub accepted : moment.accepted ≡ length sent
  pub few : moment.accepted ≤ frame_limit
  pub decisions : moment.decisions ≡ decisions_at (numbers_of enc) whole moment.accepted moment.flushed
  pub decided : length moment.decisions ≡ decided_count (numbers_of enc) moment.accepted moment.flushed
  pub are : AreDecided sent moment.decisions
  -- the commands are the first ones of the plan, and known
  pub commands : done ≡ take moment.commands (plan_at enc moment)
  pub known : moment.commands ≤ length (known_at enc moment)
  -- each frame that they show has its packet, and was coded
  pub packets : moment.packets ≡ showing done
  pub coded : (k : ℕ) → k < moment.packets → has_code done k ≡ true
  -- the other frames wait, with their types where they are coded
  pub frames : map frame_of moment.waiting ≡ drop moment.packets sent
  pub kinds : (index : ℕ) → waiting_kind moment.waiting index ≡ kind_of done (moment.packets + index)

pub sound-opening : {T O : Type 0} (enc : EncoderConfig) (whole : List Decision) → IsSound {T = T} {O = O} enc whole opening [] []
sound-opening enc whole = record {
  accepted = refl;
  few = zero-le;
  decisions = ap (λ (n : ℕ). take n whole) (sym none);
  decided = sym none;
  are = decided-none [];
  commands = refl;
  known = zero-le;
  packets = refl;
  coded = λ k h. absurd (omega arith);
  frames = refl;
  kinds = λ index. refl;
}
  where
    none : decided_count (numbers_of enc) 0 false ≡ 0
    none = omega arith

-- ---- what follows

-- a receive that isn't held back is before the last packet, and finds what the lookahead asks for
pub due-parts : {T O : Type 0} (enc : EncoderConfig) (moment : Moment T O) → held_back enc moment ≡ None →
    ((moment.flushed && is_complete moment) ≡ false) × (needs_more_data enc moment ≡ false)
due-parts enc moment due = by_tests (moment.flushed && is_complete moment) (needs_more_data enc moment) due
  where
    by_tests : (complete needs : Bool) → cond complete (Some LimitReached) (cond needs (Some NeedMoreData) None) ≡ None → (complete ≡ false) × (needs ≡ false)
    by_tests true needs e = absurd (none-some LimitReached (sym e))
    by_tests false true e = absurd (none-some NeedMoreData (sym e))
    by_tests false false e = (refl, refl)

pub due-many : {T O : Type 0} (enc : EncoderConfig) (moment : Moment T O) → held_back enc moment ≡ None → moment.flushed ≡ false →
    enc.speed_settings.rdo_lookahead_frames + 1 ≤ count_by is_coding (drop moment.commands (known_at enc moment))
due-many enc moment due unflushed =
    ltb-false (count_by is_coding (drop moment.commands (known_at enc moment))) (enc.speed_settings.rdo_lookahead_frames + 1)
    (by_test moment.flushed (ltb (count_by is_coding (drop moment.commands (known_at enc moment))) (enc.speed_settings.rdo_lookahead_frames + 1)) unflushed (due-parts enc moment due).1)
  where
    by_test : (f b : Bool) → f ≡ false → (not f && b) ≡ false → b ≡ false
    by_test true b e h = absurd (false≢true (sym e))
    by_test false b e h = h

module _ {T O : Type 0} (enc : EncoderConfig) (whole : List Decision) (moment : Moment T O) (sent : List (Accepted T O)) (done : List Command) (sound : IsSound enc whole moment sent done) where
  pub commands-within : moment.commands ≤ length (plan_at enc moment)
  commands-within = within moment.commands (length (known_at enc moment)) (length (plan_at enc moment)) sound.known (known-within enc moment)
    where
      within : (a b c : ℕ) → a ≤ b → b ≤ c → a ≤ c
      within a b c h k = omega arith

  -- packets count the frames shown by the first commands of the plan
  pub packets-are : moment.packets ≡ showing (take moment.commands (plan_at enc moment))
  packets-are = sound.packets ∙ ap showing sound.commands

  pub packets-within : moment.packets ≤ moment.accepted
  packets-within = subst (λ (n : ℕ). n ≤ moment.accepted) (sym packets-are) (showing_front (plan_at enc moment) moment.accepted (plan-of enc moment) moment.commands)

  pub waits : moment.packets + length moment.waiting ≡ moment.accepted
  waits = counted (sym (length-map moment.waiting frame_of) ∙ ap (λ (l : List (Accepted T O)). length l) sound.frames ∙ length-drop moment.packets sent)
    where
      counted : length moment.waiting ≡ length sent - moment.packets → moment.packets + length moment.waiting ≡ moment.accepted
      counted e = omega (arith, packets-within, sound.accepted)

  -- a frame that was coded before the flush has `ahead` frames behind it
  coded_behind : (frame : ℕ) → moment.flushed ≡ false → has_code done frame ≡ true → frame + ahead (numbers_of enc) < moment.accepted
  coded_behind frame unflushed coded =
      let known_now : List Command = known (numbers_of enc) (interval_of enc.max_key_frame_interval) moment.accepted (keys_of moment.accepted moment.decisions) in
      let front : done ≡ take moment.commands known_now =
      sound.commands ∙ sym (front-same (known_at enc moment) (plan_at enc moment) moment.commands (known-begins enc moment) sound.known)
      ∙ ap (λ (l : List Command). take moment.commands l) (known-unflushed enc moment unflushed) in
      let there = coded_at (take moment.commands known_now) frame (ap (λ (l : List Command). has_code l frame) (sym front) ∙ coded) in
      known-behind enc (interval_of enc.max_key_frame_interval) moment.accepted (keys_of moment.accepted moment.decisions)
      there.0 frame there.1 there.2 there.3 there.4 (in_front known_now moment.commands there.0 (Code frame there.1 there.2 there.3 there.4) there.5)

  -- so no packet of an undecided frame was given
  pub not_early : moment.packets ≤ length moment.decisions + 1
  not_early = elim (cases_Bool moment.flushed) [
    | inl flushed ↦ ended (sound.decided ∙ ap (decided_count (numbers_of enc) moment.accepted) flushed)
    | inr unflushed ↦ before moment.packets refl unflushed (sound.decided ∙ ap (decided_count (numbers_of enc) moment.accepted) unflushed)
  ]
    where
      ended : length moment.decisions ≡ moment.accepted - 1 → moment.packets ≤ length moment.decisions + 1
      ended e = omega (arith, packets-within)

      before : (n : ℕ) → moment.packets ≡ n → moment.flushed ≡ false → length moment.decisions ≡ moment.accepted - (ahead (numbers_of enc) + 1) → moment.packets ≤ length moment.decisions + 1
      before zero e unflushed decided = omega arith
      before (suc n) e unflushed decided =
          let behind : n + ahead (numbers_of enc) < moment.accepted = coded_behind n unflushed (sound.coded n (omega arith)) in
          omega arith

  -- where a receive is to code, the next command is known
  pub there : held_back enc moment ≡ None → moment.commands < length (known_at enc moment)
  there due = elim (cases_Bool moment.flushed) [
    | inl flushed ↦
        subst (λ (l : List Command). moment.commands < length l) (sym (known-flushed enc moment flushed))
        (more_to_come (plan_at enc moment) moment.accepted (plan-of enc moment) moment.commands commands-within
        (λ e. eqb-false moment.packets moment.accepted (incomplete flushed) (packets-are ∙ e)))
    | inr unflushed ↦ some_left (due-many enc moment due unflushed)
  ]
    where
      incomplete : moment.flushed ≡ true → is_complete moment ≡ false
      incomplete flushed = elim (and_cases moment.flushed (is_complete moment) (due-parts enc moment due).0) [
        | inl unflushed ↦ absurd (false≢true (sym unflushed ∙ flushed))
        | inr some_wait ↦ some_wait
      ]

      some_left : enc.speed_settings.rdo_lookahead_frames + 1 ≤ count_by is_coding (drop moment.commands (known_at enc moment)) → moment.commands < length (known_at enc moment)
      some_left h = left (enc.speed_settings.rdo_lookahead_frames) (count_by is_coding (drop moment.commands (known_at enc moment))) (length (drop moment.commands (known_at enc moment)))
          (length (known_at enc moment)) h (count_by-le-length is_coding (drop moment.commands (known_at enc moment))) (length-drop moment.commands (known_at enc moment))
        where
          left : (r n m l : ℕ) → r + 1 ≤ n → n ≤ m → m ≡ l - moment.commands → moment.commands < l
          left r n m l a b c = omega arith

  -- the next command of the plan can be coded
  pub can : (command : Command) → slice_get (plan_at enc moment) moment.commands ≡ Some command → CanCode moment command
  can (Code frame kind refs refresh visible) is = (
    subst (λ (n : ℕ). n ≤ frame) (sym packets-are) ((plan-of enc moment).unshown moment.commands frame kind refs refresh visible is),
    (plan-of enc moment).below moment.commands frame kind refs refresh visible is,
  )
  can (Show slot) is =
      let coded : has_code done (moment.packets + 0) ≡ true =
      ap₂ has_code sound.commands (here ∙ packets-are) ∙ show_coded (plan_at enc moment) moment.accepted (plan-of enc moment) moment.commands slot is in
      some_mapped (option_and_then (λ (one : Waiting T O). one.coded) (slice_get moment.waiting 0)) (coded_kind done (moment.packets + 0))
      (sound.kinds 0 ∙ kind_of-coded done (moment.packets + 0) coded)
    where
      some_mapped : (o : Option Coding) (kind : FrameType) → option_map (λ coding. coding.kind) o ≡ Some kind → IsSome o
      some_mapped None kind e = absurd (none-some kind e)
      some_mapped (Some coding) kind e = refl

      here : moment.packets + 0 ≡ moment.packets
      here = omega arith

  pub sound-ready : (moment.flushed ≡ false → moment.packets ≤ length moment.decisions) → IsReady enc moment
  sound-ready late = record {
    few = sound.few;
    waits = waits;
    decided = sound.decided;
    in_order = sound.are.positions;
    late = late;
    there = there;
    next = can;
  }
