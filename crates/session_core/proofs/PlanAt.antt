-- The plan of a moment, and what a later moment keeps of it.
use Rattle.std.proofs.Common.{◌≡◌, ℕ, zero, suc, ◌+◌, ◌≤◌, true, false, eqb, inl, inr, List, [], ◌∷◌, ◌++◌, map, length, take, refl, sym, ap, ◌∙◌, subst, subst₂, append-nil, append_assoc, arith}
use Rattle.std.specs.List.{range_with_len}
use Rattle.std.proofs.lemmas.Bool.{cases_Bool, cond_both, cond-true, cond-false, ne_eqb, eqb-false}
use Rattle.std.proofs.lemmas.List.{take-append-le, length-append}
use Rattle.av1_settings.specs.declared.encoder.EncoderConfig.{EncoderConfig}
use Rattle.av1_settings.specs.Settings.{interval_of}
use Rattle.pyramid.specs.declared.command.Command.{Command}
use Rattle.pyramid.specs.Known.{known}
use Rattle.pyramid.specs.Numbers.{ahead}
use Rattle.pyramid.specs.Playable.{IsPlayable}
use Rattle.pyramid.specs.Settings.{numbers_of}
use Rattle.pyramid.proofs.PublicLaws.{plan_is_playable, known_begins_the_plan, known_stays, settings_have_a_table}
use Rattle.session_core.specs.declared.transcript.Decision.{Decision}
use Rattle.session_core.specs.Decisions.{decided_count, key_positions, keys_of}
use Rattle.session_core.specs.Moments.{Moment, plan_at, known_at}
use Rattle.session_core.specs.Sessions.{IsPrefix}
use Rattle.session_core.proofs.Decided.{keys-append, keys-all}

-- two keys are at least one frame apart
pub interval-positive : (interval : ℕ) → 1 ≤ interval_of interval
interval-positive interval = cond_both (eqb interval 0) _ interval (λ n. 1 ≤ n) (λ e. omega arith) (λ e. positive interval (eqb-false interval 0 e))
  where
    positive : (n : ℕ) → (n ≡ 0 → ⊥) → 1 ≤ n
    positive n differs = omega arith

-- ---- fronts

-- the first commands of what begins a list are its own
pub front-same : {A : Type 0} (start whole : List A) (k : ℕ) → IsPrefix start whole → k ≤ length start → take k start ≡ take k whole
front-same start whole k first h = sym (ap (take k) first.1 ∙ take-append-le k start first.0 h)

pub front-fits : {A : Type 0} (start whole : List A) → IsPrefix start whole → length start ≤ length whole
front-fits start whole first =
    let e : length whole ≡ length start + length first.0 = ap length first.1 ∙ length-append start first.0 in
    omega arith

front-then : {A : Type 0} (a b c : List A) → IsPrefix a b → IsPrefix b c → IsPrefix a c
front-then {A} a b c first then = (first.0 ++ then.0, then.1 ∙ ap (λ (l : List A). l ++ then.0) first.1 ∙ append_assoc a first.0 then.0)

-- ---- of a moment

module _ {T O : Type 0} (enc : EncoderConfig) (moment : Moment T O) where
  pub plan-of : IsPlayable (plan_at enc moment) moment.accepted
  plan-of =
      plan_is_playable (numbers_of enc) (interval_of enc.max_key_frame_interval) moment.accepted (keys_of moment.accepted moment.decisions)
      (settings_have_a_table enc) (interval-positive enc.max_key_frame_interval)

  -- what is known begins the plan
  pub known-begins : IsPrefix (known_at enc moment) (plan_at enc moment)
  known-begins = cond_both moment.flushed (plan_at enc moment)
      (known (numbers_of enc) (interval_of enc.max_key_frame_interval) moment.accepted (keys_of moment.accepted moment.decisions))
      (λ (l : List Command). IsPrefix l (plan_at enc moment))
      (λ e. ([], sym (append-nil (plan_at enc moment))))
      (λ e. known_begins_the_plan (numbers_of enc) (interval_of enc.max_key_frame_interval) moment.accepted (keys_of moment.accepted moment.decisions) (interval-positive enc.max_key_frame_interval))

  pub known-within : length (known_at enc moment) ≤ length (plan_at enc moment)
  known-within = front-fits (known_at enc moment) (plan_at enc moment) known-begins

  -- before the flush and after it
  pub known-unflushed : moment.flushed ≡ false →
      known_at enc moment ≡ known (numbers_of enc) (interval_of enc.max_key_frame_interval) moment.accepted (keys_of moment.accepted moment.decisions)
  known-unflushed e = cond-false moment.flushed (plan_at enc moment)
      (known (numbers_of enc) (interval_of enc.max_key_frame_interval) moment.accepted (keys_of moment.accepted moment.decisions)) e

  pub known-flushed : moment.flushed ≡ true → known_at enc moment ≡ plan_at enc moment
  known-flushed e = cond-true moment.flushed (plan_at enc moment)
      (known (numbers_of enc) (interval_of enc.max_key_frame_interval) moment.accepted (keys_of moment.accepted moment.decisions)) e

-- ---- of a later moment

-- no less is known, and the plan begins as far as it was known
pub record Keeps {T O : Type 0} (enc : EncoderConfig) (before after : Moment T O) : Type 0 where
  pub known : length (known_at enc before) ≤ length (known_at enc after)
  pub front : (k : ℕ) → k ≤ length (known_at enc before) → take k (plan_at enc before) ≡ take k (plan_at enc after)

-- the keys of a count that isn't zero
keys-some : (accepted : ℕ) (decisions : List Decision) → 1 ≤ accepted → keys_of accepted decisions ≡ 0 ∷ key_positions decisions
keys-some accepted decisions some = cond-false (eqb accepted 0) [] (0 ∷ key_positions decisions) (ne_eqb accepted 0 (λ e. omega arith))

-- frames and decisions that come leave what is known
known-later : (enc : EncoderConfig) (interval accepted further : ℕ) (decisions made : List Decision) → 1 ≤ interval → accepted ≤ further →
    length decisions ≡ decided_count (numbers_of enc) accepted false →
    map (λ decision. decision.position) made ≡ range_with_len (length decisions + 1) (length made) →
    IsPrefix (known (numbers_of enc) interval accepted (keys_of accepted decisions)) (known (numbers_of enc) interval further (keys_of further (decisions ++ made)))
known-later enc interval zero further decisions made some later decided new =
    (known (numbers_of enc) interval further (keys_of further (decisions ++ made)), refl)
known-later enc interval (suc accepted) further decisions made some later decided new =
    subst₂ (λ (a b : List ℕ). IsPrefix (known (numbers_of enc) interval (suc accepted) a) (known (numbers_of enc) interval further b))
    (sym (keys-some (suc accepted) decisions (omega arith)))
    (ap (λ (l : List ℕ). 0 ∷ l) (sym (keys-append decisions made)) ∙ sym (keys-some further (decisions ++ made) (omega arith)))
    (known_stays (numbers_of enc) interval (suc accepted) further (0 ∷ key_positions decisions) (key_positions made) (settings_have_a_table enc) some later
    (keys-all (λ key. suc accepted ≤ key + ahead (numbers_of enc)) (length decisions + 1) made new (λ k low high. above k (subst (λ (n : ℕ). n + 1 ≤ k) decided low))))
  where
    above : (k : ℕ) → decided_count (numbers_of enc) (suc accepted) false + 1 ≤ k → suc accepted ≤ k + ahead (numbers_of enc)
    above k low = omega arith

-- as long as the frames haven't ended, later moments keep what is known
pub keeps-later : {T O : Type 0} (enc : EncoderConfig) (before after : Moment T O) (made : List Decision) → before.flushed ≡ false → before.accepted ≤ after.accepted →
    after.decisions ≡ before.decisions ++ made →
    length before.decisions ≡ decided_count (numbers_of enc) before.accepted false →
    map (λ decision. decision.position) made ≡ range_with_len (length before.decisions + 1) (length made) →
    Keeps enc before after
keeps-later {T} {O} enc before after made unflushed later grown decided new = record {
  known = front-fits (known_at enc before) (known_at enc after) into_known;
  front = λ k h. sym (front-same (known_at enc before) (plan_at enc before) k (known-begins enc before) h)
      ∙ front-same (known_at enc before) (plan_at enc after) k into_plan h;
}
  where
    into : IsPrefix (known_at enc before) (known (numbers_of enc) (interval_of enc.max_key_frame_interval) after.accepted (keys_of after.accepted after.decisions))
    into = subst₂ (λ (a : List Command) (ds : List Decision). IsPrefix a (known (numbers_of enc) (interval_of enc.max_key_frame_interval) after.accepted (keys_of after.accepted ds)))
        (sym (known-unflushed enc before unflushed)) (sym grown)
        (known-later enc (interval_of enc.max_key_frame_interval) before.accepted after.accepted before.decisions made
        (interval-positive enc.max_key_frame_interval) later decided new)

    into_plan : IsPrefix (known_at enc before) (plan_at enc after)
    into_plan = front-then (known_at enc before)
        (known (numbers_of enc) (interval_of enc.max_key_frame_interval) after.accepted (keys_of after.accepted after.decisions)) (plan_at enc after) into
        (known_begins_the_plan (numbers_of enc) (interval_of enc.max_key_frame_interval) after.accepted (keys_of after.accepted after.decisions) (interval-positive enc.max_key_frame_interval))

    into_known : IsPrefix (known_at enc before) (known_at enc after)
    into_known = elim (cases_Bool after.flushed) [
      | inl flushed ↦ subst (IsPrefix (known_at enc before)) (sym (known-flushed enc after flushed)) into_plan
      | inr open_yet ↦ subst (IsPrefix (known_at enc before)) (sym (known-unflushed enc after open_yet)) into
    ]
