-- How many commands are done before a send, and receives put behind calls.
use Rattle.std.proofs.Common.{◌≡◌, ℕ, zero, suc, ◌+◌, ◌-◌, ◌<◌, ◌≤◌, Bool, true, false, cond, eqb, ltb, List, [], ◌∷◌, ◌++◌, length, drop, replicate, refl, sym, ap, ◌∙◌, subst, zero-le, arith, count_by, append_assoc, Option, None, Some, slice_get, is_some, get_or, ◌⊎◌, inl, inr}
use Rattle.std.specs.Prelude.{⊤}
use Rattle.std.proofs.lemmas.Bool.{cond_both, eqb-false, false≢true, ltb-true, ltb-false, true≢false}
use Rattle.std.proofs.lemmas.Grind.{replicate_next}
use Rattle.std.proofs.lemmas.List.{append-nil, length-append, length-replicate}
use Rattle.std.proofs.lemmas.Option.{none-some, slice_get_cases, slice_get_within}
use Rattle.std.proofs.lemmas.List.Sums.{sum_by-append, sum_by-cons}
use Rattle.av1_settings.specs.declared.encoder.EncoderConfig.{EncoderConfig}
use Rattle.av1_settings.specs.Settings.{interval_of}
use Rattle.pyramid.specs.declared.command.Command.{Command}
use Rattle.pyramid.specs.declared.schedule.Schedule.{Schedule}
use Rattle.pyramid.specs.Begins.{Begins}
use Rattle.pyramid.specs.Known.{is_coding}
use Rattle.pyramid.specs.Settings.{numbers_of}
use Rattle.pyramid.proofs.PublicLaws.{known_stays, settings_have_a_table}
use Rattle.session_core.specs.declared.call.Call.{Call}
use Rattle.session_core.specs.declared.call.Call.TheVariants.{Receive}
use Rattle.gop_board.specs.JobCalls.{done_before, done_until, job_known}
use Rattle.gop_board.specs.JobSchedules.{IsJobSchedule}

-- ---- counts of commands that code a frame

count-cons : (command : Command) (commands : List Command) → count_by is_coding (command ∷ commands) ≡ cond (is_coding command) 1 0 + count_by is_coding commands
count-cons command commands = sum_by-cons (λ one. cond (is_coding one) 1 0) command commands

count-append : (front rest : List Command) → count_by is_coding (front ++ rest) ≡ count_by is_coding front + count_by is_coding rest
count-append front rest = sum_by-append (λ one. cond (is_coding one) 1 0) front rest

count-drop : (commands : List Command) (k : ℕ) → count_by is_coding (drop k commands) ≤ count_by is_coding commands
count-drop [] zero = zero-le
count-drop [] (suc k) = zero-le
count-drop (command ∷ commands) zero = omega arith
count-drop (command ∷ commands) (suc k) = omega (arith, count-drop commands k, count-cons command commands)

-- ---- how many are done

-- by cases: none, or one more than of the rest
until-cons : (enough : ℕ) (command : Command) (commands : List Command) (P : ℕ → Type 0) →
    (count_by is_coding (command ∷ commands) < enough → P 0) →
    (enough ≤ count_by is_coding (command ∷ commands) → P (done_until enough commands + 1)) →
    P (done_until enough (command ∷ commands))
until-cons enough command commands P few many = by_test (ltb (count_by is_coding (command ∷ commands)) enough) refl
  where
    by_test : (t : Bool) → ltb (count_by is_coding (command ∷ commands)) enough ≡ t → P (cond t 0 (done_until enough commands + 1))
    by_test true e = few (ltb-true _ _ e)
    by_test false e = many (ltb-false _ _ e)

until-length : (enough : ℕ) (commands : List Command) → done_until enough commands ≤ length commands
until-length enough [] = zero-le
until-length enough (command ∷ commands) =
    until-cons enough command commands (λ n. n ≤ length (command ∷ commands)) (λ few. zero-le)
    (λ many. omega (arith, until-length enough commands))

-- where fewer are left, all of them are done
until-reached : (enough : ℕ) (commands : List Command) (count : ℕ) → count_by is_coding (drop count commands) < enough → done_until enough commands ≤ count
until-reached enough [] count h = zero-le
until-reached enough (command ∷ commands) zero h =
    until-cons enough command commands (λ n. n ≤ 0) (λ few. zero-le) (λ many. absurd (omega arith))
until-reached enough (command ∷ commands) (suc k) h =
    until-cons enough command commands (λ n. n ≤ suc k) (λ few. zero-le) (λ many. omega (arith, until-reached enough commands k h))

-- and once they are, fewer are left
until-ends : (enough : ℕ) (commands : List Command) (count : ℕ) → 1 ≤ enough → done_until enough commands ≤ count → count_by is_coding (drop count commands) < enough
until-ends enough [] zero some h = omega arith
until-ends enough [] (suc k) some h = omega arith
until-ends enough (command ∷ commands) zero some h =
    until-cons enough command commands (λ n. n ≤ 0 → count_by is_coding (command ∷ commands) < enough) (λ few _. few) (λ many over. absurd (omega arith)) h
until-ends enough (command ∷ commands) (suc k) some h =
    until-cons enough command commands (λ n. n ≤ suc k → count_by is_coding (drop k commands) < enough)
    (λ few _. omega (arith, count-drop commands k, count-cons command commands))
    (λ many within. until-ends enough commands k some (omega arith)) h

-- of more commands no fewer are done
until-more : (enough : ℕ) (front rest : List Command) → done_until enough front ≤ done_until enough (front ++ rest)
until-more enough [] rest = zero-le
until-more enough (command ∷ front) rest =
    until-cons enough command (front ++ rest) (λ n. done_until enough (command ∷ front) ≤ n)
    (λ few. until-cons enough command front (λ n. n ≤ 0) (λ _. zero-le) (λ many. absurd (omega (arith, count-cons command front, count-cons command (front ++ rest), count-append front rest))))
    (λ many. until-cons enough command front (λ n. n ≤ done_until enough (front ++ rest) + 1) (λ _. zero-le) (λ _. omega (arith, until-more enough front rest)))

-- ---- of a job

pub interval-positive : (interval : ℕ) → 1 ≤ interval_of interval
interval-positive interval = cond_both (eqb interval 0) _ interval (λ n. 1 ≤ n) (λ e. omega arith) (λ e. positive interval (eqb-false interval 0 e))
  where
    positive : (n : ℕ) → (n ≡ 0 → ⊥) → 1 ≤ n
    positive n differs = omega arith

known-stays : (enc : EncoderConfig) (frames later : ℕ) → frames ≤ later → Begins (job_known enc frames) (job_known enc later)
known-stays enc frames later within =
    known_stays (numbers_of enc) (interval_of enc.max_key_frame_interval) frames later (0 ∷ []) [] (settings_have_a_table enc)
    (interval-positive enc.max_key_frame_interval) within (λ k d below. absurd (omega arith))

pub done-rises : (enc : EncoderConfig) (number : ℕ) → done_before enc (number - 1) ≤ done_before enc number
done-rises enc number =
    let begins = known-stays enc (number - 1) number (omega arith) in
    let enough = enc.speed_settings.rdo_lookahead_frames + 1 in
    subst (λ (commands : List Command). done_before enc (number - 1) ≤ done_until enough commands) (sym begins.1) (until-more enough (job_known enc (number - 1)) begins.0)

-- ---- receives put behind calls

-- so many more commands are done than `from`, at most `upto`, each by a receive behind the calls at first
pub record HasReceived {T : Type 0} (enc : EncoderConfig) (frames : ℕ) (flushed : Bool) (from upto : ℕ) (first now : List (Call T ⊤)) (schedule : Schedule) : Type 0 where
  pub count : ℕ
  pub calls : now ≡ first ++ replicate count Receive
  pub within : from + count ≤ upto
  pub scheduled : IsJobSchedule enc frames flushed (from + count) schedule

module _ {T : Type 0} (enc : EncoderConfig) (frames : ℕ) (flushed : Bool) (from upto : ℕ) (first : List (Call T ⊤)) where
  pub received-none : (schedule : Schedule) → from ≤ upto → IsJobSchedule enc frames flushed from schedule → HasReceived enc frames flushed from upto first first schedule
  received-none schedule within scheduled = record {
    count = 0;
    calls = sym (append-nil first);
    within = omega arith;
    scheduled = let same : from ≡ from + 0 = omega arith in subst (λ (n : ℕ). IsJobSchedule enc frames flushed n schedule) same scheduled;
  }

  pub received-one : (now next : List (Call T ⊤)) (schedule later : Schedule) → (so : HasReceived enc frames flushed from upto first now schedule) →
      from + so.count < upto → IsJobSchedule enc frames flushed (from + so.count + 1) later → next ≡ now ++ Receive ∷ [] →
      HasReceived enc frames flushed from upto first next later
  received-one now next schedule later so below scheduled is = record {
    count = so.count + 1;
    calls = is ∙ ap (λ (l : List (Call T ⊤)). l ++ Receive ∷ []) so.calls ∙ append_assoc first (replicate so.count Receive) (Receive ∷ [])
        ∙ ap (λ (l : List (Call T ⊤)). first ++ l) (sym (replicate_next so.count Receive));
    within = omega arith;
    scheduled = let same : from + so.count + 1 ≡ from + (so.count + 1) = omega arith in subst (λ (n : ℕ). IsJobSchedule enc frames flushed n later) same scheduled;
  }

  pub received-length : (now : List (Call T ⊤)) (schedule : Schedule) → (so : HasReceived enc frames flushed from upto first now schedule) → length now ≡ length first + so.count
  received-length now schedule so = ap length so.calls ∙ length-append first (replicate so.count Receive) ∙ ap (λ (n : ℕ). length first + n) (length-replicate so.count Receive)

  pub received-smaller : (now next : List (Call T ⊤)) (schedule : Schedule) → (so : HasReceived enc frames flushed from upto first now schedule) →
      from + so.count < upto → next ≡ now ++ Receive ∷ [] → length first + upto - length next < length first + upto - length now
  received-smaller now next schedule so below is =
      omega (arith, received-length now schedule so, ap length is ∙ length-append now (Receive ∷ []))

  pub received-all : (now : List (Call T ⊤)) (schedule : Schedule) → (so : HasReceived enc frames flushed from upto first now schedule) → upto ≤ from + so.count →
      (now ≡ first ++ replicate (upto - from) Receive) × IsJobSchedule enc frames flushed upto schedule
  received-all now schedule so all =
      let count : so.count ≡ upto - from = omega (arith, so.within) in
      let end : from + so.count ≡ upto = omega (arith, so.within) in
      (so.calls ∙ ap (λ (n : ℕ). first ++ replicate n Receive) count, subst (λ (n : ℕ). IsJobSchedule enc frames flushed n schedule) end so.scheduled)

-- where more coded commands than `most` are left, not all are done, else they are
pub not-done : (enc : EncoderConfig) (number count : ℕ) → enc.speed_settings.rdo_lookahead_frames < count_by is_coding (drop count (job_known enc number)) →
    count < done_before enc number
not-done enc number count many =
    below _ _ count (done_before enc number) (until-ends (enc.speed_settings.rdo_lookahead_frames + 1) (job_known enc number) count (omega arith)) many
  where
    below : (left most n d : ℕ) → (d ≤ n → left < most + 1) → most < left → n < d
    below left most n d ends many = by_test (ltb n d) refl
      where
        by_test : (t : Bool) → ltb n d ≡ t → n < d
        by_test true e = ltb-true n d e
        by_test false e = absurd (omega (arith, ends (ltb-false n d e)))

pub all-done : (enc : EncoderConfig) (number count : ℕ) → count_by is_coding (drop count (job_known enc number)) ≤ enc.speed_settings.rdo_lookahead_frames →
    done_before enc number ≤ count
all-done enc number count few = until-reached (enc.speed_settings.rdo_lookahead_frames + 1) (job_known enc number) count (omega arith)

pub done-known : (enc : EncoderConfig) (number : ℕ) → done_before enc number ≤ length (job_known enc number)
done-known enc number = until-length (enc.speed_settings.rdo_lookahead_frames + 1) (job_known enc number)

-- where a command is found it is below the length, else all are done
pub some-within : (commands : List Command) (n : ℕ) (found : Option Command) → found ≡ slice_get commands n → is_some found ≡ true → n < length commands
some-within commands n None is e = absurd (false≢true e)
some-within commands n (Some command) is e = slice_get_within commands n command (sym is)

pub none-past : (commands : List Command) (n : ℕ) (found : Option Command) → found ≡ slice_get commands n → is_some found ≡ false → length commands ≤ n
none-past commands n (Some command) is e = absurd (true≢false e)
none-past commands n None is e = by_case (slice_get_cases commands n).1
  where
    by_case : ((x : Command) × (n < length commands) × (slice_get commands n ≡ Some x) × (get_or commands n x ≡ x)) ⊎ ((length commands ≤ n) × (slice_get commands n ≡ None)) → length commands ≤ n
    by_case (inl h) = absurd (none-some h.0 (is ∙ h.2))
    by_case (inr h) = h.0
