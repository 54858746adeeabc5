-- Rate control counts no more commands than were coded for good.
use Rattle.std.proofs.Common.{◌≡◌, ℕ, suc, ◌+◌, ◌≤◌, ◌==◌, Bool, true, false, cond, not, ◌&&◌, All, nat_lt, List, [], ◌∷◌, filter, map, length, Option, Some, None, ℤ, pos, ◌+ℤ◌, ◌≤ℤ◌, int_lt, refl, arith}
use Rattle.std.specs.Int.{int_min}
use Rattle.std.proofs.lemmas.Int.{clamps, ints}
use Rattle.av1_settings.specs.declared.encoder.EncoderConfig.{EncoderConfig}
use Rattle.av1_settings.specs.declared.frame_type.FrameType.{FrameType}
use Rattle.av1_settings.specs.declared.frame_type.FrameType.TheVariants.{KEY, INTER, INTRA_ONLY, SWITCH}
use Rattle.pass_data.specs.declared.given.Header.{Header}
use Rattle.pyramid.specs.declared.command.Command.{Command}
use Rattle.pyramid.specs.declared.command.Command.TheVariants.{Code, Show}
use Rattle.pyramid.specs.Known.{is_coding}
use Rattle.pyramid.specs.Subtypes.{frame_subtype, subtype_of}
use Rattle.rate_model.specs.Measure.{Entry}
use Rattle.ratecontrol.specs.Kept.{kept, with_log}
use Rattle.ratecontrol.specs.Log.{is_coded, is_show}
use Rattle.ratecontrol.specs.Passes.{commands, over_the_file, over_the_window, set_up, set_up_by}
use Rattle.ratecontrol.specs.Rate.{Rate}
use Rattle.ratecontrol.specs.Start.{start}
use Rattle.reservoir.specs.Moves.{LAST_COUNT}
use Rattle.session_log.specs.Passes.{Passes, started, with_passes}
use Rattle.session_log.specs.Readings.{measured, start_of}
use Rattle.session_log.specs.declared.entry.LogEntry.{LogEntry}
use Rattle.session_core.specs.Contexts.{Session}
use Rattle.session_core.specs.PassCalls.{rate_in}
use Rattle.session_core.specs.Turns.{real_entries}
use Rattle.session_channels.specs.Wells.{IsUntried}

-- ---- the start

record CountsNone (r : Rate) : Type 0 where
  pub coded : r.coded ≡ pos 0
  pub shown_again : r.shown_again ≡ pos 0

start-none : (enc : EncoderConfig) (passes : Passes) → CountsNone (with_passes passes (start_of enc))
unfolding start
start-none enc passes = record { coded = refl; shown_again = refl }

levels-none : (finite : Bool) (h : Header) (r : Rate) → CountsNone r → CountsNone (cond finite (over_the_window h r) (over_the_file h r))
levels-none true h r none = record { coded = none.coded; shown_again = none.shown_again }
levels-none false h r none = record { coded = none.coded; shown_again = none.shown_again }

set_up-none : (header : Option Header) (r : Rate) → CountsNone r → CountsNone (set_up_by header r)
unfolding set_up
set_up-none None r none = none
set_up-none (Some h) r none =
    let levels = levels-none r.given.is_finite h r none in
    record { coded = levels.coded; shown_again = levels.shown_again }

started-none : (enc : EncoderConfig) (passes : Passes) → CountsNone (started enc passes)
started-none enc passes =
    let none = set_up-none passes.given.header (with_passes passes (start_of enc)) (start-none enc passes) in
    record { coded = none.coded; shown_again = none.shown_again }

-- ---- along a log

kept-few : (s : Rate) (es : List Entry) → CountsNone s → commands (kept s es) ≤ℤ pos (length (filter is_coded es) + length (filter is_show es))
unfolding kept
kept-few s es none = by_bitrate (int_lt (pos 0) s.bitrate)
  where
    least : (c z l m : ℤ) (a b : ℕ) → c ≡ pos 0 → z ≡ pos 0 → (int_min (c +ℤ pos a) l +ℤ int_min (z +ℤ pos b) m) ≤ℤ pos (a + b)
    least c z l m a b p q = omega (arith, ints, clamps)

    by_bitrate : (b : Bool) → commands (cond b (with_log s es) s) ≤ℤ pos (length (filter is_coded es) + length (filter is_show es))
    by_bitrate true = least s.coded s.shown_again LAST_COUNT LAST_COUNT (length (filter is_coded es)) (length (filter is_show es)) none.coded none.shown_again
    by_bitrate false = let c = none.coded in let z = none.shown_again in omega (arith, ints)

level-low : (refresh : ℕ) → nat_lt (cond (refresh == 16) 2 (cond (refresh == 32) 3 1)) 4 ≡ true
level-low refresh = by_tests (refresh == 16) (refresh == 32)
  where
    by_tests : (a b : Bool) → nat_lt (cond a 2 (cond b 3 1)) 4 ≡ true
    by_tests true b = refl
    by_tests false true = refl
    by_tests false false = refl

frame-low : (kind : FrameType) (refresh : ℕ) → nat_lt (frame_subtype kind refresh) 4 ≡ true
frame-low KEY refresh = refl
frame-low INTER refresh = level-low refresh
frame-low INTRA_ONLY refresh = level-low refresh
frame-low SWITCH refresh = level-low refresh

shows-high : (command : Command) → nat_lt (subtype_of command) 4 ≡ false → is_coding command ≡ false
shows-high (Code frame kind refs refresh shown) high = let low = frame-low kind refresh in absurd (cc)
shows-high (Show slot) high = refl

one-few : {E F : Type 0} (low trial bits : Bool) (x : E) (e : F) (xs ys : List E) (rs : List F) → (low ≡ false → trial ≡ false) → length xs + length ys ≤ length rs →
    length (cond (low && (not trial && bits)) (x ∷ xs) xs) + length (cond (not low) (x ∷ ys) ys) ≤ length (cond (not trial) (e ∷ rs) rs)
one-few true true bits x e xs ys rs untried few = omega arith
one-few true false true x e xs ys rs untried few = omega arith
one-few true false false x e xs ys rs untried few = omega arith
one-few false true bits x e xs ys rs untried few = let is = untried refl in absurd (cc)
one-few false false bits x e xs ys rs untried few = omega arith

log-few : (log : List LogEntry) → All IsUntried log → length (filter is_coded (map measured log)) + length (filter is_show (map measured log)) ≤ length (real_entries log)
log-few [] untried = omega arith
log-few (entry ∷ log) untried =
    let first : IsUntried entry = untried 0 entry (omega arith) in
    one-few (nat_lt (subtype_of entry.command) 4) entry.trial (int_lt (pos 0) (measured entry).bits) (measured entry) entry
    (filter is_coded (map measured log)) (filter is_show (map measured log)) (real_entries log)
    (λ high. first (shows-high entry.command high))
    (log-few log (λ k d below. untried (suc k) d (omega arith)))

pub counts-few : {T O D S C : Type 0} (session : Session T O D S C) → session.moment.commands ≡ length (real_entries session.moment.log) → All IsUntried session.moment.log →
    commands (rate_in session) ≤ℤ pos session.moment.commands
counts-few session real untried =
    let kept_few = kept-few (started session.enc session.passes) (map measured session.moment.log) (started-none session.enc session.passes) in
    let few = log-few session.moment.log untried in
    at_most (commands (rate_in session)) (length (filter is_coded (map measured session.moment.log)) + length (filter is_show (map measured session.moment.log)))
    (length (real_entries session.moment.log)) kept_few few real
  where
    at_most : (n : ℤ) (a b : ℕ) {c : ℕ} → n ≤ℤ pos a → a ≤ b → c ≡ b → n ≤ℤ pos c
    at_most n a b low few same = omega (arith, ints)
