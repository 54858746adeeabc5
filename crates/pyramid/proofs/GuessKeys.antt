-- The keys that a schedule keeps are all that a guess needs.
use Rattle.std.proofs.Common.{◌≡◌, ℕ, ◌+◌, ◌≤◌, Bool, true, false, cond, eqb, ltb, leb, List, [], ◌∷◌, Option, None, Some, refl, ap, ◌∙◌, arith, zero, suc}
use Rattle.std.specs.Prelude.{min}
use Rattle.std.specs.List.{slice_get}
use Rattle.av1_settings.specs.declared.frame_type.FrameType.TheVariants.{KEY, INTER, INTRA_ONLY, SWITCH}
use Rattle.pyramid.specs.declared.command.Command.{Command}
use Rattle.pyramid.specs.declared.command.Command.TheVariants.{Code, Show}
use Rattle.pyramid.specs.declared.guess.GuessWalk.{GuessWalk}
use Rattle.pyramid.specs.declared.place.Place.{Place}
use Rattle.pyramid.specs.declared.place.PlaceRow.{PlaceRow}
use Rattle.pyramid.specs.Building.{AreKeysFrom}
use Rattle.pyramid.specs.Guess.{known_at, endless_start_after, first_place, walk_from, past_guessed_key, past_cut, past_show, past_frame, key_at, has_whole_gop, past_row, past_place, walked, enough_steps, whole_walk}
use Rattle.pyramid.specs.Numbers.{Numbers}
use Rattle.pyramid.specs.Places.{place_row}
use Rattle.pyramid.proofs.KeptKeys.{FromStart, Rise}
use Rattle.pyramid.proofs.GuessSteps.{past_with}

same_after : (interval from : ℕ) (kept keys : List ℕ) (start : ℕ) → AreKeysFrom from kept keys → from ≤ start → endless_start_after interval kept start ≡ endless_start_after interval keys start
same_after interval from kept keys start are h = ap (λ (n : ℕ). min n (start + interval)) (are (start + interval) start h)

-- a known key isn't before the starts from which these places rise
from-known : (low : ℕ) (places : List Place) (high behind : ℕ) → Rise low places high → FromStart low (known_at places behind)
from-known low places high behind r = by (eqb behind 0)
  where
    lower : (a b : ℕ) (o : Option Command) → a ≤ b → FromStart b o → FromStart a o
    lower a b None h f = tt
    lower a b (Some (Show slot)) h f = tt
    lower a b (Some (Code frame kind refs refresh shown)) h f = omega (arith, h, f)

    from_at : (a : ℕ) (ps : List Place) (i : ℕ) → Rise a ps high → FromStart a (elim (slice_get ps i) [ None ↦ None | Some place ↦ place.command ])
    from_at a [] i r = tt
    from_at a (p ∷ ps) zero r = lower a p.start p.command r.0 r.1
    from_at a (p ∷ ps) (suc i) r = lower a p.start (elim (slice_get ps i) [ None ↦ None | Some place ↦ place.command ]) r.0 (from_at p.start ps i r.2)

    by : (b : Bool) → FromStart low (cond b None (elim (slice_get places behind) [ None ↦ None | Some place ↦ place.command ]))
    by true = tt
    by false = from_at low places behind r

module _ (numbers : Numbers) (interval from : ℕ) (kept keys : List ℕ) (places : List Place) (high : ℕ) (are : AreKeysFrom from kept keys) (rise : Rise from places high) where
  -- one step is the same, and the key's input stays at the start or above
  record SameStep (walk : GuessWalk) : Type 0 where
    pub same : past_place numbers interval kept places walk ≡ past_place numbers interval keys places walk
    pub from_on : from ≤ (past_place numbers interval keys places walk).key_input

  row-same : (walk : GuessWalk) → from ≤ walk.key_input → past_row numbers interval kept walk ≡ past_row numbers interval keys walk
  row-same walk h =
      let row = place_row numbers walk.since_key in
      let input = walk.key_input + row.position in
      ap (λ (next : ℕ). cond (leb next input) (cond (has_whole_gop numbers next walk) (past_guessed_key input walk) (past_cut walk)) (cond row.show_existing (past_show walk) (past_frame row.level row.shown walk)))
      (same_after interval from kept keys walk.key_input are h)

  row-from : (walk : GuessWalk) → from ≤ walk.key_input → from ≤ (past_row numbers interval keys walk).key_input
  row-from walk h = by (leb next input) (has_whole_gop numbers next walk) row.show_existing
    where
      next : ℕ
      next = endless_start_after interval keys walk.key_input

      row : PlaceRow
      row = place_row numbers walk.since_key

      input : ℕ
      input = walk.key_input + row.position

      by : (a b c : Bool) → from ≤ (cond a (cond b (past_guessed_key input walk) (past_cut walk)) (cond c (past_show walk) (past_frame row.level row.shown walk))).key_input
      by true true c = omega (arith, h)
      by true false c = h
      by false b true = h
      by false b false = h

  abbrev SameWith : GuessWalk → Option ℕ → Type 0
  SameWith walk key = (past_with numbers interval kept walk key ≡ past_with numbers interval keys walk key) × (from ≤ (past_with numbers interval keys walk key).key_input)

  same-step : (walk : GuessWalk) → from ≤ walk.key_input → SameWith walk (key_at (known_at places walk.behind) walk)
  same-step walk h = by (known_at places walk.behind) (from-known from places high walk.behind rise)
    where
      row : SameWith walk None
      row = (row-same walk h, row-from walk h)

      own : (b : Bool) → SameWith walk (cond b (Some walk.key_input) None)
      own true = (refl, h)
      own false = row

      by : (o : Option Command) → FromStart from o → SameWith walk (key_at o walk)
      by None f = own (eqb walk.since_key 0)
      by (Some (Show slot)) f = row
      by (Some (Code frame KEY refs refresh shown)) f = (refl, f)
      by (Some (Code frame INTER refs refresh shown)) f = row
      by (Some (Code frame INTRA_ONLY refs refresh shown)) f = row
      by (Some (Code frame SWITCH refs refresh shown)) f = row

  same-walked : (wanted steps : ℕ) (walk : GuessWalk) → from ≤ walk.key_input → walked numbers interval kept places wanted steps walk ≡ walked numbers interval keys places wanted steps walk
  same-walked wanted zero walk h = refl
  same-walked wanted (suc steps) walk h =
      let one = same-step walk h in
      ap (λ (w : GuessWalk). cond (ltb walk.tus wanted) w walk)
      (ap (walked numbers interval kept places wanted steps) one.0 ∙ same-walked wanted steps (past_place numbers interval keys places walk) one.1)

  pub same-whole_walk : (wanted : ℕ) → from ≤ (first_place places).start → whole_walk numbers interval kept places wanted ≡ whole_walk numbers interval keys places wanted
  same-whole_walk wanted h = same-walked wanted (enough_steps numbers wanted) (walk_from (first_place places)) h
