-- What a detector is asked of some decisions, whatever others there are.
use Rattle.std.proofs.Common.{◌≡◌, ℕ, zero, suc, ◌+◌, ◌<◌, ◌≤◌, max, Bool, true, false, cond, ltb, List, [], ◌∷◌, ◌++◌, map, filter, fold, length, get_or, drop, refl, sym, ap, ap₂, ◌∙◌, subst, append-nil, arith}
use Rattle.std.specs.List.{flat_map, range_with_len}
use Rattle.std.proofs.Math.Nat.{max-eq_right}
use Rattle.std.proofs.lemmas.Bool.{lt-ltb, le-ltb}
use Rattle.std.proofs.lemmas.List.Elements.{filter-append}
use Rattle.av1_frame.specs.declared.frame.Frame.{Frame}
use Rattle.av1_settings.specs.declared.speed.SceneDetectionSpeed.{SceneDetectionSpeed}
use Rattle.session_core.specs.declared.transcript.Decision.{Decision}
use Rattle.session_core.specs.Decisions.{key_positions}
use Rattle.session_core.specs.Questions.{last_key, question}
use Rattle.session_core.specs.Told.{Asked, told_ask}
use Rattle.session_core.proofs.Decided.{position_of, keys-append}

-- the decisions are those of the positions from `from` on
abbrev pub ArePlaced : ℕ → List Decision → Type 0
ArePlaced from decisions = map position_of decisions ≡ range_with_len from (length decisions)

pub placed-here : (from : ℕ) (d : Decision) (decisions : List Decision) → ArePlaced from (d ∷ decisions) → d.position ≡ from
placed-here from d decisions placed = cc

pub placed-rest : (from : ℕ) (d : Decision) (decisions : List Decision) → ArePlaced from (d ∷ decisions) → ArePlaced (from + 1) decisions
placed-rest from d decisions placed = cc

pub placed-drop : (from n : ℕ) (decisions : List Decision) → ArePlaced from decisions → ArePlaced (from + n) (drop n decisions)
placed-drop from zero decisions placed =
    let same : from + 0 ≡ from = omega arith in subst (λ (k : ℕ). ArePlaced k decisions) (sym same) placed
placed-drop from (suc n) [] placed = refl
placed-drop from (suc n) (d ∷ decisions) placed =
    let same : from + 1 + n ≡ from + suc n = omega arith in
    subst (λ (k : ℕ). ArePlaced k (drop n decisions)) same (placed-drop (from + 1) n decisions (placed-rest from d decisions placed))

-- ---- the last key

abbrev is_before : ℕ → ℕ → Bool
is_before position key = ltb key position

-- the keys of a decision and further ones, where it is a key or not
abbrev keys_with : Bool → Decision → List Decision → List ℕ
keys_with key d decisions = map position_of (cond key (d ∷ filter (λ (e : Decision). e.key) decisions) (filter (λ (e : Decision). e.key) decisions))

-- of decisions from a position on, none is before it
none_before : (position from : ℕ) (decisions : List Decision) → ArePlaced from decisions → position ≤ from →
    filter (is_before position) (key_positions decisions) ≡ []
none_before position from [] placed later = refl
none_before position from (d ∷ decisions) placed later =
    by_test d.key (none_before position (from + 1) decisions (placed-rest from d decisions placed) (omega arith))
  where
    not_before : ltb d.position position ≡ false
    not_before = le-ltb d.position position (omega (arith, placed-here from d decisions placed))

    by_test : (t : Bool) → filter (is_before position) (key_positions decisions) ≡ [] → filter (is_before position) (keys_with t d decisions) ≡ []
    by_test true rest =
        ap (λ (b : Bool). cond b (d.position ∷ filter (is_before position) (key_positions decisions)) (filter (is_before position) (key_positions decisions))) not_before ∙ rest
    by_test false rest = rest

-- of decisions up to a position, all are before it
all_before : (position from : ℕ) (decisions : List Decision) → ArePlaced from decisions → from + length decisions ≤ position →
    filter (is_before position) (key_positions decisions) ≡ key_positions decisions
all_before position from [] placed within = refl
all_before position from (d ∷ decisions) placed within =
    by_test d.key (all_before position (from + 1) decisions (placed-rest from d decisions placed) (omega arith))
  where
    before : ltb d.position position ≡ true
    before = lt-ltb d.position position (omega (arith, placed-here from d decisions placed))

    by_test : (t : Bool) → filter (is_before position) (key_positions decisions) ≡ key_positions decisions →
        filter (is_before position) (keys_with t d decisions) ≡ keys_with t d decisions
    by_test true rest =
        ap (λ (b : Bool). cond b (d.position ∷ filter (is_before position) (key_positions decisions)) (filter (is_before position) (key_positions decisions))) before
        ∙ ap (λ (l : List ℕ). d.position ∷ l) rest
    by_test false rest = rest

-- later decisions don't count
pub last_key-later : (decisions more : List Decision) (position from : ℕ) → ArePlaced from more → position ≤ from →
    last_key (decisions ++ more) position ≡ last_key decisions position
last_key-later decisions more position from placed later =
    ap (λ (l : List ℕ). fold max 0 (filter (is_before position) l)) (keys-append decisions more)
    ∙ ap (fold max 0) (filter-append (is_before position) (key_positions decisions) (key_positions more)
    ∙ ap (λ (l : List ℕ). filter (is_before position) (key_positions decisions) ++ l) (none_before position from more placed later)
    ∙ append-nil (filter (is_before position) (key_positions decisions)))

-- keys rise, so that the last is the greatest
greatest_last : (least from : ℕ) (decisions : List Decision) → ArePlaced from decisions → least < from →
    fold max least (key_positions decisions) ≡ get_or (least ∷ key_positions decisions) (length (key_positions decisions)) 0
greatest_last least from [] placed below = refl
greatest_last least from (d ∷ decisions) placed below =
    by_test d.key
    (greatest_last d.position (from + 1) decisions (placed-rest from d decisions placed) (omega (arith, placed-here from d decisions placed)))
    (greatest_last least (from + 1) decisions (placed-rest from d decisions placed) (omega arith))
  where
    here : max least d.position ≡ d.position
    here = max-eq_right (omega (arith, placed-here from d decisions placed))

    by_test : (t : Bool) →
        fold max d.position (key_positions decisions) ≡ get_or (d.position ∷ key_positions decisions) (length (key_positions decisions)) 0 →
        fold max least (key_positions decisions) ≡ get_or (least ∷ key_positions decisions) (length (key_positions decisions)) 0 →
        fold max least (keys_with t d decisions) ≡ get_or (least ∷ keys_with t d decisions) (length (keys_with t d decisions)) 0
    by_test true taken skipped = ap (λ (k : ℕ). fold max k (key_positions decisions)) here ∙ taken
    by_test false taken skipped = skipped

pub last_key-is : (decisions : List Decision) → ArePlaced 1 decisions →
    last_key decisions (length decisions + 1) ≡ get_or (0 ∷ key_positions decisions) (length (key_positions decisions)) 0
last_key-is decisions placed =
    let within : 1 + length decisions ≤ length decisions + 1 = omega arith in
    let some : 0 < 1 = omega arith in
    ap (fold max 0) (all_before (length decisions + 1) 1 decisions placed within) ∙ greatest_last 0 1 decisions placed some

-- ---- questions

-- the same is asked where the same frames are handed over and the same last keys told
pub questions-agree : {T : Type 0} (mode : SceneDetectionSpeed) (frames others : ℕ → List (Frame T)) (decisions among made : List Decision) (from : ℕ) →
    ArePlaced from made →
    ((p : ℕ) → from ≤ p → p < from + length made → frames p ≡ others p) →
    ((p : ℕ) → from ≤ p → p < from + length made → last_key decisions p ≡ last_key among p) →
    flat_map (question mode frames decisions) made ≡ flat_map (question mode others among) made
questions-agree mode frames others decisions among [] from placed same last = refl
questions-agree {T} mode frames others decisions among (d ∷ made) from placed same last =
    ap₂ (λ (a b : List (Asked T)). a ++ b) here
    (questions-agree mode frames others decisions among made (from + 1) (placed-rest from d made placed)
    (λ p low high. same p (omega arith) (omega arith)) (λ p low high. last p (omega arith) (omega arith)))
  where
    at : d.position ≡ from
    at = placed-here from d made placed

    same_frames : frames d.position ≡ others d.position
    same_frames = same d.position (omega (arith, at)) (omega (arith, at))

    same_last : last_key decisions d.position ≡ last_key among d.position
    same_last = last d.position (omega (arith, at)) (omega (arith, at))

    here : question mode frames decisions d ≡ question mode others among d
    here = ap₂ (λ (f : List (Frame T)) (k : ℕ). cond d.forced [] (told_ask mode f d.position k d.key ∷ [])) same_frames same_last
