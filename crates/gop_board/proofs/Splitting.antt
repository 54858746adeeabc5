-- Frames are split one after the other.
use Rattle.std.proofs.Common.{◌≡◌, ℕ, zero, suc, ◌+◌, ◌-◌, ◌<◌, ◌≤◌, max, Bool, true, false, eqb, ltb, ◌||◌, List, [], ◌∷◌, ◌++◌, map, filter, fold, length, take, drop, Option, Some, None, Result, Ok, Err, IfSome, IfOk, MatchBool, Global, get_or, refl, sym, ap, ap₂, ◌∙◌, subst, inl, inr, append_assoc, append-nil, arith}
use Rattle.std.specs.List.{All, flat_map, list_any, range_with_len, slice_get, take-map, drop-map}
use Rattle.std.proofs.lemmas.Bool.{cases_lt, cond-true, cond-false, lt-ltb, le-ltb}
use Rattle.std.proofs.lemmas.Bool.Decides.{nat_tests}
use Rattle.std.proofs.lemmas.List.{length-append, length-map, map-append, take_all, take_more}
use Rattle.std.proofs.lemmas.List.Concat.{flat_map-append}
use Rattle.std.proofs.lemmas.List.Elements.{All-append, All-weaker, All-nil, All-cons, All-head, All-tail, filter-append}
use Rattle.std.proofs.lemmas.List.Folds.{list_any-append, list_any_none}
use Rattle.std.proofs.lemmas.List.FromFn.{map-range_with_len_more}
use Rattle.std.proofs.lemmas.List.Sums.{fold_push, sum_by-cons, sum_by_push}
use Rattle.std.specs.declared.sync.Arc.{Arc}
use Rattle.av1_frame.specs.declared.frame.Frame.{Frame}
use Rattle.av1_settings.specs.declared.encoder.EncoderConfig.{EncoderConfig}
use Rattle.pyramid.specs.Numbers.{ahead}
use Rattle.pyramid.specs.Settings.{numbers_of}
use Rattle.session_core.specs.Told.{Asked, DetectorTold, Grew, GrowsBy, IsDetectorLater, told_ask}
use Rattle.gop_board.specs.declared.job.Job.{Job}
use Rattle.gop_board.specs.Jobs.{AreJobs, IsSplit, frames_in, frames_near, is_start, last_start, pictures, question, starts_of}

-- ---- what is told

pub grew-none : {E : Type 0} (a : Option (List E)) → Grew a a []
grew-none None = tt
grew-none (Some xs) = sym (append-nil xs)

pub grew-then : {E : Type 0} (a b c : Option (List E)) (xs ys : List E) → Grew a b xs → Grew b c ys → Grew a c (xs ++ ys)
grew-then None b c xs ys one two = tt
grew-then (Some before) None c xs ys one two = absurd one
grew-then (Some before) (Some now) None xs ys one two = absurd two
grew-then {E} (Some before) (Some now) (Some after) xs ys one two = two ∙ ap (λ (l : List E). l ++ ys) one ∙ append_assoc before xs ys

pub later-none : {T : Type 0} (a : DetectorTold T) → IsDetectorLater a a
later-none a = record { questions = ([], grew-none a.questions); answers = refl }

pub later-then : {T : Type 0} (a b c : DetectorTold T) → IsDetectorLater a b → IsDetectorLater b c → IsDetectorLater a c
later-then a b c one two = record {
  questions = (one.questions.0 ++ two.questions.0, grew-then a.questions b.questions c.questions one.questions.0 two.questions.0 one.questions.1 two.questions.1);
  answers = two.answers ∙ one.answers;
}

-- ---- numbers and first positions

-- jobs from this number and this position on
abbrev pub Placed : {T : Type 0} → ℕ → ℕ → List (Job T) → Type 0
Placed number first [] = Unit {0}
Placed number first (job ∷ jobs) =
    (job.number ≡ number) × (job.first ≡ first) × (0 < length job.frames) × Placed (number + 1) (first + length job.frames) jobs

frames-cons : {T : Type 0} (job : Job T) (jobs : List (Job T)) → frames_in (job ∷ jobs) ≡ length job.frames + frames_in jobs
frames-cons {T} job jobs = sum_by-cons (λ (j : Job T). length j.frames) job jobs

pub placed-push : {T : Type 0} (number first : ℕ) (jobs : List (Job T)) (job : Job T) → Placed number first jobs →
    job.number ≡ number + length jobs → job.first ≡ first + frames_in jobs → 0 < length job.frames → Placed number first (jobs ++ job ∷ [])
placed-push number first [] job placed count at some =
    let here : job.number ≡ number = omega (arith, count) in
    let there : job.first ≡ first = omega (arith, at) in
    (here, there, some, tt)
placed-push number first (one ∷ jobs) job placed count at some =
    let later : job.number ≡ number + 1 + length jobs = omega (arith, count) in
    let behind : job.first ≡ first + length one.frames + frames_in jobs = omega (arith, at, frames-cons one jobs) in
    (placed.0, placed.1, placed.2, placed-push (number + 1) (first + length one.frames) jobs job placed.3 later behind some)

placed-at : {T : Type 0} (number first : ℕ) (jobs : List (Job T)) (place : ℕ) (job : Job T) → Placed number first jobs →
    slice_get jobs place ≡ Some job → (job.number ≡ number + place) × (job.first ≡ first + frames_in (take place jobs)) × (0 < length job.frames)
placed-at number first [] place job placed at = absurd (cc)
placed-at number first (one ∷ jobs) zero job placed at =
    let same : one ≡ job = cc in
    subst (λ (j : _). (j.number ≡ number + 0) × (j.first ≡ first + 0) × (0 < length j.frames)) same
    (omega (arith, placed.0), omega (arith, placed.1), placed.2)
placed-at {T} number first (one ∷ jobs) (suc place) job placed at =
    let rest = placed-at (number + 1) (first + length one.frames) jobs place job placed.3 at in
    (omega (arith, rest.0), omega (arith, rest.1, frames-cons one (take place jobs)), rest.2)

pub placed-are : {T : Type 0} (frames : List (Frame T)) (jobs : List (Job T)) → flat_map pictures jobs ≡ frames → Placed 0 0 jobs → AreJobs frames jobs
placed-are frames jobs joined placed = record {
  joined = joined;
  each = λ place job at.
      let here = placed-at 0 0 jobs place job placed at in
      record { number = omega (arith, here.0); first = omega (arith, here.1); some = here.2 };
}

-- ---- starts

-- the starts of the jobs that have ended, and of the last one
abbrev pub starts_with : {T : Type 0} → List (Job T) → Job T → List ℕ
starts_with ended last = starts_of ended ++ last.first ∷ []

apart : (start position : ℕ) → start < position → eqb start position ≡ false
apart start position less = grind (arith, nat_tests)

same-number : (position : ℕ) → eqb position position ≡ true
same-number position = grind (arith, nat_tests)

-- no job starts at a position behind all starts
pub starts-no : (starts : List ℕ) (position : ℕ) → All (λ start. start < position) starts → is_start starts position ≡ false
starts-no starts position below =
    list_any_none (λ start. eqb start position) starts
    (All-weaker (λ start. start < position) (λ start. eqb start position ≡ false) (λ start less. apart start position less) starts below)

or-false : (b : Bool) → (b || false) ≡ b
or-false true = refl
or-false false = refl

or-true : (b : Bool) → (b || true) ≡ true
or-true true = refl
or-true false = refl

any-one : (start position : ℕ) → list_any (λ s. eqb s position) (start ∷ []) ≡ eqb start position
any-one start position = or-false (eqb start position)

pub starts-yes : (starts : List ℕ) (position : ℕ) → is_start (starts ++ position ∷ []) position ≡ true
starts-yes starts position =
    list_any-append (λ s. eqb s position) starts (position ∷ [])
    ∙ ap (λ (b : Bool). list_any (λ s. eqb s position) starts || b) (any-one position position ∙ same-number position)
    ∙ or-true (list_any (λ s. eqb s position) starts)

-- a further start says nothing of the positions before it
starts-same : (starts : List ℕ) (next position : ℕ) → position < next → is_start (starts ++ next ∷ []) position ≡ is_start starts position
starts-same starts next position less =
    let no : eqb next position ≡ false = grind (arith, nat_tests) in
    list_any-append (λ s. eqb s position) starts (next ∷ [])
    ∙ ap (λ (b : Bool). list_any (λ s. eqb s position) starts || b) (any-one next position ∙ no)
    ∙ or-false (list_any (λ s. eqb s position) starts)

last-same : (starts : List ℕ) (next position : ℕ) → position ≤ next → last_start (starts ++ next ∷ []) position ≡ last_start starts position
last-same starts next position from =
    let before : ℕ → Bool = λ s. ltb s position in
    let no : ltb next position ≡ false = le-ltb next position from in
    let none : filter before (next ∷ []) ≡ [] = cond-false (before next) (next ∷ []) [] no in
    ap (λ (l : List ℕ). fold max 0 l)
    (filter-append before starts (next ∷ []) ∙ ap (λ (l : List ℕ). filter before starts ++ l) none ∙ append-nil (filter before starts))

filter-whole : (position : ℕ) (starts : List ℕ) → All (λ start. start < position) starts → filter (λ s. ltb s position) starts ≡ starts
filter-whole position [] below = refl
filter-whole position (start ∷ starts) below =
    let here : start < position = All-head (λ s. s < position) start starts below in
    let rest = filter-whole position starts (All-tail (λ s. s < position) start starts below) in
    cond-true (ltb start position) (start ∷ filter (λ s. ltb s position) starts) (filter (λ s. ltb s position) starts) (lt-ltb start position here)
    ∙ ap (λ (l : List ℕ). start ∷ l) rest

fold-within : (starts : List ℕ) (from most : ℕ) → from ≤ most → All (λ start. start < most) starts → fold max from starts ≤ most
fold-within [] from most small below = small
fold-within (start ∷ starts) from most small below =
    let here : start < most = All-head (λ s. s < most) start starts below in
    fold-within starts (max from start) most (omega arith) (All-tail (λ s. s < most) start starts below)

-- the last start before a position behind all starts
pub last-is : (starts : List ℕ) (last position : ℕ) → All (λ start. start < last) starts → last < position → last_start (starts ++ last ∷ []) position ≡ last
last-is starts last position rising less =
    let all : All (λ start. start < position) (starts ++ last ∷ []) =
    All-append (λ start. start < position) starts (last ∷ [])
    (All-weaker (λ start. start < last) (λ start. start < position) (λ start below. omega arith) starts rising)
    (All-cons (λ start. start < position) last [] less (All-nil (λ start. start < position))) in
    let few = fold-within starts 0 last (omega arith) rising in
    let most : max (fold max 0 starts) last ≡ last = omega arith in
    ap (λ (l : List ℕ). fold max 0 l) (filter-whole position (starts ++ last ∷ []) all) ∙ fold_push max 0 starts last ∙ most

-- ---- questions

range-same : {X : Type 0} (f g : ℕ → X) (a n : ℕ) → ((k : ℕ) → k < a + n → f k ≡ g k) → map f (range_with_len a n) ≡ map g (range_with_len a n)
range-same f g a zero same = refl
range-same {X} f g a (suc n) same =
    ap₂ (λ (x : X) (xs : List X). x ∷ xs) (same a (omega arith)) (range-same f g (a + 1) n (λ k less. same k (omega arith)))

-- a position further: its question, and those before it, which stay
pub asked-next : {T : Type 0} (enc : EncoderConfig) (frames : List (Frame T)) (starts further : List ℕ) (position : ℕ)
    (a b c : Option (List (Asked T))) → 0 < position →
    ((before : ℕ) → before < position → question enc frames further before ≡ question enc frames starts before) →
    Grew a b (map (question enc frames starts) (range_with_len 1 (position - 1))) →
    Grew b c (question enc frames further position ∷ []) →
    Grew a c (map (question enc frames further) (range_with_len 1 (position + 1 - 1)))
asked-next {T} enc frames starts further position a b c some same before here =
    let f : ℕ → Asked T = question enc frames further in
    let old : map (question enc frames starts) (range_with_len 1 (position - 1)) ≡ map f (range_with_len 1 (position - 1)) =
    range-same (question enc frames starts) f 1 (position - 1) (λ k less. sym (same k (omega arith))) in
    let joined = grew-then a b c (map f (range_with_len 1 (position - 1))) (f position ∷ [])
    (subst (λ (l : List (Asked T)). Grew a b l) old before) here in
    let last : 1 + (position - 1) ≡ position = omega arith in
    let count : position - 1 + 1 ≡ position + 1 - 1 = omega arith in
    subst (λ (n : ℕ). Grew a c (map f (range_with_len 1 n))) count
    (subst (λ (l : List (Asked T)). Grew a c l) (sym (map-range_with_len_more f 1 (position - 1) position last)) joined)

-- ---- the loop

-- the frames before a position are split: the jobs that have ended, and the last one
pub record IsSplitTo {T : Type 0} (enc : EncoderConfig) (frames : List (Frame T)) (ended : List (Job T)) (last : Job T) (position : ℕ) (before now : DetectorTold T) : Type 0 where
  pub placed : Placed 0 0 ended
  pub number : last.number ≡ length ended
  pub first : last.first ≡ frames_in ended
  pub some : 0 < length last.frames
  pub joined : flat_map pictures ended ++ pictures last ≡ take position frames
  pub count : frames_in ended + length last.frames ≡ position
  pub rising : All (λ start. start < last.first) (starts_of ended)
  pub asked : Grew before.questions now.questions (map (question enc frames (starts_with ended last)) (range_with_len 1 (position - 1)))
  pub told_ahead : IfSome before.answers (λ at. (k : ℕ) → 0 < k → k < position → is_start (starts_with ended last) k ≡ at k)
  pub later : IsDetectorLater before now

-- all starts are before the position
below : {T : Type 0} (enc : EncoderConfig) (frames : List (Frame T)) (ended : List (Job T)) (last : Job T) (position : ℕ) (a b : DetectorTold T) →
    IsSplitTo enc frames ended last position a b → All (λ start. start < position) (starts_with ended last)
below enc frames ended last position a b so =
    let less : last.first < position = omega (arith, so.first, so.count, so.some) in
    All-append (λ start. start < position) (starts_of ended) (last.first ∷ [])
    (All-weaker (λ start. start < last.first) (λ start. start < position) (λ start under. omega arith) (starts_of ended) so.rising)
    (All-cons (λ start. start < position) last.first [] less (All-nil (λ start. start < position)))

if-some-both : {X : Type 0} (o : Option X) (P Q R : X → Type 0) → IfSome o P → IfSome o Q → ((x : X) → P x → Q x → R x) → IfSome o R
if-some-both None P Q R p q both = tt
if-some-both (Some x) P Q R p q both = both x p q

-- an answer more
ahead-next : (starts further : List ℕ) (position : ℕ) (answer : Bool) (at : ℕ → Bool) →
    ((k : ℕ) → k < position → is_start further k ≡ is_start starts k) → is_start further position ≡ answer → answer ≡ at position →
    ((k : ℕ) → 0 < k → k < position → is_start starts k ≡ at k) → (k : ℕ) → 0 < k → k < position + 1 → is_start further k ≡ at k
ahead-next starts further position answer at same here told before k some less = elim (cases_lt k position) [
  | inl earlier ↦ same k earlier ∙ before k some earlier
  | inr from ↦
      let is : k ≡ position = omega arith in
      ap (is_start further) is ∙ here ∙ told ∙ ap at (sym is)
]

split-first : {T : Type 0} (enc : EncoderConfig) (frames : List (Frame T)) (last : Job T) (a : DetectorTold T) →
    last.number ≡ 0 → last.first ≡ 0 → length last.frames ≡ 1 → pictures last ≡ take 1 frames → IsSplitTo enc frames [] last 1 a a
split-first enc frames last a number first one joined = record {
  placed = tt;
  number = number;
  first = first;
  some = omega (arith, one);
  joined = joined;
  count = omega (arith, one);
  rising = All-nil (λ start. start < last.first);
  asked = grew-none a.questions;
  told_ahead = if-some-both a.answers (λ _. Unit {0}) (λ _. Unit {0}) (λ at. (k : ℕ) → 0 < k → k < 1 → is_start (last.first ∷ []) k ≡ at k)
      (if-some-any a.answers) (if-some-any a.answers) (λ at _ _ k some less. absurd (omega arith));
  later = later-none a;
}
  where
    if-some-any : {X : Type 0} (o : Option X) → IfSome o (λ _. Unit {0})
    if-some-any None = tt
    if-some-any (Some x) = tt

-- what the detector was asked of a position, and told of it
pub record IsAskedAt {T : Type 0} (enc : EncoderConfig) (frames : List (Frame T)) (position start : ℕ) (answer : Bool) (before after : DetectorTold T) : Type 0 where
  pub asked : Grew before.questions after.questions
      (told_ask enc.speed_settings.scene_detection_mode (frames_near enc frames position) position start answer ∷ [])
  pub told_ahead : IfSome before.answers (λ at. answer ≡ at position)
  pub later : IsDetectorLater before after

module _ {T : Type 0} (enc : EncoderConfig) (frames : List (Frame T)) (ended : List (Job T)) (last : Job T) (position : ℕ) (a b c : DetectorTold T) where
  further : (starts : List ℕ) (answer : Bool) → IsSplitTo enc frames ended last position a b → 0 < position →
      IsAskedAt enc frames position last.first answer b c →
      ((k : ℕ) → k < position → is_start starts k ≡ is_start (starts_with ended last) k) →
      ((k : ℕ) → k ≤ position → last_start starts k ≡ last_start (starts_with ended last) k) →
      is_start starts position ≡ answer →
      Grew a.questions c.questions (map (question enc frames starts) (range_with_len 1 (position + 1 - 1)))
      × IfSome a.answers (λ at. (k : ℕ) → 0 < k → k < position + 1 → is_start starts k ≡ at k)
  further starts answer so some told same same_last here =
      let less : last.first < position = omega (arith, so.first, so.count, so.some) in
      let mode = enc.speed_settings.scene_detection_mode in
      let near : List (Frame T) = frames_near enc frames position in
      let start : last_start starts position ≡ last.first =
      same_last position (omega arith) ∙ last-is (starts_of ended) last.first position so.rising less in
      let asks : question enc frames starts position ≡ told_ask mode near position last.first answer =
      ap₂ (λ (k : ℕ) (yes : Bool). told_ask mode near position k yes) start here in (
        asked-next enc frames (starts_with ended last) starts position a.questions b.questions c.questions some
            (λ before earlier.
            ap₂ (λ (k : ℕ) (yes : Bool). told_ask mode (frames_near enc frames before) before k yes) (same_last before (omega arith)) (same before earlier))
            so.asked (subst (λ (q : Asked T). Grew b.questions c.questions (q ∷ [])) (sym asks) told.asked),
        if-some-both a.answers (λ at. (k : ℕ) → 0 < k → k < position → is_start (starts_with ended last) k ≡ at k) (λ at. answer ≡ at position)
            (λ at. (k : ℕ) → 0 < k → k < position + 1 → is_start starts k ≡ at k)
            so.told_ahead (subst (λ (o : Option (ℕ → Bool)). IfSome o (λ at. answer ≡ at position)) so.later.answers told.told_ahead)
            (λ at before now. ahead-next (starts_with ended last) starts position answer at same here now before),
      )

  -- the frame joins the last job
  split-more : (longer : Job T) (picture : Frame T) → IsSplitTo enc frames ended last position a b → 0 < position →
      take (position + 1) frames ≡ take position frames ++ picture ∷ [] → IsAskedAt enc frames position last.first false b c →
      longer.number ≡ last.number → longer.first ≡ last.first → length longer.frames ≡ length last.frames + 1 →
      pictures longer ≡ pictures last ++ picture ∷ [] → IsSplitTo enc frames ended longer (position + 1) a c
  split-more longer picture so some taken told number first count joined =
      let starts : List ℕ = starts_with ended last in
      let same : starts_with ended longer ≡ starts = ap (λ (k : ℕ). starts_of ended ++ k ∷ []) first in
      let all = below enc frames ended last position a b so in
      let next = further starts false so some told (λ k less. refl) (λ k less. refl) (starts-no starts position all) in
      record {
        placed = so.placed;
        number = number ∙ so.number;
        first = first ∙ so.first;
        some = omega (arith, count);
        joined =
            ap (λ (l : List (Frame T)). flat_map pictures ended ++ l) joined
            ∙ sym (append_assoc (flat_map pictures ended) (pictures last) (picture ∷ []))
            ∙ ap (λ (l : List (Frame T)). l ++ picture ∷ []) so.joined
            ∙ sym taken;
        count = omega (arith, count, so.count);
        rising = subst (λ (k : ℕ). All (λ start. start < k) (starts_of ended)) (sym first) so.rising;
        asked = subst (λ (l : List ℕ). Grew a.questions c.questions (map (question enc frames l) (range_with_len 1 (position + 1 - 1)))) (sym same) next.0;
        told_ahead = subst (λ (l : List ℕ). IfSome a.answers (λ at. (k : ℕ) → 0 < k → k < position + 1 → is_start l k ≡ at k)) (sym same) next.1;
        later = later-then a b c so.later told.later;
      }

  -- the last job ends, and the next starts with the frame
  split-next : (next : Job T) (picture : Frame T) → IsSplitTo enc frames ended last position a b → 0 < position →
      take (position + 1) frames ≡ take position frames ++ picture ∷ [] → IsAskedAt enc frames position last.first true b c →
      next.number ≡ last.number + 1 → next.first ≡ position → length next.frames ≡ 1 →
      pictures next ≡ picture ∷ [] → IsSplitTo enc frames (ended ++ last ∷ []) next (position + 1) a c
  split-next next picture so some taken told number first count joined =
      let starts : List ℕ = starts_with ended last in
      let ends : starts_of (ended ++ last ∷ []) ≡ starts = map-append (λ (job : Job T). job.first) ended (last ∷ []) in
      let same : starts_with (ended ++ last ∷ []) next ≡ starts ++ position ∷ [] =
      ap₂ (λ (l : List ℕ) (k : ℕ). l ++ k ∷ []) ends first in
      let all = below enc frames ended last position a b so in
      let after = further (starts ++ position ∷ []) true so some told (λ k less. starts-same starts position k less)
      (λ k less. last-same starts position k less) (starts-yes starts position) in
      let sum = sum_by_push (λ (job : Job T). length job.frames) ended last in
      let flat : flat_map pictures (ended ++ last ∷ []) ≡ flat_map pictures ended ++ pictures last =
      flat_map-append pictures ended (last ∷ []) ∙ ap (λ (l : List (Frame T)). flat_map pictures ended ++ l) (append-nil (pictures last)) in
      record {
        placed = placed-push 0 0 ended last so.placed (omega (arith, so.number)) (omega (arith, so.first)) so.some;
        number = omega (arith, number, so.number, length-append ended (last ∷ []));
        first = omega (arith, first, so.count, sum);
        some = omega (arith, count);
        joined =
            ap₂ (λ (l m : List (Frame T)). l ++ m) flat joined
            ∙ ap (λ (l : List (Frame T)). l ++ picture ∷ []) so.joined
            ∙ sym taken;
        count = omega (arith, count, so.count, sum);
        rising =
            subst (λ (l : List ℕ). All (λ start. start < next.first) l) (sym ends)
            (subst (λ (k : ℕ). All (λ start. start < k) starts) (sym first) all);
        asked = subst (λ (l : List ℕ). Grew a.questions c.questions (map (question enc frames l) (range_with_len 1 (position + 1 - 1)))) (sym same) after.0;
        told_ahead = subst (λ (l : List ℕ). IfSome a.answers (λ at. (k : ℕ) → 0 < k → k < position + 1 → is_start l k ≡ at k)) (sym same) after.1;
        later = later-then a b c so.later told.later;
      }

-- all frames are split
split-end : {T : Type 0} (enc : EncoderConfig) (frames : List (Frame T)) (ended : List (Job T)) (last : Job T) (position : ℕ) (a b : DetectorTold T) →
    IsSplitTo enc frames ended last position a b → position ≡ length frames → IsSplit enc frames (ended ++ last ∷ []) a b
split-end {T} enc frames ended last position a b so all =
    let ends : starts_of (ended ++ last ∷ []) ≡ starts_with ended last = map-append (λ (job : Job T). job.first) ended (last ∷ []) in
    let flat : flat_map pictures (ended ++ last ∷ []) ≡ flat_map pictures ended ++ pictures last =
    flat_map-append pictures ended (last ∷ []) ∙ ap (λ (l : List (Frame T)). flat_map pictures ended ++ l) (append-nil (pictures last)) in
    let whole : take position frames ≡ frames = take_all position frames (omega arith) in
    record {
      jobs_are =
          placed-are frames (ended ++ last ∷ []) (flat ∙ so.joined ∙ whole)
          (placed-push 0 0 ended last so.placed (omega (arith, so.number)) (omega (arith, so.first)) so.some);
      asked =
          subst (λ (l : List ℕ). Grew a.questions b.questions (map (question enc frames l) (range_with_len 1 (length frames - 1)))) (sym ends)
          (subst (λ (n : ℕ). Grew a.questions b.questions (map (question enc frames (starts_with ended last)) (range_with_len 1 (n - 1)))) all so.asked);
      told_ahead =
          subst (λ (l : List ℕ). IfSome a.answers (λ at. (k : ℕ) → 0 < k → k < length frames → is_start l k ≡ at k)) (sym ends)
          (subst (λ (n : ℕ). IfSome a.answers (λ at. (k : ℕ) → 0 < k → k < n → is_start (starts_with ended last) k ≡ at k)) all so.told_ahead);
    }

-- ---- what the code has

-- the frames that are handed over
pub near-pictures : {T : Type 0} (enc : EncoderConfig) (frames : List (Arc (Frame T) Global)) (position count : ℕ) → count ≡ ahead (numbers_of enc) + 1 →
    map (λ frame. frame.value) (take count (drop (position - 1) frames)) ≡ frames_near enc (map (λ frame. frame.value) frames) position
near-pictures {T} enc frames position count is =
    let picture : Arc (Frame T) Global → Frame T = λ frame. frame.value in
    sym (take-map picture count (drop (position - 1) frames))
    ∙ ap (take count) (sym (drop-map picture (position - 1) frames))
    ∙ ap (λ (n : ℕ). take n (drop (position - 1) (map picture frames))) is

pub asked-of : {T F : Type 0} (a b : Option (List (Asked T))) (result : Result Bool F) (p q : Bool → Asked T) → ((answer : Bool) → p answer ≡ q answer) →
    GrowsBy a b result p → IfOk result (λ answer. Grew a b (q answer ∷ []))
asked-of {T} a b (Ok answer) p q same grew = subst (λ (one : Asked T). Grew a b (one ∷ [])) (same answer) grew
asked-of a b (Err e) p q same grew = tt

-- a frame more
pub taken-next : {T : Type 0} (frames : List (Arc (Frame T) Global)) (position : ℕ) (frame d : Arc (Frame T) Global) → position < length frames →
    frame.value ≡ (get_or frames position d).value →
    take (position + 1) (map (λ one. one.value) frames) ≡ take position (map (λ one. one.value) frames) ++ frame.value ∷ []
taken-next {T} frames position frame d within same =
    let picture : Arc (Frame T) Global → Frame T = λ one. one.value in
    take-map picture (position + 1) frames
    ∙ ap (map picture) (take_more frames position d within)
    ∙ map-append picture (take position frames) (get_or frames position d ∷ [])
    ∙ ap₂ (λ (l : List (Frame T)) (x : Frame T). l ++ x ∷ []) (sym (take-map picture position frames)) (sym same)

first-pictures : {T : Type 0} (frames : List (Arc (Frame T) Global)) (first frame : Arc (Frame T) Global) (last : Job T) →
    Some first ≡ slice_get frames 0 → frame.value ≡ first.value → last.frames ≡ frame ∷ [] → pictures last ≡ take 1 (map (λ one. one.value) frames)
first-pictures [] first frame last at same is = absurd (cc)
first-pictures {T} (one ∷ frames) first frame last at same is =
    let head : first ≡ one = cc in
    ap (λ (l : List (Arc (Frame T) Global)). map (λ (x : Arc (Frame T) Global). x.value) l) is
    ∙ ap (λ (x : Frame T). x ∷ []) (same ∙ ap (λ (x : Arc (Frame T) Global). x.value) head)

-- the first frame begins the first job
pub split-begun : {T : Type 0} (enc : EncoderConfig) (frames : List (Arc (Frame T) Global)) (ended : List (Job T)) (last : Job T) (first frame : Arc (Frame T) Global) (a : DetectorTold T) →
    ended ≡ [] → Some first ≡ slice_get frames 0 → frame.value ≡ first.value → last ≡ record { number = 0; first = 0; frames = frame ∷ [] } →
    IsSplitTo enc (map (λ one. one.value) frames) ended last 1 a a
split-begun {T} enc frames ended last first frame a none at same is =
    subst (λ (l : List (Job T)). IsSplitTo enc (map (λ one. one.value) frames) l last 1 a a) (sym none)
    (split-first enc (map (λ one. one.value) frames) last a (ap (λ (job : Job T). job.number) is) (ap (λ (job : Job T). job.first) is)
    (ap (λ (job : Job T). length job.frames) is)
    (first-pictures frames first frame last at same (ap (λ (job : Job T). job.frames) is)))

-- a frame joins the last job or begins one
split-step : {T : Type 0} (enc : EncoderConfig) (frames : List (Arc (Frame T) Global)) (ended ended' : List (Job T)) (last last' : Job T) (position : ℕ)
    (a b c : DetectorTold T) (frame d : Arc (Frame T) Global) (starts : Bool) → 0 < position → position < length frames →
    frame.value ≡ (get_or frames position d).value → IsSplitTo enc (map (λ one. one.value) frames) ended last position a b →
    IsAskedAt enc (map (λ one. one.value) frames) position last.first starts b c →
    MatchBool starts
    ((ended' ≡ ended ++ last ∷ []) × (last' ≡ record { number = last.number + 1; first = position; frames = frame ∷ [] }))
    ((ended' ≡ ended) × (last' ≡ record last { frames = last.frames ++ frame ∷ [] })) →
    IsSplitTo enc (map (λ one. one.value) frames) ended' last' (position + 1) a c
split-step {T} enc frames ended ended' last last' position a b c frame d true some within same so told made =
    subst (λ (l : List (Job T)). IsSplitTo enc (map (λ one. one.value) frames) l last' (position + 1) a c) (sym made.0)
    (split-next enc (map (λ one. one.value) frames) ended last position a b c last' frame.value so some (taken-next frames position frame d within same) told
    (ap (λ (job : Job T). job.number) made.1) (ap (λ (job : Job T). job.first) made.1) (ap (λ (job : Job T). length job.frames) made.1)
    (ap (λ (job : Job T). pictures job) made.1))
split-step {T} enc frames ended ended' last last' position a b c frame d false some within same so told made =
    let count = ap (λ (job : Job T). length job.frames) made.1 in
    subst (λ (l : List (Job T)). IsSplitTo enc (map (λ one. one.value) frames) l last' (position + 1) a c) (sym made.0)
    (split-more enc (map (λ one. one.value) frames) ended last position a b c last' frame.value so some (taken-next frames position frame d within same) told
    (ap (λ (job : Job T). job.number) made.1) (ap (λ (job : Job T). job.first) made.1)
    (omega (arith, count, length-append last.frames (frame ∷ [])))
    (ap (λ (job : Job T). pictures job) made.1 ∙ map-append (λ (one : Arc (Frame T) Global). one.value) last.frames (frame ∷ [])))

-- the same, where the detector saw the frames in another place
pub split-seen : {T : Type 0} (enc : EncoderConfig) (frames seen : List (Arc (Frame T) Global)) (ended ended' : List (Job T)) (last last' : Job T) (position : ℕ)
    (a b c : DetectorTold T) (frame d : Arc (Frame T) Global) (starts : Bool) → 0 < position → position < length frames →
    frame.value ≡ d.value → d ≡ get_or frames position d → IsSplitTo enc (map (λ one. one.value) frames) ended last position a b → seen ≡ frames →
    IsAskedAt enc (map (λ one. one.value) seen) position last.first starts b c →
    MatchBool starts
    ((ended' ≡ ended ++ last ∷ []) × (last' ≡ record { number = last.number + 1; first = position; frames = frame ∷ [] }))
    ((ended' ≡ ended) × (last' ≡ record last { frames = last.frames ++ frame ∷ [] })) →
    IsSplitTo enc (map (λ one. one.value) frames) ended' last' (position + 1) a c
split-seen {T} enc frames seen ended ended' last last' position a b c frame d starts some within same at so is told made =
    split-step enc frames ended ended' last last' position a b c frame d starts some within (same ∙ ap (λ (one : Arc (Frame T) Global). one.value) at) so
    (subst (λ (l : List (Arc (Frame T) Global)). IsAskedAt enc (map (λ one. one.value) l) position last.first starts b c) is told) made

-- the last job ends with the frames
pub split-whole : {T : Type 0} (enc : EncoderConfig) (frames : List (Arc (Frame T) Global)) (ended : List (Job T)) (last : Job T) (jobs : List (Job T)) (position : ℕ) (a b : DetectorTold T) →
    IsSplitTo enc (map (λ one. one.value) frames) ended last position a b → position ≡ length frames → jobs ≡ ended ++ last ∷ [] →
    IsSplit enc (map (λ one. one.value) frames) jobs a b
split-whole {T} enc frames ended last jobs position a b so all is =
    subst (λ (l : List (Job T)). IsSplit enc (map (λ one. one.value) frames) l a b) (sym is)
    (split-end enc (map (λ one. one.value) frames) ended last position a b so (all ∙ sym (length-map frames (λ one. one.value))))
