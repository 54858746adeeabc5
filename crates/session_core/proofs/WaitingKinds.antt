-- The frames that wait, and how those are coded that are.
use Rattle.std.proofs.Common.{◌≡◌, ℕ, zero, suc, ◌<◌, List, [], ◌∷◌, ◌++◌, map, length, Option, Some, None, slice_get, slice_set, option_and_then, option_map, refl, ap, ◌∙◌, arith}
use Rattle.av1_settings.specs.declared.frame_type.FrameType.{FrameType}
use Rattle.session_core.specs.Moments.{Accepted, Coding, Waiting}
use Rattle.session_core.specs.Turns.{with_coding}
use Rattle.session_core.proofs.Decided.{frame_of}

-- how the frame at an index is coded, where it waits and is
abbrev pub waiting_coding : {T O : Type 0} → List (Waiting T O) → ℕ → Option Coding
waiting_coding waiting index = option_and_then (λ one. one.coded) (slice_get waiting index)

-- its type
abbrev pub waiting_kind : {T O : Type 0} → List (Waiting T O) → ℕ → Option FrameType
waiting_kind waiting index = option_map (λ coding. coding.kind) (waiting_coding waiting index)

-- its luma index
abbrev pub waiting_qp : {T O : Type 0} → List (Waiting T O) → ℕ → Option ℕ
waiting_qp waiting index = option_map (λ coding. coding.qp) (waiting_coding waiting index)

-- a frame that isn't coded changes none
pub coding-push : {T O : Type 0} (waiting : List (Waiting T O)) (one : Waiting T O) (index : ℕ) → one.coded ≡ None → waiting_coding (waiting ++ one ∷ []) index ≡ waiting_coding waiting index
coding-push [] one zero e = e
coding-push [] one (suc index) e = refl
coding-push (first ∷ waiting) one zero e = refl
coding-push (first ∷ waiting) one (suc index) e = coding-push waiting one index e

-- one step on
with_coding-rest : {T O : Type 0} (first : Waiting T O) (waiting : List (Waiting T O)) (index : ℕ) (coding : Option Coding) → with_coding (first ∷ waiting) (suc index) coding ≡ first ∷ with_coding waiting index coding
with_coding-rest {T} {O} first waiting index coding = by_case (slice_get waiting index)
  where
    by_case : (o : Option (Waiting T O)) →
        elim o as (λ x. List (Waiting T O)) [ None ↦ first ∷ waiting | Some one ↦ slice_set (first ∷ waiting) (suc index) (record one { coded = coding }) ]
        ≡ first ∷ elim o as (λ x. List (Waiting T O)) [ None ↦ waiting | Some one ↦ slice_set waiting index (record one { coded = coding }) ]
    by_case None = refl
    by_case (Some one) = refl

-- the frames stay
pub frames-with_coding : {T O : Type 0} (waiting : List (Waiting T O)) (index : ℕ) (coding : Option Coding) → map frame_of (with_coding waiting index coding) ≡ map frame_of waiting
frames-with_coding [] index coding = refl
frames-with_coding (first ∷ waiting) zero coding = refl
frames-with_coding {T} {O} (first ∷ waiting) (suc index) coding =
    ap (map frame_of) (with_coding-rest first waiting index coding) ∙ ap (λ (l : List (Accepted T O)). first.frame ∷ l) (frames-with_coding waiting index coding)

-- the frame at the index is coded so, and the others as they were
pub coding-here : {T O : Type 0} (waiting : List (Waiting T O)) (index : ℕ) (coding : Option Coding) → index < length waiting → waiting_coding (with_coding waiting index coding) index ≡ coding
coding-here [] index coding h = absurd (omega arith)
coding-here (first ∷ waiting) zero coding h = refl
coding-here {T} {O} (first ∷ waiting) (suc index) coding h =
    ap (λ (l : List (Waiting T O)). waiting_coding l (suc index)) (with_coding-rest first waiting index coding) ∙ coding-here waiting index coding (omega arith)

pub coding-other : {T O : Type 0} (waiting : List (Waiting T O)) (index other : ℕ) (coding : Option Coding) → (other ≡ index → ⊥) → waiting_coding (with_coding waiting index coding) other ≡ waiting_coding waiting other
coding-other [] index other coding differs = refl
coding-other (first ∷ waiting) zero zero coding differs = absurd (differs refl)
coding-other (first ∷ waiting) zero (suc other) coding differs = refl
coding-other {T} {O} (first ∷ waiting) (suc index) zero coding differs = ap (λ (l : List (Waiting T O)). waiting_coding l zero) (with_coding-rest first waiting index coding)
coding-other {T} {O} (first ∷ waiting) (suc index) (suc other) coding differs =
    ap (λ (l : List (Waiting T O)). waiting_coding l (suc other)) (with_coding-rest first waiting index coding)
    ∙ coding-other waiting index other coding (λ e. differs (ap suc e))
