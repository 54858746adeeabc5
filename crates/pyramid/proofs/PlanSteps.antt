-- A plan, GOP by GOP.
use Rattle.std.proofs.Common.{◌≡◌, ℕ, ◌+◌, ◌-◌, ◌<◌, ◌≤◌, min, cond, List, [], ◌∷◌, ◌++◌, refl, sym, ap, ◌∙◌, subst, inl, inr, append_assoc, arith, zero, suc}
use Rattle.std.specs.List.{flat_map}
use Rattle.std.proofs.lemmas.Bool.{cases_lt, lt-ltb, le-ltb}
use Rattle.std.proofs.lemmas.Bool.Decides.{nat_tests}
use Rattle.pyramid.specs.declared.command.Command.{Command}
use Rattle.pyramid.specs.Numbers.{Numbers}
use Rattle.pyramid.specs.Gop.{gop}
use Rattle.pyramid.specs.Plan.{key_above, start_after, starts_from, gop_at}

pub key_above-later : (frames : ℕ) (keys : List ℕ) (start : ℕ) → start < frames → start < key_above frames keys start
key_above-later frames [] start h = h
key_above-later frames (key ∷ keys) start h = let rest = key_above-later frames keys start h in grind (arith, nat_tests)

pub start_after-later : (interval frames : ℕ) (keys : List ℕ) (start : ℕ) → 1 ≤ interval → start < frames → start < start_after interval frames keys start
start_after-later interval frames keys start some h =
    omega (arith, key_above-later frames keys start h)

pub start_after-within : (interval frames : ℕ) (keys : List ℕ) (start : ℕ) → start_after interval frames keys start ≤ frames
start_after-within interval frames keys start = omega arith

pub starts_from-done : (interval frames : ℕ) (keys : List ℕ) (count start : ℕ) → frames ≤ start → starts_from interval frames keys count start ≡ []
starts_from-done interval frames keys zero start h = refl
starts_from-done interval frames keys (suc count) start h =
    ap (λ b. cond b (start ∷ starts_from interval frames keys count (start_after interval frames keys start)) []) (le-ltb start frames h)

pub starts_from-one : (interval frames : ℕ) (keys : List ℕ) (count start : ℕ) → start < frames → starts_from interval frames keys (suc count) start ≡ start ∷ starts_from interval frames keys count (start_after interval frames keys start)
starts_from-one interval frames keys count start h =
    ap (λ b. cond b (start ∷ starts_from interval frames keys count (start_after interval frames keys start)) []) (lt-ltb start frames h)

-- counts that are large enough agree
pub starts_from-enough : (interval frames : ℕ) (keys : List ℕ) → 1 ≤ interval → (a b start : ℕ) → frames ≤ start + a → frames ≤ start + b → starts_from interval frames keys a start ≡ starts_from interval frames keys b start
starts_from-enough interval frames keys some zero b start ha hb =
    sym (starts_from-done interval frames keys b start (omega arith))
starts_from-enough interval frames keys some (suc a) zero start ha hb =
    starts_from-done interval frames keys (suc a) start (omega arith)
starts_from-enough interval frames keys some (suc a) (suc b) start ha hb =
    elim (cases_lt start frames) [
      | inl h ↦
          let later = start_after-later interval frames keys start some h in
          let next = start_after interval frames keys start in
          let rest = starts_from-enough interval frames keys some a b next (omega arith) (omega arith) in
          starts_from-one interval frames keys a start h ∙ ap (λ s. start ∷ s) rest ∙ sym (starts_from-one interval frames keys b start h)
      | inr h ↦ starts_from-done interval frames keys (suc a) start h ∙ sym (starts_from-done interval frames keys (suc b) start h)
    ]

-- the plan from a start on
abbrev pub plan_from : Numbers → ℕ → ℕ → List ℕ → ℕ → List Command
plan_from numbers interval frames keys start =
    flat_map (gop_at numbers interval frames keys) (starts_from interval frames keys (frames - start) start)

pub plan_from-more : (numbers : Numbers) (interval frames : ℕ) (keys : List ℕ) (start : ℕ) → 1 ≤ interval → start < frames → plan_from numbers interval frames keys start ≡ gop_at numbers interval frames keys start ++ plan_from numbers interval frames keys (start_after interval frames keys start)
plan_from-more numbers interval frames keys start some h =
    let next = start_after interval frames keys start in
    let later = start_after-later interval frames keys start some h in
    let from = λ (count : ℕ). flat_map (gop_at numbers interval frames keys) (starts_from interval frames keys count start) in
    let count : frames - start ≡ suc (frames - start - 1) = omega arith in
    let same = starts_from-enough interval frames keys some (frames - start - 1) (frames - next) next (omega arith) (omega arith) in
    ap from count ∙ ap (flat_map (gop_at numbers interval frames keys)) (starts_from-one interval frames keys (frames - start - 1) start h ∙ ap (λ s. start ∷ s) same)

pub plan_from-done : (numbers : Numbers) (interval frames : ℕ) (keys : List ℕ) (start : ℕ) → frames ≤ start → plan_from numbers interval frames keys start ≡ []
plan_from-done numbers interval frames keys start h =
    ap (flat_map (gop_at numbers interval frames keys)) (starts_from-done interval frames keys (frames - start) start h)

-- one more GOP at the end of `built` leaves less to build
pub plan_from-step : (numbers : Numbers) (interval frames : ℕ) (keys : List ℕ) (start next : ℕ) (built grown : List Command) → 1 ≤ interval → start < frames → next ≡ start_after interval frames keys start → grown ≡ built ++ gop numbers start (next - start) → grown ++ plan_from numbers interval frames keys next ≡ built ++ plan_from numbers interval frames keys start
plan_from-step numbers interval frames keys start next built grown some h e g =
    let next' = start_after interval frames keys start in
    let P : ℕ → Type 0 = λ n. grown ≡ built ++ gop numbers start (n - start) → grown ++ plan_from numbers interval frames keys n ≡ built ++ plan_from numbers interval frames keys start in
    let at : P next' = λ g'.
    ap (λ s. s ++ plan_from numbers interval frames keys next') g'
    ∙ append_assoc built (gop numbers start (next' - start)) (plan_from numbers interval frames keys next')
    ∙ ap (λ s. built ++ s) (sym (plan_from-more numbers interval frames keys start some h)) in
    subst P (sym e) at g

-- what the first of the keys that are left gives
pub start_after_is : (interval frames start next first left : ℕ) (keys : List ℕ) → next ≡ min first (min (start + interval) frames) → first ≡ left → left ≡ key_above frames keys start → next ≡ start_after interval frames keys start
start_after_is interval frames start next first left keys e f g =
    e ∙ ap (λ (k : ℕ). min k (min (start + interval) frames)) (f ∙ g)

-- the starts from one on that are below `frames`
abbrev pub starts_left : ℕ → ℕ → List ℕ → ℕ → List ℕ
starts_left interval frames keys start = starts_from interval frames keys (frames - start) start

pub starts_left-more : (interval frames : ℕ) (keys : List ℕ) (start : ℕ) → 1 ≤ interval → start < frames → starts_left interval frames keys start ≡ start ∷ starts_left interval frames keys (start_after interval frames keys start)
starts_left-more interval frames keys start some h =
    let next = start_after interval frames keys start in
    let later = start_after-later interval frames keys start some h in
    let more : frames - start ≡ suc (frames - start - 1) = omega arith in
    let same = starts_from-enough interval frames keys some (frames - start - 1) (frames - next) next (omega arith) (omega arith) in
    ap (λ (count : ℕ). starts_from interval frames keys count start) more ∙ starts_from-one interval frames keys (frames - start - 1) start h ∙ ap (λ s. start ∷ s) same
