-- Where the metrics before the last key frame end.
use Rattle.std.proofs.Common.{◌≡◌, ℕ, zero, suc, ◌+◌, ◌<◌, ◌≤◌, Bool, true, false, cond, ◌||◌, List, [], ◌∷◌, length, take, drop, get_or, refl, sym, ◌∙◌, ap, arith, add-one}
use Rattle.std.proofs.lemmas.Bool.{true≢false}
use Rattle.std.proofs.lemmas.List.{take_all, drop_more}
use Rattle.std.proofs.lemmas.List.Folds.{list_any_at}
use Rattle.pass_stats.specs.declared.metrics.RCFrameMetrics.{RCFrameMetrics}
use Rattle.metrics_window.specs.Cut.{is_key, any_key, before_key, before_last_key}

chosen : (a b : Bool) (x y z : List RCFrameMetrics) → (a || b) ≡ false → cond b x (cond a y z) ≡ z
chosen true b x y z e = absurd (true≢false e)
chosen false true x y z e = absurd (true≢false e)
chosen false false x y z e = refl

pub no_key : (ys : List RCFrameMetrics) → any_key ys ≡ false → before_key ys ≡ ys
unfolding before_key
no_key [] none = refl
no_key (y ∷ ys) none = chosen (is_key y) (any_key ys) (y ∷ before_key ys) [] (y ∷ ys) none

key_here : (a b : Bool) (x z : List RCFrameMetrics) → a ≡ true → b ≡ false → cond b x (cond a [] z) ≡ []
key_here true false x z p q = refl
key_here true true x z p q = absurd (true≢false q)
key_here false b x z p q = absurd (true≢false (sym p))

cut_at_key : (xs : List RCFrameMetrics) (i : ℕ) (d : RCFrameMetrics) → i < length xs → is_key (get_or xs i d) ≡ true → any_key (drop (suc i) xs) ≡ false
    → before_key xs ≡ take i xs
unfolding before_key
cut_at_key [] i d h key none = absurd (omega arith)
cut_at_key (x ∷ xs) zero d h key none = key_here (is_key x) (any_key xs) (x ∷ before_key xs) (x ∷ xs) key none
cut_at_key (x ∷ xs) (suc i) d h key none =
    let within : i < length xs = omega arith in
    let some : any_key xs ≡ true = list_any_at is_key xs i d within key in
    ap (λ b. cond b (x ∷ before_key xs) (cond (is_key x) [] (x ∷ xs))) some
    ∙ ap (λ (ys : List RCFrameMetrics). x ∷ ys) (cut_at_key xs i d within key none)

pub cut_at : (xs : List RCFrameMetrics) (i : ℕ) (d : RCFrameMetrics) → 1 ≤ i → i < length xs → is_key (get_or xs i d) ≡ true
    → any_key (drop (i + 1) xs) ≡ false → before_last_key xs ≡ take i xs
unfolding before_last_key
cut_at [] i d low h key none = absurd (omega arith)
cut_at (x ∷ xs) zero d low h key none = absurd (omega arith)
cut_at (x ∷ xs) (suc i) d low h key none =
    ap (λ (ys : List RCFrameMetrics). x ∷ ys) (cut_at_key xs i d (omega arith) key (ap (λ n. any_key (drop n (x ∷ xs))) (sym (add-one (suc i))) ∙ none))

pub no_cut : (xs : List RCFrameMetrics) (i : ℕ) → i ≤ 1 → i ≤ length xs → any_key (drop i xs) ≡ false → before_last_key xs ≡ take (length xs) xs
unfolding before_last_key
no_cut [] i h le none = refl
no_cut (x ∷ xs) zero h le none =
    ap (λ (ys : List RCFrameMetrics). x ∷ ys) (no_key xs (rest_none (is_key x) (any_key xs) none) ∙ sym (take_all (length xs) xs (omega arith))) where
      rest_none : (a b : Bool) → (a || b) ≡ false → b ≡ false
      rest_none true b e = absurd (true≢false e)
      rest_none false b e = e
no_cut (x ∷ xs) (suc zero) h le none =
    ap (λ (ys : List RCFrameMetrics). x ∷ ys) (no_key xs none ∙ sym (take_all (length xs) xs (omega arith)))
no_cut (x ∷ xs) (suc (suc i)) h le none = absurd (omega arith)

pub still_none : (xs : List RCFrameMetrics) (i : ℕ) (d : RCFrameMetrics) → i < length xs → is_key (get_or xs i d) ≡ false → any_key (drop (i + 1) xs) ≡ false
    → any_key (drop i xs) ≡ false
still_none xs i d h here rest = ap any_key (drop_more xs i d h) ∙ (ap (λ b. b || any_key (drop (i + 1) xs)) here ∙ rest)
