-- The search ends in time, and what it ends with.
use Rattle.std.proofs.Common.{◌≡◌, ℕ, zero, suc, ◌+◌, ◌-◌, ◌<◌, ◌≤◌, ◌^◌, ◌⊎◌, inl, inr, refl, ap, sym, ◌∙◌, arith, true, false, int_lt, ℤ, pos, negsuc, ◌+ℤ◌, ◌-ℤ◌, ◌≤ℤ◌, ◌<ℤ◌, subst}
use Rattle.std.specs.Int.{int_shr}
use Rattle.std.proofs.Math.Nat.{pow-suc}
use Rattle.std.proofs.lemmas.Int.{ints, by_lt_z}
use Rattle.fixed_log.specs.Within.{IsWithin}
use Rattle.rate_model.specs.declared.search.Search.{Search}
use Rattle.rate_model.specs.Search.{middle, one_more, counted_on, bisection, IsCertified}

-- the middle lies between the ends
pub record IsMiddle (lo hi q : ℤ) : Type 0 where
  pub low : (q +ℤ q) ≤ℤ (lo +ℤ hi)
  pub high : (lo +ℤ hi) ≤ℤ (q +ℤ q +ℤ pos 1)

half_of : (z : ℤ) → IsMiddle z (pos 0) (int_shr z 1)
half_of (pos n) = record { low = omega (arith, ints); high = omega (arith, ints) }
half_of (negsuc n) = record { low = omega (arith, ints); high = omega (arith, ints) }

pub middle_is : (lo hi : ℤ) → IsMiddle lo hi (middle lo hi)
middle_is lo hi =
    let h = half_of (lo +ℤ hi) in
    let low = h.low in
    let high = h.high in
    record { low = omega (arith, ints); high = omega (arith, ints) }

pub is_lt : (a b : ℤ) → a <ℤ b → int_lt a b ≡ true
is_lt a b h = grind (arith, ints)

pub not_lt : (a b : ℤ) → b ≤ℤ a → int_lt a b ≡ false
not_lt a b h = grind (arith, ints)

-- ---- one turn

pub search_closed : (bits : ℤ → ℤ) (budget : ℤ) (turns : ℕ) (lo hi : ℤ) → hi ≤ℤ lo → bisection bits budget turns lo hi ≡ record { value = middle lo hi; probes = 0 }
unfolding bisection
search_closed bits budget zero lo hi h = refl
search_closed bits budget (suc turns) lo hi h = rw (not_lt lo hi h) refl

pub search_up : (bits : ℤ → ℤ) (budget : ℤ) (turns : ℕ) (lo hi : ℤ) → lo <ℤ hi → budget <ℤ bits (middle lo hi)
    → bisection bits budget (suc turns) lo hi ≡ one_more (bisection bits budget turns (middle lo hi +ℤ pos 1) hi)
unfolding bisection
search_up bits budget turns lo hi wide more = rw (is_lt lo hi wide, is_lt budget (bits (middle lo hi)) more) refl

pub search_down : (bits : ℤ → ℤ) (budget : ℤ) (turns : ℕ) (lo hi : ℤ) → lo <ℤ hi → bits (middle lo hi) <ℤ budget
    → bisection bits budget (suc turns) lo hi ≡ one_more (bisection bits budget turns lo (middle lo hi -ℤ pos 1))
unfolding bisection
search_down bits budget turns lo hi wide fewer =
    let below : bits (middle lo hi) ≤ℤ budget = omega (arith, ints) in
    rw (is_lt lo hi wide, not_lt budget (bits (middle lo hi)) below, is_lt (bits (middle lo hi)) budget fewer) refl

pub search_found : (bits : ℤ → ℤ) (budget : ℤ) (turns : ℕ) (lo hi : ℤ) → lo <ℤ hi → bits (middle lo hi) ≡ budget
    → bisection bits budget (suc turns) lo hi ≡ record { value = middle lo hi; probes = 1 }
unfolding bisection
search_found bits budget turns lo hi wide same =
    let below : bits (middle lo hi) ≤ℤ budget = omega (arith, ints) in
    let above : budget ≤ℤ bits (middle lo hi) = omega (arith, ints) in
    rw (is_lt lo hi wide, not_lt budget (bits (middle lo hi)) below, not_lt (bits (middle lo hi)) budget above) refl

-- ---- the certificate

-- so many turns close the span
pub record Closes (turns : ℕ) (lo hi : ℤ) : Type 0 where
  pub short : hi <ℤ (lo +ℤ pos (2 ^ turns))

-- what is known of the ends of a span within the first one: an end that moved has its side of the budget, and the ends have not passed
-- each other by more than one, unless none moved
pub record IsSpan (bits : ℤ → ℤ) (budget lo₀ hi₀ lo hi : ℤ) : Type 0 where
  pub low : (lo ≤ℤ lo₀) ⊎ (budget <ℤ bits (lo -ℤ pos 1))
  pub high : (hi₀ ≤ℤ hi) ⊎ (bits (hi +ℤ pos 1) <ℤ budget)
  pub near : (lo ≤ℤ (hi +ℤ pos 1)) ⊎ ((lo ≤ℤ lo₀) × (hi₀ ≤ℤ hi))

abbrev LowSide : (ℤ → ℤ) → ℤ → ℤ → ℤ → Type 0
LowSide bits budget lo q = (q ≤ℤ lo) ⊎ ((budget <ℤ bits (q -ℤ pos 1)) ⊎ (budget <ℤ bits q))

abbrev HighSide : (ℤ → ℤ) → ℤ → ℤ → ℤ → Type 0
HighSide bits budget hi q = (hi ≤ℤ q) ⊎ (bits (q +ℤ pos 1) <ℤ budget)

low_at_end : (bits : ℤ → ℤ) (budget lo₀ lo hi q : ℤ) → IsMiddle lo hi q → hi ≤ℤ lo → lo ≤ℤ (hi +ℤ pos 1) → budget <ℤ bits (lo -ℤ pos 1) → LowSide bits budget lo₀ q
low_at_end bits budget lo₀ lo hi q mid closed near more =
    let a = mid.low in
    let b = mid.high in
    by_lt_z hi lo
    (λ apart. let e : lo -ℤ pos 1 ≡ q = omega (arith, ints) in inr (inr (subst (λ z. budget <ℤ bits z) e more)))
    (λ same. let e : lo ≡ q = omega (arith, ints) in inr (inl (subst (λ z. budget <ℤ bits (z -ℤ pos 1)) e more)))

high_at_end : (bits : ℤ → ℤ) (budget hi₀ lo hi q : ℤ) → IsMiddle lo hi q → hi ≤ℤ lo → lo ≤ℤ (hi +ℤ pos 1) → bits (hi +ℤ pos 1) <ℤ budget → HighSide bits budget hi₀ q
high_at_end bits budget hi₀ lo hi q mid closed near fewer =
    let a = mid.low in
    let b = mid.high in
    let e : hi ≡ q = omega (arith, ints) in
    inr (subst (λ z. bits (z +ℤ pos 1) <ℤ budget) e fewer)

low_side : (bits : ℤ → ℤ) (budget lo₀ hi₀ lo hi q : ℤ) → IsMiddle lo hi q → hi ≤ℤ lo → IsSpan bits budget lo₀ hi₀ lo hi → LowSide bits budget lo₀ q
low_side bits budget lo₀ hi₀ lo hi q mid closed span =
    let a = mid.low in
    elim span.low [
      | inl still ↦ inl (omega (arith, ints))
      | inr more ↦ elim span.near [
        | inl near ↦ low_at_end bits budget lo₀ lo hi q mid closed near more
        | inr first ↦ let still = first.0 in inl (omega (arith, ints))
      ]
    ]

high_side : (bits : ℤ → ℤ) (budget lo₀ hi₀ lo hi q : ℤ) → IsMiddle lo hi q → hi ≤ℤ lo → IsSpan bits budget lo₀ hi₀ lo hi → HighSide bits budget hi₀ q
high_side bits budget lo₀ hi₀ lo hi q mid closed span =
    let b = mid.high in
    elim span.high [
      | inl still ↦ inl (omega (arith, ints))
      | inr fewer ↦ elim span.near [
        | inl near ↦ high_at_end bits budget hi₀ lo hi q mid closed near fewer
        | inr first ↦ let still = first.1 in inl (omega (arith, ints))
      ]
    ]

-- the ends after a turn
up_span : (bits : ℤ → ℤ) (budget lo₀ hi₀ lo hi q : ℤ) → IsMiddle lo hi q → lo <ℤ hi → budget <ℤ bits q → IsSpan bits budget lo₀ hi₀ lo hi → IsSpan bits budget lo₀ hi₀ (q +ℤ pos 1) hi
up_span bits budget lo₀ hi₀ lo hi q mid wide more span =
    let a = mid.low in
    let e : q ≡ (q +ℤ pos 1) -ℤ pos 1 = omega (arith, ints) in
    record {
      low = inr (subst (λ z. budget <ℤ bits z) e more);
      high = span.high;
      near = inl (omega (arith, ints));
    }

down_span : (bits : ℤ → ℤ) (budget lo₀ hi₀ lo hi q : ℤ) → IsMiddle lo hi q → lo <ℤ hi → bits q <ℤ budget → IsSpan bits budget lo₀ hi₀ lo hi → IsSpan bits budget lo₀ hi₀ lo (q -ℤ pos 1)
down_span bits budget lo₀ hi₀ lo hi q mid wide fewer span =
    let b = mid.high in
    let e : q ≡ (q -ℤ pos 1) +ℤ pos 1 = omega (arith, ints) in
    record {
      low = span.low;
      high = inr (subst (λ z. bits z <ℤ budget) e fewer);
      near = inl (omega (arith, ints));
    }

up_closes : (turns : ℕ) (lo hi q : ℤ) → IsMiddle lo hi q → Closes (suc turns) lo hi → Closes turns (q +ℤ pos 1) hi
up_closes turns lo hi q mid h =
    let b = mid.high in
    let twice = pow-suc 2 turns in
    let short = h.short in
    record { short = omega (arith, ints) }

down_closes : (turns : ℕ) (lo hi q : ℤ) → IsMiddle lo hi q → Closes (suc turns) lo hi → Closes turns lo (q -ℤ pos 1)
down_closes turns lo hi q mid h =
    let a = mid.low in
    let twice = pow-suc 2 turns in
    let short = h.short in
    record { short = omega (arith, ints) }

closed_at_zero : (lo hi : ℤ) → Closes zero lo hi → hi ≤ℤ lo
closed_at_zero lo hi h = let short = h.short in omega (arith, ints)

same_bits : (a b : ℤ) → a ≤ℤ b → b ≤ℤ a → a ≡ b
same_bits a b h k = omega (arith, ints)

at_end : (bits : ℤ → ℤ) (budget : ℤ) (turns : ℕ) (lo₀ hi₀ lo hi : ℤ) → hi ≤ℤ lo → IsSpan bits budget lo₀ hi₀ lo hi → IsCertified bits budget lo₀ hi₀ (bisection bits budget turns lo hi).value
at_end bits budget turns lo₀ hi₀ lo hi closed span =
    rw (search_closed bits budget turns lo hi closed)
    (inr (
      low_side bits budget lo₀ hi₀ lo hi (middle lo hi) (middle_is lo hi) closed span,
      high_side bits budget lo₀ hi₀ lo hi (middle lo hi) (middle_is lo hi) closed span,
    ))

certified_in : (bits : ℤ → ℤ) (budget : ℤ) (turns : ℕ) (lo₀ hi₀ lo hi : ℤ) → Closes turns lo hi → IsSpan bits budget lo₀ hi₀ lo hi → IsCertified bits budget lo₀ hi₀ (bisection bits budget turns lo hi).value
certified_in bits budget zero lo₀ hi₀ lo hi closes span = at_end bits budget zero lo₀ hi₀ lo hi (closed_at_zero lo hi closes) span
certified_in bits budget (suc turns) lo₀ hi₀ lo hi closes span =
    by_lt_z lo hi
    (λ wide.
    by_lt_z budget (bits (middle lo hi))
    (λ more. rw (search_up bits budget turns lo hi wide more)
    (certified_in bits budget turns lo₀ hi₀ (middle lo hi +ℤ pos 1) hi (up_closes turns lo hi (middle lo hi) (middle_is lo hi) closes)
    (up_span bits budget lo₀ hi₀ lo hi (middle lo hi) (middle_is lo hi) wide more span)))
    (λ most.
    by_lt_z (bits (middle lo hi)) budget
    (λ fewer. rw (search_down bits budget turns lo hi wide fewer)
    (certified_in bits budget turns lo₀ hi₀ lo (middle lo hi -ℤ pos 1) (down_closes turns lo hi (middle lo hi) (middle_is lo hi) closes)
    (down_span bits budget lo₀ hi₀ lo hi (middle lo hi) (middle_is lo hi) wide fewer span)))
    (λ least.
    let same = same_bits (bits (middle lo hi)) budget most least in
    rw (search_found bits budget turns lo hi wide same) (inl same))))
    (λ closed. at_end bits budget (suc turns) lo₀ hi₀ lo hi closed span)

pub certified : (bits : ℤ → ℤ) (budget : ℤ) (turns : ℕ) (lo hi : ℤ) → Closes turns lo hi → IsCertified bits budget lo hi (bisection bits budget turns lo hi).value
certified bits budget turns lo hi closes =
    certified_in bits budget turns lo hi lo hi closes
    (record { low = inl (omega (arith, ints)); high = inl (omega (arith, ints)); near = inr (omega (arith, ints), omega (arith, ints)) })

-- ---- more turns change nothing

pub turns_enough : (bits : ℤ → ℤ) (budget : ℤ) (turns more_turns : ℕ) (lo hi : ℤ) → Closes turns lo hi → bisection bits budget (turns + more_turns) lo hi ≡ bisection bits budget turns lo hi
turns_enough bits budget zero k lo hi closes =
    let closed = closed_at_zero lo hi closes in
    search_closed bits budget (zero + k) lo hi closed ∙ sym (search_closed bits budget zero lo hi closed)
turns_enough bits budget (suc turns) k lo hi closes =
    let next : suc turns + k ≡ suc (turns + k) = omega arith in
    rw next
    (by_lt_z lo hi
    (λ wide.
    by_lt_z budget (bits (middle lo hi))
    (λ more. rw (search_up bits budget (turns + k) lo hi wide more, search_up bits budget turns lo hi wide more)
    (ap one_more (turns_enough bits budget turns k (middle lo hi +ℤ pos 1) hi (up_closes turns lo hi (middle lo hi) (middle_is lo hi) closes))))
    (λ most.
    by_lt_z (bits (middle lo hi)) budget
    (λ fewer. rw (search_down bits budget (turns + k) lo hi wide fewer, search_down bits budget turns lo hi wide fewer)
    (ap one_more (turns_enough bits budget turns k lo (middle lo hi -ℤ pos 1) (down_closes turns lo hi (middle lo hi) (middle_is lo hi) closes))))
    (λ least.
    let same = same_bits (bits (middle lo hi)) budget most least in
    search_found bits budget (turns + k) lo hi wide same ∙ sym (search_found bits budget turns lo hi wide same))))
    (λ closed. search_closed bits budget (suc (turns + k)) lo hi closed ∙ sym (search_closed bits budget (suc turns) lo hi closed)))

-- ---- the loop: `turns` turns are done, and the rest of them gives the whole answer

pub record Continues (bits : ℤ → ℤ) (budget : ℤ) (whole : Search) (turns : ℕ) (lo hi : ℤ) : Type 0 where
  pub rest : counted_on turns (bisection bits budget (64 - turns) lo hi) ≡ whole

one_less : (turns : ℕ) → turns < 64 → 64 - turns ≡ suc (64 - (turns + 1))
one_less turns h = omega arith

pub at_start : (bits : ℤ → ℤ) (budget lo hi : ℤ) → Continues bits budget (bisection bits budget 64 lo hi) 0 lo hi
at_start bits budget lo hi = let none : 0 + (bisection bits budget 64 lo hi).probes ≡ (bisection bits budget 64 lo hi).probes = omega arith in record { rest = ap (λ n. record { value = (bisection bits budget 64 lo hi).value; probes = n }) none }

pub when_closed : (bits : ℤ → ℤ) (budget : ℤ) (whole : Search) (turns : ℕ) (lo hi : ℤ) → Continues bits budget whole turns lo hi → hi ≤ℤ lo
    → record { value = middle lo hi; probes = turns } ≡ whole
when_closed bits budget whole turns lo hi h closed =
    let e = search_closed bits budget (64 - turns) lo hi closed in
    let none : turns + 0 ≡ turns = omega arith in
    let rest = rw (e, none) at h.rest in
    rest

pub when_narrowed : (bits : ℤ → ℤ) (budget : ℤ) (whole : Search) (turns : ℕ) (lo hi lo' hi' : ℤ) → turns < 64
    → ((n : ℕ) → bisection bits budget (suc n) lo hi ≡ one_more (bisection bits budget n lo' hi'))
    → Continues bits budget whole turns lo hi → Continues bits budget whole (turns + 1) lo' hi'
when_narrowed bits budget whole turns lo hi lo' hi' below step h =
    let next = 64 - (turns + 1) in
    let s = bisection bits budget next lo' hi' in
    let e = rw (one_less turns below, step next) at h.rest in
    let sum : (turns + 1) + s.probes ≡ turns + (s.probes + 1) = omega arith in
    record { rest = ap (λ n. record { value = s.value; probes = n }) sum ∙ e }

pub when_found : (bits : ℤ → ℤ) (budget : ℤ) (whole : Search) (turns : ℕ) (lo hi q : ℤ) → turns < 64
    → ((n : ℕ) → bisection bits budget (suc n) lo hi ≡ record { value = q; probes = 1 })
    → Continues bits budget whole turns lo hi → record { value = q; probes = turns + 1 } ≡ whole
when_found bits budget whole turns lo hi q below step h =
    let e = rw (one_less turns below, step (64 - (turns + 1))) at h.rest in
    e

-- ---- a probe, over plain variables

pub probe_up : (bits : ℤ → ℤ) (budget lo hi q b next : ℤ) → q ≡ middle lo hi → b ≡ bits q → lo <ℤ hi → budget <ℤ b → next ≡ q +ℤ pos 1
    → (turns : ℕ) → bisection bits budget (suc turns) lo hi ≡ one_more (bisection bits budget turns next hi)
probe_up bits budget lo hi q b next q_is b_is wide more next_is turns =
    let above : budget <ℤ bits (middle lo hi) = subst (λ z. budget <ℤ bits z) q_is (subst (λ z. budget <ℤ z) b_is more) in
    let end : next ≡ middle lo hi +ℤ pos 1 = next_is ∙ ap (λ z. z +ℤ pos 1) q_is in
    rw end (search_up bits budget turns lo hi wide above)

pub probe_down : (bits : ℤ → ℤ) (budget lo hi q b next : ℤ) → q ≡ middle lo hi → b ≡ bits q → lo <ℤ hi → b <ℤ budget → next ≡ q -ℤ pos 1
    → (turns : ℕ) → bisection bits budget (suc turns) lo hi ≡ one_more (bisection bits budget turns lo next)
probe_down bits budget lo hi q b next q_is b_is wide fewer next_is turns =
    let below : bits (middle lo hi) <ℤ budget = subst (λ z. bits z <ℤ budget) q_is (subst (λ z. z <ℤ budget) b_is fewer) in
    let end : next ≡ middle lo hi -ℤ pos 1 = next_is ∙ ap (λ z. z -ℤ pos 1) q_is in
    rw end (search_down bits budget turns lo hi wide below)

pub probe_found : (bits : ℤ → ℤ) (budget lo hi q b : ℤ) → q ≡ middle lo hi → b ≡ bits q → lo <ℤ hi → b ≤ℤ budget → budget ≤ℤ b
    → (turns : ℕ) → bisection bits budget (suc turns) lo hi ≡ record { value = q; probes = 1 }
probe_found bits budget lo hi q b q_is b_is wide below above turns =
    let same : bits (middle lo hi) ≡ budget = sym (ap bits q_is) ∙ (sym b_is ∙ same_bits b budget below above) in
    rw q_is (search_found bits budget turns lo hi wide same)

-- the end of the loop, over plain variables
pub closed_at : (bits : ℤ → ℤ) (budget : ℤ) (whole : Search) (turns : ℕ) (lo hi q : ℤ) → Continues bits budget whole turns lo hi → hi ≤ℤ lo → q ≡ middle lo hi
    → record { value = q; probes = turns } ≡ whole
closed_at bits budget whole turns lo hi q h closed q_is = rw q_is (when_closed bits budget whole turns lo hi h closed)

pub out_of_turns : (bits : ℤ → ℤ) (budget : ℤ) (whole : Search) (turns : ℕ) (lo hi q : ℤ) → 64 ≤ turns → turns ≤ 64 → Continues bits budget whole turns lo hi → q ≡ middle lo hi
    → record { value = q; probes = 64 } ≡ whole
unfolding bisection
out_of_turns bits budget whole turns lo hi q least most h q_is =
    let last : turns ≡ 64 = omega arith in
    let rest = rw last at h.rest in
    rw q_is rest

pub span_closes : (lo hi : ℤ) → IsWithin (2 ^ 62) lo → IsWithin (2 ^ 62) hi → Closes 64 lo hi
span_closes lo hi a b =
    let low = a.low in
    let high = b.high in
    record { short = omega (arith, ints) }
