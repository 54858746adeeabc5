-- The search for the base quantiser at which the frames ahead take as many bits as a budget has.
use Rattle.std.specs.Prelude.{◌≡◌, ℕ, zero, suc, ◌+◌, ◌⊎◌, List, slice_index, ℤ, pos, ◌+ℤ◌, ◌-ℤ◌, ◌*ℤ◌, ◌≤ℤ◌, ◌<ℤ◌, int_lt, if◌then◌else◌}
use Rattle.std.specs.List.{slice_index_or}
use Rattle.std.specs.Int.{int_shr, saturate_signed, w64}
use Rattle.fixed_log.specs.Exponential.{bexp64}
use Rattle.rate_model.specs.FrameSubtypes.{modulated}
use Rattle.rate_model.specs.declared.model.RateModel.{RateModel}
use Rattle.rate_model.specs.declared.search.Search.{Search}
use Rattle.rate_model.specs.declared.search.Span.{Span}
use Rattle.rate_model.specs.declared.search.Probe.{Probe}
use Rattle.rate_model.specs.declared.search.Probe.TheVariants.{Found, Narrowed}

abbrev pub number_at : List ℤ → ℕ → ℤ
number_at numbers i = slice_index_or numbers i (pos 0)

-- the logarithm of a quantiser to the power of exponent / 64, from the quantiser's own: bits fall by it
abbrev pub power_log : ℤ → ℕ → ℤ
power_log log_q exponent = int_shr (log_q +ℤ pos 32) 6 *ℤ pos exponent

-- the bits of one frame of subtype j, from the base quantiser
abbrev pub frame_bits : RateModel → ℤ → ℕ → ℤ
frame_bits model base j =
    bexp64 (saturate_signed w64 (number_at model.log_scale j +ℤ model.log_npixels -ℤ power_log (modulated base j) (slice_index model.exp j)))

abbrev pub subtype_bits : RateModel → ℤ → ℕ → ℤ
subtype_bits model base j = number_at model.nframes j *ℤ frame_bits model base j

-- the bits of all frames; each show of a coded frame takes 24
unfoldable pub bits : RateModel → ℤ → ℤ
bits model base =
    subtype_bits model base 0 +ℤ subtype_bits model base 1 +ℤ subtype_bits model base 2 +ℤ subtype_bits model base 3
    +ℤ pos 24 *ℤ number_at model.nframes 4

-- bits depend on the base by this alone
abbrev pub rounded_of : ℤ → ℤ
rounded_of base = int_shr (base +ℤ pos 2048) 12

-- ---- the search, over any bits

abbrev pub middle : ℤ → ℤ → ℤ
middle lo hi = int_shr (lo +ℤ hi) 1

abbrev pub one_more : Search → Search
one_more s = record { value = s.value; probes = s.probes + 1 }

-- each turn probes the middle: more bits than the budget has ask for a higher quantiser, fewer for a lower one, and as many end the search,
-- as does a span with one value or none
unfoldable pub bisection : (ℤ → ℤ) → ℤ → ℕ → ℤ → ℤ → Search
bisection bits budget zero lo hi = record { value = middle lo hi; probes = 0 }
bisection bits budget (suc turns) lo hi =
    let q = middle lo hi in
    if int_lt lo hi then
    (if int_lt budget (bits q) then one_more (bisection bits budget turns (q +ℤ pos 1) hi) else
    (if int_lt (bits q) budget then one_more (bisection bits budget turns lo (q -ℤ pos 1)) else
    record { value = q; probes = 1 }))
    else record { value = q; probes = 0 }

-- so many turns narrow any span within 2^62 of 0 down to one value or none
abbrev pub TURNS : ℕ
TURNS = 64

-- what the value is worth, whether or not bits fall as quantisers rise: it takes just the budget, or no value that was probed beside it
-- does better
abbrev pub IsCertified : (ℤ → ℤ) → ℤ → ℤ → ℤ → ℤ → Type 0
IsCertified bits budget lo hi q =
    (bits q ≡ budget)
    ⊎ (((q ≤ℤ lo) ⊎ ((budget <ℤ bits (q -ℤ pos 1)) ⊎ (budget <ℤ bits q)))
    × ((hi ≤ℤ q) ⊎ (bits (q +ℤ pos 1) <ℤ budget)))

-- what a turn of the search leaves to be done
abbrev pub resumed : (ℤ → ℤ) → ℤ → ℕ → Probe → Search
resumed bits budget turns (Found q) = record { value = q; probes = 1 }
resumed bits budget turns (Narrowed span) = one_more (bisection bits budget turns span.lo span.hi)

-- a probe leaves no value outside the span
abbrev pub StaysWithin : Span → Probe → Type 0
StaysWithin span (Found q) = Unit {0}
StaysWithin span (Narrowed next) = (span.lo ≤ℤ next.lo) × (next.hi ≤ℤ span.hi)

abbrev pub counted_on : ℕ → Search → Search
counted_on turns s = record { value = s.value; probes = turns + s.probes }
