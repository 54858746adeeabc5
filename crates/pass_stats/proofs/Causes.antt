-- Which cause is the first, from what is known of the bytes.
use Rattle.std.proofs.Common.{◌≡◌, ◌≢◌, ℕ, ◌<◌, ◌≤◌, ◌==◌, not, nat_lt, Bool, true, false, ℤ, pos, int_lt, ◌<ℤ◌, ◌≤ℤ◌, List, length, Some, None, FitsSigned, w32, arith, refl, slice_index_or, [], ◌∷◌, ◌||◌, ◌+ℤ◌, ◌^◌, negsuc, fold}
use Rattle.std.proofs.lemmas.Int.{ints}
use Rattle.std.proofs.lemmas.Bool.Decides.{nat_tests}
use Rattle.std.proofs.lemmas.Bool.{true≢false}
use Rattle.std.specs.Int.{is_negative}
use Rattle.std.specs.List.{list_any}
use Rattle.pass_stats.specs.Bytes.{u32_at, i32_at}
use Rattle.pass_stats.specs.Grammar.{any_negative, any_zero, frame_total}
use Rattle.pass_stats.specs.Summary.{first_met, counts_at, exponents_at, sums_at}
use Rattle.pass_stats.specs.declared.error.Why.TheVariants.{Short, Magic, Version, NoTus, NegativeCount, CountTooLarge, MoreTusThanFrames, NoKeyFrame, ZeroExponent, NegativeSum}

long : (bytes : List ℕ) → 68 ≤ length bytes → nat_lt (length bytes) 68 ≡ false
long bytes h = grind (arith, nat_tests)

same : (m n : ℕ) → m ≡ n → not (m == n) ≡ false
same m n h = grind (arith, nat_tests)

differ : (m n : ℕ) → m ≢ n → not (m == n) ≡ true
differ m n h = grind (arith, nat_tests)

below : (x y : ℤ) → x <ℤ y → int_lt x y ≡ true
below x y h = grind (arith, ints)

not_below : (x y : ℤ) → y ≤ℤ x → int_lt x y ≡ false
not_below x y h = grind (arith, ints)

-- what is known of bytes that begin as a summary does
pub record Begins (bytes : List ℕ) : Type 0 where
  pub size : 68 ≤ length bytes
  pub magic : u32_at bytes 0 ≡ 0x5032_4156
  pub version : u32_at bytes 4 ≡ 1
  pub some_tu : pos 1 ≤ℤ i32_at bytes 8
  pub no_negative_count : any_negative (counts_at bytes) ≡ false

pub counts-key : (bytes : List ℕ) → slice_index_or (counts_at bytes) 0 (pos 0) ≡ i32_at bytes 12
unfolding counts_at
counts-key bytes = refl

pub either_false : (a b : Bool) → (a || b) ≡ false → (a ≡ false) × (b ≡ false)
either_false true b h = absurd (true≢false h)
either_false false b h = (refl, h)

not_negative : (z : ℤ) → int_lt z (pos 0) ≡ false → pos 0 ≤ℤ z
not_negative z h = grind (arith, ints)

sum_not_negative : (a : ℤ) (xs : List ℤ) → pos 0 ≤ℤ a → list_any is_negative xs ≡ false → pos 0 ≤ℤ fold ◌+ℤ◌ a xs
sum_not_negative a [] h e = h
sum_not_negative a (x ∷ xs) h e =
    let both = either_false _ _ e in
    let above : pos 0 ≤ℤ x = not_negative x both.0 in
    sum_not_negative (a +ℤ x) xs (omega (arith, ints)) both.1

pub frame_total-not_negative : (counts : List ℤ) → any_negative counts ≡ false → pos 0 ≤ℤ frame_total counts
frame_total-not_negative counts h = sum_not_negative (pos 0) counts (omega (arith, ints)) h

-- what does not fit an `i32` and is not negative is too large for it
pub too_large : (z : ℤ) → pos 0 ≤ℤ z → (FitsSigned w32 z → ⊥) → pos 0x7fff_ffff <ℤ z
too_large (pos n) p f =
    let g : n < 2 ^ 31 → ⊥ = λ h. f (record { sfits = h }) in omega (arith, ints)
too_large (negsuc n) p f = absurd (omega (arith, ints))

pub first_met-short : (bytes : List ℕ) → length bytes < 68 → first_met bytes ≡ Some Short
unfolding first_met
first_met-short bytes h =
    let e : nat_lt (length bytes) 68 ≡ true = grind (arith, nat_tests) in rw e

pub first_met-magic : (bytes : List ℕ) → 68 ≤ length bytes → u32_at bytes 0 ≢ 0x5032_4156 → first_met bytes ≡ Some Magic
unfolding first_met
first_met-magic bytes h0 h = rw (long bytes h0, differ _ _ h)

pub first_met-version : (bytes : List ℕ) → 68 ≤ length bytes → u32_at bytes 0 ≡ 0x5032_4156 → u32_at bytes 4 ≢ 1 → first_met bytes ≡ Some Version
unfolding first_met
first_met-version bytes h0 h1 h = rw (long bytes h0, same _ _ h1, differ _ _ h)

pub first_met-no_tus : (bytes : List ℕ) → 68 ≤ length bytes → u32_at bytes 0 ≡ 0x5032_4156 → u32_at bytes 4 ≡ 1 → i32_at bytes 8 <ℤ pos 1 → first_met bytes ≡ Some NoTus
unfolding first_met
first_met-no_tus bytes h0 h1 h2 h = rw (long bytes h0, same _ _ h1, same _ _ h2, below _ _ h)

pub first_met-negative_count : (bytes : List ℕ) → 68 ≤ length bytes → u32_at bytes 0 ≡ 0x5032_4156 → u32_at bytes 4 ≡ 1 → pos 1 ≤ℤ i32_at bytes 8 → any_negative (counts_at bytes) ≡ true → first_met bytes ≡ Some NegativeCount
unfolding first_met
first_met-negative_count bytes h0 h1 h2 h3 h = rw (long bytes h0, same _ _ h1, same _ _ h2, not_below _ _ h3, h)

pub begins : (bytes : List ℕ) → 68 ≤ length bytes → u32_at bytes 0 ≡ 0x5032_4156 → u32_at bytes 4 ≡ 1 → pos 1 ≤ℤ i32_at bytes 8 → any_negative (counts_at bytes) ≡ false → Begins bytes
begins bytes h0 h1 h2 h3 h4 = record { size = h0; magic = h1; version = h2; some_tu = h3; no_negative_count = h4 }

pub first_met-count_too_large : (bytes : List ℕ) → Begins bytes → pos 0x7fff_ffff <ℤ frame_total (counts_at bytes) → first_met bytes ≡ Some CountTooLarge
unfolding first_met
first_met-count_too_large bytes b h =
    rw (long bytes b.size, same _ _ b.magic, same _ _ b.version, not_below _ _ b.some_tu, b.no_negative_count, below _ _ h)

pub first_met-more_tus : (bytes : List ℕ) → Begins bytes → frame_total (counts_at bytes) ≤ℤ pos 0x7fff_ffff → frame_total (counts_at bytes) <ℤ i32_at bytes 8 → first_met bytes ≡ Some MoreTusThanFrames
unfolding first_met
first_met-more_tus bytes b h0 h =
    rw (long bytes b.size, same _ _ b.magic, same _ _ b.version, not_below _ _ b.some_tu, b.no_negative_count, not_below _ _ h0, below _ _ h)

pub first_met-no_key_frame : (bytes : List ℕ) → Begins bytes → frame_total (counts_at bytes) ≤ℤ pos 0x7fff_ffff → i32_at bytes 8 ≤ℤ frame_total (counts_at bytes) → i32_at bytes 12 <ℤ pos 1 → first_met bytes ≡ Some NoKeyFrame
unfolding first_met
first_met-no_key_frame bytes b h0 h1 h =
    rw (long bytes b.size, same _ _ b.magic, same _ _ b.version, not_below _ _ b.some_tu, b.no_negative_count, not_below _ _ h0, not_below _ _ h1, below _ _ h)

pub first_met-zero_exponent : (bytes : List ℕ) → Begins bytes → frame_total (counts_at bytes) ≤ℤ pos 0x7fff_ffff → i32_at bytes 8 ≤ℤ frame_total (counts_at bytes) → pos 1 ≤ℤ i32_at bytes 12 → any_zero (exponents_at bytes) ≡ true → first_met bytes ≡ Some ZeroExponent
unfolding first_met
first_met-zero_exponent bytes b h0 h1 h2 h =
    rw (long bytes b.size, same _ _ b.magic, same _ _ b.version, not_below _ _ b.some_tu, b.no_negative_count, not_below _ _ h0, not_below _ _ h1, not_below _ _ h2, h)

pub first_met-negative_sum : (bytes : List ℕ) → Begins bytes → frame_total (counts_at bytes) ≤ℤ pos 0x7fff_ffff → i32_at bytes 8 ≤ℤ frame_total (counts_at bytes) → pos 1 ≤ℤ i32_at bytes 12 → any_zero (exponents_at bytes) ≡ false → any_negative (sums_at bytes) ≡ true → first_met bytes ≡ Some NegativeSum
unfolding first_met
first_met-negative_sum bytes b h0 h1 h2 h3 h =
    rw (long bytes b.size, same _ _ b.magic, same _ _ b.version, not_below _ _ b.some_tu, b.no_negative_count, not_below _ _ h0, not_below _ _ h1, not_below _ _ h2, h3, h)

pub first_met-none : (bytes : List ℕ) → Begins bytes → frame_total (counts_at bytes) ≤ℤ pos 0x7fff_ffff → i32_at bytes 8 ≤ℤ frame_total (counts_at bytes) → pos 1 ≤ℤ i32_at bytes 12 → any_zero (exponents_at bytes) ≡ false → any_negative (sums_at bytes) ≡ false → first_met bytes ≡ None
unfolding first_met
first_met-none bytes b h0 h1 h2 h3 h =
    rw (long bytes b.size, same _ _ b.magic, same _ _ b.version, not_below _ _ b.some_tu, b.no_negative_count, not_below _ _ h0, not_below _ _ h1, not_below _ _ h2, h3, h)
