-- The bytes of a summary, by their positions, and why other bytes are refused.
use Rattle.std.specs.Prelude.{◌≡◌, ℕ, ◌==◌, not, nat_lt, Bool, ℤ, pos, int_lt, List, [], ◌∷◌, length, take, drop, Option}
use Rattle.std.specs.List.{find}
use Rattle.pass_stats.specs.Bytes.{u32_at, i32_at, i64_at}
use Rattle.pass_stats.specs.Grammar.{any_negative, any_zero, frame_total}
use Rattle.pass_stats.specs.declared.summary.RCSummary.{RCSummary}
use Rattle.pass_stats.specs.declared.error.Why.{Why}
use Rattle.pass_stats.specs.declared.error.Why.TheVariants.{Short, Magic, Version, NoTus, NegativeCount, CountTooLarge, MoreTusThanFrames, NoKeyFrame, ZeroExponent, NegativeSum}

-- the five frame counts
unfoldable pub counts_at : List ℕ → List ℤ
counts_at bytes = i32_at bytes 12 ∷ i32_at bytes 16 ∷ i32_at bytes 20 ∷ i32_at bytes 24 ∷ i32_at bytes 28 ∷ []

-- the four exponents
unfoldable pub exponents_at : List ℕ → List ℕ
exponents_at bytes = take 4 (drop 32 bytes)

-- the four scale sums
unfoldable pub sums_at : List ℕ → List ℤ
sums_at bytes = i64_at bytes 36 ∷ i64_at bytes 44 ∷ i64_at bytes 52 ∷ i64_at bytes 60 ∷ []

-- 68 bytes that spell these values
pub record Spells (bytes : List ℕ) (ntus : ℤ) (nframes : List ℤ) (exp : List ℕ) (scale_sum : List ℤ) : Type 0 where
  pub size : length bytes ≡ 68
  pub magic : u32_at bytes 0 ≡ 0x5032_4156
  pub version : u32_at bytes 4 ≡ 1
  pub ntus_is : ntus ≡ i32_at bytes 8
  pub nframes_is : nframes ≡ counts_at bytes
  pub exp_is : exp ≡ exponents_at bytes
  pub scale_sum_is : scale_sum ≡ sums_at bytes

-- 68 bytes that stand for this summary, whose values are in the grammar by its type
abbrev pub Summary : List ℕ → RCSummary → Type 0
Summary bytes s = Spells bytes s.ntus s.nframes s.exp s.scale_sum

-- what refuses the bytes: each cause is one condition on them
abbrev pub is_met : List ℕ → Why → Bool
is_met bytes Short = nat_lt (length bytes) 68
is_met bytes Magic = not (u32_at bytes 0 == 0x5032_4156)
is_met bytes Version = not (u32_at bytes 4 == 1)
is_met bytes NoTus = int_lt (i32_at bytes 8) (pos 1)
is_met bytes NegativeCount = any_negative (counts_at bytes)
is_met bytes CountTooLarge = int_lt (pos 0x7fff_ffff) (frame_total (counts_at bytes))
is_met bytes MoreTusThanFrames = int_lt (frame_total (counts_at bytes)) (i32_at bytes 8)
is_met bytes NoKeyFrame = int_lt (i32_at bytes 12) (pos 1)
is_met bytes ZeroExponent = any_zero (exponents_at bytes)
is_met bytes NegativeSum = any_negative (sums_at bytes)

-- the order in which the causes are looked for
abbrev pub causes : List Why
causes = Short ∷ Magic ∷ Version ∷ NoTus ∷ NegativeCount ∷ CountTooLarge ∷ MoreTusThanFrames ∷ NoKeyFrame ∷ ZeroExponent ∷ NegativeSum ∷ []

-- the first of them that refuses the bytes
unfoldable pub first_met : List ℕ → Option Why
first_met bytes = find (is_met bytes) causes
