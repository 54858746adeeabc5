-- The sums of an encoder's counts.
use Rattle.std.specs.Prelude.{◌≡◌, ℕ, ◌+◌, ◌-◌, ◌^◌, min, List, map, replicate}
use Rattle.std.specs.List.{zip}
use Rattle.av1_settings.specs.declared.encoder_stats.EncoderStats.{EncoderStats}

-- a sum that stops at the greatest usize
abbrev pub saturated_sum : ℕ → ℕ → ℕ
saturated_sum a b = min (a + b) (2 ^ 64 - 1)

-- lists of counts, added one by one
abbrev pub counts_sum : List ℕ → List ℕ → List ℕ
counts_sum counts more = map (λ pair. saturated_sum pair.0 pair.1) (zip counts more)

abbrev pub stats_sum : EncoderStats → EncoderStats → EncoderStats
stats_sum stats more = record {
  block_size_counts = counts_sum stats.block_size_counts more.block_size_counts;
  skip_block_count = saturated_sum stats.skip_block_count more.skip_block_count;
  tx_type_counts = counts_sum stats.tx_type_counts more.tx_type_counts;
  luma_pred_mode_counts = counts_sum stats.luma_pred_mode_counts more.luma_pred_mode_counts;
  chroma_pred_mode_counts = counts_sum stats.chroma_pred_mode_counts more.chroma_pred_mode_counts;
}

-- every count is 0
abbrev pub no_stats : EncoderStats
no_stats = record {
  block_size_counts = replicate 22 0;
  skip_block_count = 0;
  tx_type_counts = replicate 16 0;
  luma_pred_mode_counts = replicate 34 0;
  chroma_pred_mode_counts = replicate 34 0;
}

-- ---- what holds of sums, where counts stop too

abbrev pub SumsCommute : Type 0
SumsCommute = (a b : EncoderStats) → stats_sum a b ≡ stats_sum b a

abbrev pub SumsAssociate : Type 0
SumsAssociate =
    (a b c : EncoderStats) → stats_sum (stats_sum a b) c ≡ stats_sum a (stats_sum b c)

-- so the default is the unit
abbrev pub DefaultAddsNothingTo : EncoderStats → Type 0
DefaultAddsNothingTo a = (stats_sum a no_stats ≡ a) × (stats_sum no_stats a ≡ a)
