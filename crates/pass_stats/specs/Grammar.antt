-- The values that a summary may hold.
use Rattle.std.specs.Prelude.{◌≡◌, ℕ, ◌==◌, Bool, ℤ, pos, ◌+ℤ◌, ◌≤ℤ◌, List, slice_index_or, fold, IsFalse}
use Rattle.std.specs.Int.{is_negative}
use Rattle.std.specs.List.{list_any}

-- some number of the list is below 0
abbrev pub any_negative : List ℤ → Bool
any_negative xs = list_any is_negative xs

-- some byte of the list is 0
abbrev pub any_zero : List ℕ → Bool
any_zero xs = list_any (λ b. b == 0) xs

-- the frames of all subtypes together
abbrev pub frame_total : List ℤ → ℤ
frame_total counts = fold ◌+ℤ◌ (pos 0) counts

-- the first count is that of key frames
abbrev pub key_frames : List ℤ → ℤ
key_frames counts = slice_index_or counts 0 (pos 0)

pub record IsSummary (ntus : ℤ) (nframes : List ℤ) (exp : List ℕ) (scale_sum : List ℤ) (total : ℤ) : Type 0 where
  pub some_tu : pos 1 ≤ℤ ntus
  pub no_negative_count : IsFalse (any_negative nframes)
  pub total_is : total ≡ frame_total nframes
  pub total_fits : total ≤ℤ pos 0x7fff_ffff
  pub enough_frames : ntus ≤ℤ total
  pub some_key_frame : pos 1 ≤ℤ key_frames nframes
  pub no_zero_exponent : IsFalse (any_zero exp)
  pub no_negative_sum : IsFalse (any_negative scale_sum)
