-- What is counted over frames' metrics.
use Rattle.std.specs.Prelude.{ℕ, ◌-◌, ◌^◌, ◌==◌, nat_lt, Bool, List, [], ◌∷◌, filter, map, length, slice_set, ℤ, pos, negsuc, ◌+ℤ◌, ◌-ℤ◌, if◌then◌else◌}
use Rattle.std.specs.List.{slice_index_or}
use Rattle.std.specs.Int.{int_min, int_max, saturate_signed, w32}
use Rattle.fixed_log.specs.Conversion.{bexp_q24}
use Rattle.pass_stats.specs.declared.metrics.RCFrameMetrics.{RCFrameMetrics}
use Rattle.metrics_window.specs.declared.tally.Tally.{Tally}

-- ---- over a list

abbrev pub is_of : ℕ → RCFrameMetrics → Bool
is_of subtype m = m.fti == subtype

abbrev pub is_shown : RCFrameMetrics → Bool
is_shown m = m.show_frame

-- a frame's scale, in Q24
abbrev pub scale_of : RCFrameMetrics → ℤ
scale_of m = bexp_q24 m.log_scale_q24

abbrev pub total : List ℤ → ℤ
total [] = pos 0
total (z ∷ zs) = z +ℤ total zs

abbrev pub count_of : ℕ → List RCFrameMetrics → ℤ
count_of subtype metrics = pos (length (filter (is_of subtype) metrics))

abbrev pub sum_of : ℕ → List RCFrameMetrics → ℤ
sum_of subtype metrics = total (map scale_of (filter (is_of subtype) metrics))

abbrev pub shown_of : List RCFrameMetrics → ℤ
shown_of metrics = pos (length (filter is_shown metrics))

-- frames of each subtype, shows of coded frames last; sums of scales, of which such shows have none; and the shown ones
unfoldable pub tally_of : List RCFrameMetrics → Tally
tally_of metrics = record {
  counts = count_of 0 metrics ∷ count_of 1 metrics ∷ count_of 2 metrics ∷ count_of 3 metrics ∷ count_of 4 metrics ∷ [];
  sums = sum_of 0 metrics ∷ sum_of 1 metrics ∷ sum_of 2 metrics ∷ sum_of 3 metrics ∷ [];
  shown = shown_of metrics;
}

-- ---- one metric more, or less: counts are clamped to 32 bits, and sums to within 2^96 of 0

abbrev pub FAR : ℕ
FAR = 2 ^ 96

abbrev pub not_far : ℤ → ℤ
not_far z = int_min (int_max z (negsuc (FAR - 1))) (pos FAR)

abbrev pub number_at : List ℤ → ℕ → ℤ
number_at numbers i = slice_index_or numbers i (pos 0)

abbrev pub count_set : List ℤ → ℕ → ℤ → List ℤ
count_set counts i by = slice_set counts i (saturate_signed w32 (number_at counts i +ℤ by))

-- shows of coded frames have no sum
abbrev pub sum_set : List ℤ → ℕ → ℤ → List ℤ
sum_set sums i by = if nat_lt i 4 then slice_set sums i (not_far (number_at sums i +ℤ by)) else sums

abbrev pub shown_set : ℤ → Bool → ℤ → ℤ
shown_set shown is_shown by = if is_shown then saturate_signed w32 (shown +ℤ by) else shown

unfoldable pub more : RCFrameMetrics → Tally → Tally
more m t = record {
  counts = count_set t.counts m.fti (pos 1);
  sums = sum_set t.sums m.fti (scale_of m);
  shown = shown_set t.shown m.show_frame (pos 1);
}

unfoldable pub less : RCFrameMetrics → Tally → Tally
less m t = record {
  counts = count_set t.counts m.fti (negsuc 0);
  sums = sum_set t.sums m.fti (pos 0 -ℤ scale_of m);
  shown = shown_set t.shown m.show_frame (negsuc 0);
}

-- without the metrics of a list, one after the other
abbrev pub less_all : List RCFrameMetrics → Tally → Tally
less_all [] t = t
less_all (m ∷ ms) t = less_all ms (less m t)

-- ---- frames

-- coded frames: all but shows of such frames
abbrev pub coded_frames : Tally → ℤ
coded_frames t = (number_at t.counts 0 +ℤ number_at t.counts 1) +ℤ (number_at t.counts 2 +ℤ number_at t.counts 3)

abbrev pub all_frames : Tally → ℤ
all_frames t = coded_frames t +ℤ number_at t.counts 4
