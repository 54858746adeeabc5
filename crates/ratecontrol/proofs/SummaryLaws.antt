-- A summary that is emitted is read back.
use Rattle.std.proofs.Common.{ℕ, List, take, refl, sym, subst, arith, IsFalse}
use Rattle.std.proofs.lemmas.List.{take_all}
use Rattle.pass_stats.specs.Grammar.{any_negative, any_zero, frame_total}
use Rattle.pass_stats.specs.Summary.{Summary, Spells}
use Rattle.pass_stats.specs.declared.summary.RCSummary.{RCSummary}
use Rattle.ratecontrol.specs.Rate.{Rate}
use Rattle.ratecontrol.specs.Passes.{HasCounts, IsReadBack, IsSummaryOf, counts_coded, exponents_of}

pub read_back : (rate : Rate) (bytes : List ℕ) → IsSummaryOf rate bytes → IsFalse (any_zero (exponents_of rate)) → IsFalse (any_negative rate.emitted.sums)
    → HasCounts rate.emitted.tus (counts_coded rate) → (s : RCSummary) × (Summary (take 68 bytes) s × IsReadBack rate s)
read_back rate bytes spelled exps sums h = (
  record {
    ntus = rate.emitted.tus;
    nframes = counts_coded rate;
    exp = exponents_of rate;
    scale_sum = rate.emitted.sums;
    total = frame_total (counts_coded rate);
    grammar = record {
      some_tu = h.some_tu;
      no_negative_count = h.no_negative_count;
      total_is = refl;
      total_fits = h.total_fits;
      enough_frames = h.enough_frames;
      some_key_frame = h.some_key_frame;
      no_zero_exponent = exps;
      no_negative_sum = sums;
    };
  },
  (
    subst (λ (xs : List ℕ). Spells xs rate.emitted.tus (counts_coded rate) (exponents_of rate) rate.emitted.sums) (sym (take_all 68 bytes (omega (arith, spelled.size)))) spelled,
    (refl, refl, refl, refl),
  ),
)
