-- Bases that are rounded alike have the same bits.
use Rattle.std.proofs.Common.{◌≡◌, ℕ, refl, ap, sym, ◌∙◌, slice_index, ℤ, pos, ◌+ℤ◌, ◌-ℤ◌, ◌*ℤ◌}
use Rattle.std.specs.Int.{saturate_signed, w64}
use Rattle.fixed_log.specs.Exponential.{bexp64}
use Rattle.rate_model.specs.FrameSubtypes.{offset_of}
use Rattle.rate_model.specs.declared.model.RateModel.{RateModel}
use Rattle.rate_model.specs.Search.{number_at, power_log, rounded_of, bits}

abbrev bits_at_rounded : RateModel → ℤ → ℕ → ℤ
bits_at_rounded model r j =
    number_at model.nframes j *ℤ bexp64 (saturate_signed w64
    (number_at model.log_scale j +ℤ model.log_npixels -ℤ power_log (r *ℤ pos 4096 +ℤ offset_of j) (slice_index model.exp j)))

abbrev all_at_rounded : RateModel → ℤ → ℤ
all_at_rounded model r =
    bits_at_rounded model r 0 +ℤ bits_at_rounded model r 1 +ℤ bits_at_rounded model r 2 +ℤ bits_at_rounded model r 3
    +ℤ pos 24 *ℤ number_at model.nframes 4

bits_by_rounded : (model : RateModel) (base : ℤ) → bits model base ≡ all_at_rounded model (rounded_of base)
unfolding bits
bits_by_rounded model base = refl

pub same_rounded : (model : RateModel) (a b : ℤ) → rounded_of a ≡ rounded_of b → bits model a ≡ bits model b
same_rounded model a b h = bits_by_rounded model a ∙ (ap (all_at_rounded model) h ∙ sym (bits_by_rounded model b))
