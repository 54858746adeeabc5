-- The quantiser parameters of a frame.
use Rattle.std.specs.Prelude.{ℕ, ◌+◌, ◌-◌, min, max, Bool, [], ◌∷◌, Option, ℤ, pos, ◌+ℤ◌, ◌-ℤ◌, ◌*ℤ◌}
use Rattle.std.specs.Int.{saturate_signed, w64}
use Rattle.fixed_log.specs.Conversion.{q57}
use Rattle.fixed_log.specs.Exponential.{bexp64}
use Rattle.av1_frame.specs.declared.sampling.ChromaSampling.{ChromaSampling}
use Rattle.av1_frame.specs.declared.sampling.ChromaSampling.TheVariants.{Cs420, Cs422, Cs444, Cs400}
use Rattle.quantizers.specs.Tables.{Tables}
use Rattle.quantizers.specs.Nearest.{nearest}
use Rattle.quantizers.specs.Chroma.{luma_of, u_of, v_of}
use Rattle.quantizers.specs.declared.parameters.LogQuantizer.{LogQuantizer}
use Rattle.quantizers.specs.declared.parameters.QuantizerParameters.{QuantizerParameters}
use Rattle.quantizers.specs.declared.settings.QSettings.{QSettings}

-- the scale of table values at a bit depth, as a logarithm: 3 at 8 bits, and 1 more with each bit
abbrev pub table_scale : ℕ → ℤ
table_scale bit_depth = q57 (pos (3 + (bit_depth - 8)))

-- the table value of a logarithm, with the mean scale
abbrev pub quantizer_of : ℕ → ℤ → ℤ → ℤ
quantizer_of bit_depth mean_scale log = bexp64 (saturate_signed w64 (log +ℤ mean_scale +ℤ table_scale bit_depth))

-- within 63 of an index, at least 1 and at most 255
abbrev pub index_near : ℕ → ℕ → ℕ
index_near centre i = min (max i (max 1 (centre - 63))) (min 255 (centre + 63))

-- the index of a chroma plane; 4:0:0 has none
abbrev pub chroma_index : ChromaSampling → ℕ → ℕ → ℕ
chroma_index Cs400 centre i = 0
chroma_index Cs420 centre i = index_near centre i
chroma_index Cs422 centre i = index_near centre i
chroma_index Cs444 centre i = index_near centre i

-- the scale of a plane's distortion, in Q16: the square of the ratio of the target to the plane's quantiser
abbrev pub dist_scale : ℤ → ℤ → ℤ
dist_scale target log = bexp64 (saturate_signed w64 (pos 2 *ℤ (target -ℤ log) +ℤ q57 (pos 16)))

abbrev pub lambda_of : ℤ → ℤ → ℤ
lambda_of target mean_scale = saturate_signed w64 (pos 2 *ℤ (target +ℤ mean_scale))

-- the luma AC index
abbrev pub luma_index : Tables → ℤ → ℕ
luma_index tables q = max 1 (nearest tables.ac q)

-- the parameters, from the quantiser's logarithms and those of the planes
abbrev pub parameters_from : Tables → QSettings → LogQuantizer → ℤ → Option ℤ → ℤ → ℤ → ℤ → QuantizerParameters
parameters_from tables settings log_q mean_scale searched y u v =
    let q = quantizer_of settings.bit_depth mean_scale in
    let centre = luma_index tables (q y) in
    record {
      log_base_q = log_q.base;
      log_target_q = log_q.target;
      dc_qi = index_near centre (nearest tables.dc (q y)) ∷ chroma_index settings.chroma centre (nearest tables.dc (q u))
          ∷ chroma_index settings.chroma centre (nearest tables.dc (q v)) ∷ [];
      ac_qi = centre ∷ chroma_index settings.chroma centre (nearest tables.ac (q u))
          ∷ chroma_index settings.chroma centre (nearest tables.ac (q v)) ∷ [];
      searched_q = searched;
      lambda_q57 = lambda_of log_q.target mean_scale;
      dist_scale_q16 = dist_scale log_q.target y ∷ dist_scale log_q.target u ∷ dist_scale log_q.target v ∷ [];
    }

unfoldable pub parameters : Tables → QSettings → LogQuantizer → ℤ → Bool → Option ℤ → QuantizerParameters
parameters tables settings log_q mean_scale intra searched =
    let y = luma_of settings.chroma settings.bit_depth intra log_q.target in
    parameters_from tables settings log_q mean_scale searched y (u_of settings.chroma y mean_scale) (v_of settings.chroma y mean_scale)
