-- What is kept of a frame subtype, as contracts see it.
use Rattle.std.specs.Prelude.{ℕ, ◌≤◌, ◌^◌, List, ℤ, pos, ◌≤ℤ◌}
use Rattle.std.specs.List.{slice_index_or}
use Rattle.fixed_log.specs.Bessel.{Follower}

-- what is kept of a frame subtype: its bits at quantiser 1 for each pixel, as a logarithm, and what follows that; the exponent with which
-- bits fall as the quantiser rises; the follower's delay; and how many frames were coded
pub record SubtypeRate : Type 0 where
  pub exponent : ℕ
  pub log_scale : ℤ
  pub filter : Follower
  pub delay : ℤ
  pub frames : ℤ

-- no subtype has this index
abbrev pub no_subtype : SubtypeRate
no_subtype = record {
  exponent = 1;
  log_scale = pos 0;
  filter = record { c0 = pos 0; c1 = pos 0; g = pos 0; x0 = pos 0; x1 = pos 0; y0 = pos 0; y1 = pos 0 };
  delay = pos 3;
  frames = pos 0;
}

abbrev pub subtype_at : List SubtypeRate → ℕ → SubtypeRate
subtype_at subtypes i = slice_index_or subtypes i no_subtype

-- what the code keeps of a subtype
pub record IsSubtype (s : SubtypeRate) : Type 0 where
  pub exponent : 1 ≤ s.exponent
  pub delay_low : pos 3 ≤ℤ s.delay
  pub delay_high : s.delay ≤ℤ pos (2 ^ 20)
