-- The rate state, as contracts see it.
use Rattle.std.specs.Prelude.{ℕ, ◌^◌, Bool, List, Option, IfSome, ℤ, pos, ◌≤ℤ◌}
use Rattle.fixed_log.specs.Within.{IsWithin}
use Rattle.rate_model.specs.Subtype.{SubtypeRate}
use Rattle.pass_data.specs.Emitted.{Emitted}
use Rattle.pass_data.specs.Given.{Given}

pub record Rate : Type 0 where
  -- the settings
  pub bitrate : ℤ
  pub bits_per_tu : ℤ
  pub reservoir_delay : ℤ
  pub delay_target : ℤ
  pub greatest : Option ℕ
  pub least : ℕ
  pub log_npixels : ℤ
  -- the reservoir: what it can hold, what it should hold, and what it holds, in bits
  pub most : ℤ
  pub target : ℤ
  pub reservoir : ℤ
  -- by how much the estimates of the coded frames were above their bits
  pub bias : ℤ
  -- the coded frames, those without bits left out, and the shows of coded frames
  pub coded : ℤ
  pub shown_again : ℤ
  pub shows : ℤ
  pub subtypes : List SubtypeRate
  -- the two passes: the delay that was set, which are on, the base of the first, and what was given and emitted
  pub set_delay : Option ℤ
  pub first : Bool
  pub second : Bool
  pub first_base : ℤ
  pub given : Given
  pub emitted : Emitted

-- what the code keeps of the state
pub record IsRate (r : Rate) : Type 0 where
  pub bits_low : pos 24 ≤ℤ r.bits_per_tu
  pub bits_high : r.bits_per_tu ≤ℤ pos (2 ^ 46)
  pub delay : pos 1 ≤ℤ r.reservoir_delay
  pub delay_target : r.delay_target ≤ℤ pos (2 ^ 20)
  pub most_low : pos 1 ≤ℤ r.most
  pub most_high : r.most ≤ℤ pos (2 ^ 78)
  pub target : IsWithin (2 ^ 78) r.target
  pub reservoir : IsWithin (2 ^ 96) r.reservoir
  pub bias : IsWithin (2 ^ 96) r.bias
  pub coded_low : pos 0 ≤ℤ r.coded
  pub coded_high : r.coded ≤ℤ pos (2 ^ 62)
  pub shown_again : r.shown_again ≤ℤ pos (2 ^ 62)
  pub set_delay : IfSome r.set_delay (λ delay. (pos 12 ≤ℤ delay) × (delay ≤ℤ pos (2 ^ 17)))
