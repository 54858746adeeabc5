-- What the planes of a frame are.
use Rattle.std.specs.Prelude.{◌≡◌, ℕ, ◌*◌, Bool, ◌==◌, ◌&&◌, List, [], ◌∷◌, replicate}
use Rattle.av1_frame.specs.declared.frame.Plane.{Plane}
use Rattle.av1_frame.specs.declared.frame.Frame.{Frame}
use Rattle.av1_frame.specs.declared.sampling.ChromaSampling.{ChromaSampling}
use Rattle.av1_frame.specs.declared.sampling.ChromaSampling.TheVariants.{Cs400}
use Rattle.av1_frame.specs.Sizes.{chroma_size}

-- the plane has this size, and each sample is the same
pub record IsFilled {T : Type 0} (sample : T) (plane : Plane T) (size : ℕ × ℕ) : Type 0 where
  pub width : plane.width ≡ size.0
  pub height : plane.height ≡ size.1
  pub pixels : plane.pixels ≡ replicate (size.0 * size.1) sample

-- y, u and v
abbrev pub planes_of : {T : Type 0} → Frame T → List (Plane T)
planes_of frame = frame.y ∷ frame.u ∷ frame.v ∷ []

abbrev pub has_size : {T : Type 0} → Plane T → ℕ × ℕ → Bool
has_size plane size = (plane.width == size.0) && (plane.height == size.1)

-- the planes have the sizes of this size and sampling; 4:0:0 has luma alone
abbrev pub fits : {T : Type 0} → Frame T → ℕ → ℕ → ChromaSampling → Bool
fits frame width height Cs400 = has_size frame.y (width, height)
fits frame width height chroma =
    has_size frame.y (width, height)
    && has_size frame.u (chroma_size width height chroma)
    && has_size frame.v (chroma_size width height chroma)
