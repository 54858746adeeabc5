-- The sizes of a frame's planes.
use Rattle.std.specs.Prelude.{ℕ, ◌+◌, ◌/◌, List, [], ◌∷◌}
use Rattle.av1_frame.specs.declared.sampling.ChromaSampling.{ChromaSampling}
use Rattle.av1_frame.specs.declared.sampling.ChromaSampling.TheVariants.{Cs420, Cs422, Cs444, Cs400}

-- the size of each of the two chroma planes, halves going up
abbrev pub chroma_size : ℕ → ℕ → ChromaSampling → ℕ × ℕ
chroma_size width height Cs420 = ((width + 1) / 2, (height + 1) / 2)
chroma_size width height Cs422 = ((width + 1) / 2, height)
chroma_size width height Cs444 = (width, height)
chroma_size width height Cs400 = (0, 0)

-- the sizes of y, u and v
abbrev pub plane_sizes : ℕ → ℕ → ChromaSampling → List (ℕ × ℕ)
plane_sizes width height chroma =
    (width, height) ∷ chroma_size width height chroma ∷ chroma_size width height chroma ∷ []
