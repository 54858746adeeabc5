-- What the types of frames allow.
use Rattle.std.specs.Prelude.{Bool, true, false}
use Rattle.av1_settings.specs.declared.frame_type.FrameType.{FrameType}
use Rattle.av1_settings.specs.declared.frame_type.FrameType.TheVariants.{KEY, INTER, INTRA_ONLY, SWITCH}

-- blocks may be predicted from other frames
abbrev pub has_inter : FrameType → Bool
has_inter KEY = false
has_inter INTER = true
has_inter INTRA_ONLY = false
has_inter SWITCH = true

-- each block is predicted from its own frame
abbrev pub all_intra : FrameType → Bool
all_intra KEY = true
all_intra INTER = false
all_intra INTRA_ONLY = true
all_intra SWITCH = false
