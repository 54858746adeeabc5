-- The subtype of a command, which is what rate control keeps apart.
use Rattle.std.specs.Prelude.{ℕ, ◌==◌, if◌then◌else◌}
use Rattle.av1_settings.specs.declared.frame_type.FrameType.{FrameType}
use Rattle.av1_settings.specs.declared.frame_type.FrameType.TheVariants.{KEY, INTER, INTRA_ONLY, SWITCH}
use Rattle.pyramid.specs.declared.command.Command.{Command}
use Rattle.pyramid.specs.declared.command.Command.TheVariants.{Code, Show}

-- 0 for a key frame, and 1 more than its level for any other: one of level 1 refreshes slot 4 alone, one of level 2 slot 5
-- alone, and one of level 0 another slot or all of them
abbrev pub frame_subtype : FrameType → ℕ → ℕ
frame_subtype KEY refresh = 0
frame_subtype kind refresh = if refresh == 16 then 2 else if refresh == 32 then 3 else 1

-- 4 where a slot is shown
abbrev pub subtype_of : Command → ℕ
subtype_of (Code frame kind refs refresh shown) = frame_subtype kind refresh
subtype_of (Show slot) = 4
