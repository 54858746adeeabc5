-- The lines of commands.
use Rattle.std.specs.Prelude.{ℕ, Bool, if◌then◌else◌, List, [], ◌∷◌, ◌++◌, codes, decimal}
use Rattle.std.specs.List.{flat_map}
use Rattle.av1_settings.specs.declared.frame_type.FrameType.{FrameType}
use Rattle.av1_settings.specs.declared.frame_type.FrameType.TheVariants.{KEY, INTER, INTRA_ONLY, SWITCH}
use Rattle.pyramid.specs.declared.command.Command.{Command}
use Rattle.pyramid.specs.declared.command.Command.TheVariants.{Code, Show}

abbrev pub kind_word : FrameType → List ℕ
kind_word KEY = codes "key"
kind_word INTER = codes "inter"
kind_word INTRA_ONLY = codes "intra"
kind_word SWITCH = codes "switch"

-- slots with a space between two; `-` for none
unfoldable pub slots_text : List ℕ → List ℕ
slots_text [] = codes "-"
slots_text (slot ∷ slots) = decimal slot ++ flat_map (λ next. codes " " ++ decimal next) slots

abbrev pub shown_word : Bool → List ℕ
shown_word shown = if shown then codes "shown" else codes "hidden"

-- the line of a coded frame
unfoldable pub code_line : ℕ → List ℕ → List ℕ → ℕ → List ℕ → List ℕ
code_line frame kind refs refresh shown =
    codes "code "
    ++ (decimal frame
    ++ (codes " "
    ++ (kind
    ++ (codes " refs "
    ++ (slots_text refs
    ++ (codes " refresh " ++ (decimal refresh ++ (codes " " ++ (shown ++ 10 ∷ [])))))))))

-- the line of a command
unfoldable pub command_line : Command → List ℕ
command_line (Code frame kind refs refresh shown) =
    code_line frame (kind_word kind) refs refresh (shown_word shown)
command_line (Show slot) = codes "show " ++ (decimal slot ++ 10 ∷ [])
