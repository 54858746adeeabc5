-- The dialects of scripts: which lines each has, and how its calls end.
use Rattle.std.specs.Prelude.{ℕ, Bool, true, false, not, ◌==◌}
use Rattle.script_lines.specs.declared.dialect.Dialect.{Dialect}
use Rattle.script_lines.specs.declared.dialect.Dialect.TheVariants.{Run, SecondPass, Gops}
use Rattle.script_lines.specs.declared.line.Action.{Action}
use Rattle.script_lines.specs.declared.line.Action.TheVariants.{Send, Flush}
use Rattle.script_lines.specs.declared.line.Line.{Line}
use Rattle.script_lines.specs.declared.line.Line.TheVariants.{Set, Calls, Gives}
use Rattle.script_lines.specs.declared.setting.Setting.{Setting}
use Rattle.script_lines.specs.declared.setting.Setting.TheVariants.{StillPicture}

-- pass data is given
abbrev pub is_give : Line → Bool
is_give (Gives bytes) = true
is_give line = false

abbrev pub is_still : Setting → Bool
is_still StillPicture = true
is_still setting = false

-- plain frames are sent, or all are flushed, once
abbrev pub is_send_or_flush : Action → ℕ → Bool
is_send_or_flush Send count = true
is_send_or_flush Flush count = count == 1
is_send_or_flush action count = false

-- where GOPs are coded side by side no picture is still, and the calls are plain frames and a flush
abbrev pub is_of_gops : Line → Bool
is_of_gops (Set setting) = not (is_still setting)
is_of_gops (Calls action count) = is_send_or_flush action count
is_of_gops (Gives bytes) = false
is_of_gops line = true

-- pass data is given in a second pass alone
abbrev pub has_line : Dialect → Line → Bool
has_line Run line = not (is_give line)
has_line SecondPass line = true
has_line Gops line = is_of_gops line

-- where GOPs are coded side by side a flush ends the calls
abbrev pub ends_with_flush : Dialect → Bool
ends_with_flush Gops = true
ends_with_flush dialect = false
