-- The report of a session in two passes: its calls have the lines that they have in one pass, and pass data has a line of its own.
use Rattle.std.specs.Prelude.{ℕ, List, [], ◌∷◌, ◌++◌, flat_map, codes, Option, None, Some}
use Rattle.hex.specs.Hex.{encode_lower}
use Rattle.pass_data.specs.declared.rc_data.RcData.{RcData}
use Rattle.pass_data.specs.declared.rc_data.RcData.TheVariants.{Frame, Summary}
use Rattle.session_core.specs.declared.pass_transcript.PassTurn.{PassTurn}
use Rattle.session_core.specs.declared.pass_transcript.PassTurn.TheVariants.{Turn as Answer, Taken, Given}
use Rattle.session_text.specs.declared.report.ReportOptions.{ReportOptions}
use Rattle.session_text.specs.ReportLines.{turn_lines}

-- the line of a word and bytes, two digits for each
unfoldable pub data_line : List ℕ → List ℕ → List ℕ
data_line word bytes = word ++ (codes " " ++ (encode_lower bytes ++ 10 ∷ []))

-- the line of what was taken: a frame's metrics, or a summary; there is none where nothing was taken
abbrev pub taken_lines : Option RcData → List ℕ
taken_lines None = []
taken_lines (Some (Frame message)) = data_line (codes "pass") message.items
taken_lines (Some (Summary message)) = data_line (codes "summary") message.items

-- the lines of a call
abbrev pub pass_turn_lines : {T O : Type 0} → ReportOptions → PassTurn T O → List ℕ
pass_turn_lines options (Answer turn) = turn_lines options turn
pass_turn_lines options (Taken message) = taken_lines message
pass_turn_lines options Given = codes "given" ++ 10 ∷ []

-- the report of a session's turns
abbrev pub pass_report : {T O : Type 0} → ReportOptions → List (PassTurn T O) → List ℕ
pass_report options turns = flat_map (pass_turn_lines options) turns
