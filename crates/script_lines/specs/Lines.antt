-- A line of a script: its words, and what they ask for.
use Rattle.std.specs.Prelude.{ℕ, Bool, ◌==◌, ◌&&◌, nat_le, if◌then◌else◌, List, [], ◌∷◌, Option, None, Some, option_and_then, codes, bytes_eq}
use Rattle.std.specs.List.{slice_split}
use Rattle.std.specs.Option.{option_map, option_or}
use Rattle.script_lines.specs.declared.line.Action.{Action}
use Rattle.script_lines.specs.declared.line.Action.TheVariants.{Send, SendKey, SendOpaque, SendSize, Flush, Receive}
use Rattle.script_lines.specs.declared.dialect.Dialect.{Dialect}
use Rattle.script_lines.specs.declared.line.TheConstants.{MOST_SIDE}
use Rattle.script_lines.specs.declared.line.Line.{Line}
use Rattle.script_lines.specs.declared.line.Line.TheVariants.{Blank, Set, Answers, Prints, Summary, Calls, Gives}
use Rattle.script_lines.specs.AnswerLines.{answer_of_one, answer_of_two, print_of, scale_of}
use Rattle.script_lines.specs.DecimalNumbers.{number_of}
use Rattle.script_lines.specs.Dialects.{has_line}
use Rattle.script_lines.specs.HexBytes.{pass_bytes_of, summary_bytes_of}
use Rattle.script_lines.specs.SettingLines.{setting_of_none, setting_of_one, setting_of_two}

-- what stands before, between and behind such bytes
abbrev pub parts : ℕ → List ℕ → List (List ℕ)
parts byte text = slice_split (λ b. b == byte) text

-- parts without the last one, if that is empty
abbrev pub without_empty_end : List (List ℕ) → List (List ℕ)
without_empty_end [] = []
without_empty_end ([] ∷ []) = []
without_empty_end (part ∷ parts) = part ∷ without_empty_end parts

-- the lines of a text: a line feed ends each, and the last may lack it
abbrev pub lines_of : List ℕ → List (List ℕ)
lines_of text = without_empty_end (parts 10 text)

-- the parts of what may be left of a text
abbrev pub parts_left : ℕ → Option (List ℕ) → List (List ℕ)
parts_left byte None = []
parts_left byte (Some rest) = parts byte rest

abbrev pub first_of : List (List ℕ) → List ℕ
first_of [] = []
first_of (word ∷ words) = word

-- the word that a line begins with
abbrev pub word_of : List ℕ → List ℕ
word_of text = first_of (parts 32 text)

-- what can stand once in a script: the word of a line, and all of a `print` line
abbrev pub key_of : List ℕ → List ℕ
key_of text = if bytes_eq (word_of text) (codes "print") then text else word_of text

-- one call or more
abbrev pub some_calls : Action → ℕ → Option Line
some_calls action count = if count == 0 then None else Some (Calls action count)

-- the calls of a word alone
abbrev pub calls_of_none : List ℕ → Option Line
calls_of_none word =
    if bytes_eq word (codes "send") then some_calls Send 1
    else if bytes_eq word (codes "sendkey") then some_calls SendKey 1
    else if bytes_eq word (codes "flush") then some_calls Flush 1
    else if bytes_eq word (codes "receive") then some_calls Receive 1
    else None

-- one call that sends a frame with this opaque value
abbrev pub opaque_call : ℕ → Option Line
opaque_call value = some_calls (SendOpaque value) 1

-- the calls of a word and a number: `send N`, `sendopaque V`, `receive N`
abbrev pub calls_of_one : List ℕ → List ℕ → Option Line
calls_of_one word text =
    if bytes_eq word (codes "send") then option_and_then (some_calls Send) (number_of text)
    else if bytes_eq word (codes "sendopaque") then option_and_then opaque_call (number_of text)
    else if bytes_eq word (codes "receive") then option_and_then (some_calls Receive) (number_of text)
    else None

-- a side of a frame of another size
abbrev pub is_side : ℕ → Bool
is_side n = nat_le 1 n && nat_le n MOST_SIDE

-- the calls of a word and two numbers: `sendsize W H`
abbrev pub calls_of_two : List ℕ → ℕ → ℕ → Option Line
calls_of_two word a b =
    if bytes_eq word (codes "sendsize") && (is_side a && is_side b) then some_calls (SendSize a b) 1 else None

-- what a word alone asks for
abbrev pub line_of_none : List ℕ → Option Line
line_of_none word = option_or (option_map Set (setting_of_none word)) (calls_of_none word)

-- what a word and what stands behind it ask for
abbrev pub line_of_one : List ℕ → List ℕ → Option Line
line_of_one word text =
    if bytes_eq word (codes "summary") then option_map Summary (summary_bytes_of text)
    else if bytes_eq word (codes "pass") then option_map Gives (pass_bytes_of text)
    else if bytes_eq word (codes "print") then option_map Prints (print_of text)
    else option_or (option_map Set (setting_of_one word text))
    (option_or (option_map Answers (answer_of_one word text)) (calls_of_one word text))

-- what a word and two numbers ask for
abbrev pub line_of_numbers : List ℕ → ℕ → ℕ → Option Line
line_of_numbers word a b =
    option_or (option_map Set (setting_of_two word a b))
    (option_or (option_map Answers (answer_of_two word a b)) (calls_of_two word a b))

-- a word and two texts: numbers, but for `scale`, whose second one has a sign
abbrev pub line_of_two : List ℕ → List ℕ → List ℕ → Option Line
line_of_two word first second =
    if bytes_eq word (codes "scale") then option_map Answers (scale_of first second)
    else option_and_then (λ a. option_and_then (line_of_numbers word a) (number_of second)) (number_of first)

-- what the words of a line ask for: there are three at most
abbrev pub line_of_words : List (List ℕ) → Option Line
line_of_words (word ∷ []) = line_of_none word
line_of_words (word ∷ first ∷ []) = line_of_one word first
line_of_words (word ∷ first ∷ second ∷ []) = line_of_two word first second
line_of_words words = None

-- what a line asks for: nothing where it is empty or begins with `#`, else what its words say, one space between two
unfoldable pub line_of : List ℕ → Option Line
line_of [] = Some Blank
line_of (byte ∷ rest) = if byte == 35 then Some Blank else line_of_words (parts 32 (byte ∷ rest))

-- the same where a dialect has such a line
abbrev pub line_in : Dialect → List ℕ → Option Line
line_in dialect text =
    option_and_then (λ line. if has_line dialect line then Some line else None) (line_of text)
