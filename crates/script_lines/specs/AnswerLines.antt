-- The lines that say what the program's detector, its mean scales and its coder are to answer, and what a report has besides.
use Rattle.std.specs.Prelude.{ℕ, ◌&&◌, nat_le, if◌then◌else◌, List, Option, None, Some, option_and_then, codes, bytes_eq}
use Rattle.std.specs.Option.{option_map}
use Rattle.script_lines.specs.declared.answer.Answer.{Answer}
use Rattle.script_lines.specs.declared.answer.Answer.TheVariants.{Cut, ByteCount, Fault, Scale}
use Rattle.script_lines.specs.declared.answer.Print.{Print}
use Rattle.script_lines.specs.declared.answer.Print.TheVariants.{Bytes, QuantizerIndex, Reservoir}
use Rattle.script_lines.specs.declared.answer.TheConstants.{MOST_FRAME_BYTES}
use Rattle.script_lines.specs.DecimalNumbers.{number_of, signed_up_to}

-- `cut P`, `fault K`
abbrev pub answer_of_one : List ℕ → List ℕ → Option Answer
answer_of_one word text =
    if bytes_eq word (codes "cut") then option_map Cut (number_of text)
    else if bytes_eq word (codes "fault") then option_map Fault (number_of text)
    else None

-- `bytes P N`, with an N of 1 to 4096
abbrev pub answer_of_two : List ℕ → ℕ → ℕ → Option Answer
answer_of_two word frame count =
    if bytes_eq word (codes "bytes") && (nat_le 1 count && nat_le count MOST_FRAME_BYTES)
    then Some (ByteCount frame count)
    else None

-- `P V` behind `scale`, with a V of 64 bits and a sign
abbrev pub scale_of : List ℕ → List ℕ → Option Answer
scale_of frame value =
    option_and_then (λ p. option_map (Scale p) (signed_up_to 0x7fff_ffff_ffff_ffff value)) (number_of frame)

-- `bytes`, `q` or `reservoir` behind `print`
abbrev pub print_of : List ℕ → Option Print
print_of text =
    if bytes_eq text (codes "bytes") then Some Bytes
    else if bytes_eq text (codes "q") then Some QuantizerIndex
    else if bytes_eq text (codes "reservoir") then Some Reservoir
    else None
