-- Bytes of a script.
use Rattle.std.specs.Prelude.{ℕ, ◌==◌, ◌||◌, nat_lt, if◌then◌else◌, List, length, Option, None}
use Rattle.std.specs.Char.{is_ascii_uppercase}
use Rattle.std.specs.List.{list_any}
use Rattle.std.specs.Option.{option_map}
use Rattle.std.specs.Result.{result_ok}
use Rattle.arrayvec.specs.ArrayVec.{ArrayVec}
use Rattle.hex.specs.Hex.{decode_of}
use Rattle.script_lines.specs.declared.hex_bytes.TheConstants.{MOST_PASS_DIGITS, MOST_SUMMARY_DIGITS}

-- the bytes that hexadecimal digits write, 2 and so many at most, two for each, with no capital letters
unfoldable pub bytes_of : ℕ → List ℕ → Option (List ℕ)
bytes_of most text =
    if length text == 0 || (nat_lt most (length text) || list_any is_ascii_uppercase text)
    then None
    else result_ok (decode_of text)

-- a summary has 400 digits at most
abbrev pub summary_bytes_of : List ℕ → Option (List ℕ)
summary_bytes_of text = bytes_of MOST_SUMMARY_DIGITS text

abbrev pub pass_data : List ℕ → ArrayVec ℕ
pass_data bytes = record { items = bytes }

-- pass data has 136 digits at most
abbrev pub pass_bytes_of : List ℕ → Option (ArrayVec ℕ)
pass_bytes_of text = option_map pass_data (bytes_of MOST_PASS_DIGITS text)
