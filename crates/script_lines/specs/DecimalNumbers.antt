-- A number of a script, without and with a sign.
use Rattle.std.specs.Prelude.{ℕ, ◌^◌, ◌==◌, ◌&&◌, ◌||◌, nat_le, nat_lt, ℤ, pos, negsuc, neg_ℤ, int_le, if◌then◌else◌, List, [], ◌∷◌, length, Option, None, Some, option_and_then}
use Rattle.std.specs.Char.{is_ascii_digit}
use Rattle.std.specs.List.{list_all}
use Rattle.std.specs.Option.{option_map}
use Rattle.std.specs.Str.Parse.{digits_value}
use Rattle.script_lines.specs.declared.number.TheConstants.{MOST_DIGITS}

-- the number that decimal digits write, if it fits 64 bits
unfoldable pub digits_of : List ℕ → Option ℕ
digits_of text =
    if list_all is_ascii_digit text && nat_lt (digits_value 10 text) (2 ^ 64)
    then Some (digits_value 10 text)
    else None

-- the number that a text of 1 to 20 digits writes
unfoldable pub number_of : List ℕ → Option ℕ
number_of text =
    if length text == 0 || nat_lt MOST_DIGITS (length text) then None else digits_of text

-- the same, if it is at most this
abbrev pub number_up_to : ℕ → List ℕ → Option ℕ
number_up_to most text = option_and_then (λ n. if nat_le n most then Some n else None) (number_of text)

-- the number that such a text writes behind a `-`, or alone
unfoldable pub signed_of : List ℕ → Option ℤ
signed_of [] = None
signed_of (byte ∷ digits) =
    if byte == 45 then option_map (λ n. neg_ℤ (pos n)) (number_of digits)
    else option_map pos (number_of (byte ∷ digits))

-- the same, if it is from -most - 1 to most
abbrev pub signed_up_to : ℕ → List ℕ → Option ℤ
signed_up_to most text =
    option_and_then (λ z. if int_le (negsuc most) z && int_le z (pos most) then Some z else None) (signed_of text)
