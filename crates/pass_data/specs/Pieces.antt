-- Pass data that comes in pieces: its bytes are taken one after the other.
use Rattle.std.specs.Prelude.{ℕ, ◌+◌, ◌-◌, min, not, nat_lt, Bool, ◌||◌, List, [], ◌∷◌, ◌++◌, length, take, Option, Some, None, is_some, Result, Ok, Err, ℤ, pos, int_lt, if◌then◌else◌}
use Rattle.pass_data.specs.declared.error.PassDataError.{PassDataError}
use Rattle.pass_data.specs.Given.{Given, Outcome, goal, needed, taken, with_packet_bytes, with_summary_bytes}

-- bytes are wanted of a summary, and then of metrics as long as some are needed
abbrev pub wants : ℤ → ℤ → Given → Bool
wants delay commands g = not (is_some g.header) || int_lt (pos 0) (needed delay commands g)

-- a whole summary, or the whole metrics of a frame, leave no bytes, whether they are taken or refused
abbrev pub with_whole : List ℕ → Given → Outcome
with_whole bytes g =
    if is_some g.header then with_packet_bytes bytes (record g { bytes = [] })
    else with_summary_bytes bytes (record g { bytes = [] })

unfoldable pub with_byte : ℕ → Given → Outcome
with_byte b g =
    if nat_lt (length (g.bytes ++ b ∷ [])) (goal g)
    then taken (record g { bytes = g.bytes ++ b ∷ [] })
    else with_whole (g.bytes ++ b ∷ []) g

-- how far giving came: what was given, how many bytes were taken, and what was refused
pub record Progress : Type 0 where
  pub given : Given
  pub taken : ℕ
  pub refused : Option PassDataError

abbrev pub further : ℕ → Progress → Progress
further n p = record p { taken = n + p.taken }

-- what is refused ends it
abbrev pub then_given : ℕ → (Given → Progress) → Given → Option PassDataError → Progress
then_given n rest g None = further n (rest g)
then_given n rest g (Some e) = record { given = g; taken = n; refused = Some e }

-- each byte is taken where one is wanted
unfoldable pub given_bytes : ℤ → ℤ → List ℕ → Given → Progress
given_bytes delay commands [] g = record { given = g; taken = 0; refused = None }
given_bytes delay commands (b ∷ bs) g =
    if wants delay commands g
    then then_given 1 (given_bytes delay commands bs) (with_byte b g).given (with_byte b g).refused
    else record { given = g; taken = 0; refused = None }

-- bytes up to the end of what is collected, at once
unfoldable pub part : List ℕ → Given → Progress
part bytes g =
    let n = min (length bytes) (goal g - length g.bytes) in
    if nat_lt (length (g.bytes ++ take n bytes)) (goal g) then
    record { given = record g { bytes = g.bytes ++ take n bytes }; taken = n; refused = None }
    else record {
      given = (with_whole (g.bytes ++ take n bytes) g).given;
      taken = n;
      refused = (with_whole (g.bytes ++ take n bytes) g).refused;
    }

abbrev pub answer_by : ℕ → Option PassDataError → Result ℕ PassDataError
answer_by n None = Ok n
answer_by n (Some e) = Err e

abbrev pub answer : Progress → Result ℕ PassDataError
answer p = answer_by p.taken p.refused
