-- The words of the command line.
use Rattle.std.specs.Prelude.{◌≡◌, ℕ, Bool, true, false, nat_le, if◌then◌else◌, List, [], ◌∷◌, map, codes, bytes_eq, Option, None, Some, option_and_then, String, string_bytes}
use Rattle.std.specs.declared.alloc.Global.{Global}
use Rattle.std.specs.Option.{option_map}
use Rattle.script_lines.specs.DecimalNumbers.{number_up_to}
use Rattle.script_lines.specs.declared.dialect.Dialect.{Dialect}
use Rattle.script_lines.specs.declared.dialect.Dialect.TheVariants.{Run as RunLines, SecondPass as SecondPassLines, Gops as GopsLines}
use Rattle.session_script.specs.declared.words.Task.{Task}
use Rattle.session_script.specs.declared.words.Task.TheVariants.{Run, FirstPass, SecondPass, Generate, Gops}
use Rattle.session_script.specs.declared.words.TheConstants.{LEAST_SEED, LEAST_WORKERS, MOST_SEED, MOST_WORKERS}

-- the words are this one word
abbrev pub AreOne : List ℕ → List (String Global) → Type 0
AreOne word words = map string_bytes words ≡ word ∷ []

-- the first of the words is this one
abbrev pub BeginWith : List ℕ → List (String Global) → Type 0
BeginWith word [] = ⊥
BeginWith word (first ∷ words) = string_bytes first ≡ word

-- the number that a text of 1 to 20 digits writes, if it lies within these bounds
abbrev pub number_within : ℕ → ℕ → List ℕ → Option ℕ
number_within least most text =
    option_and_then (λ n. if nat_le least n then Some n else None) (number_up_to most text)

-- the seed that a text writes, if it is one: from 1 to 10,000
abbrev pub seed_of : List ℕ → Option ℕ
seed_of text = number_within LEAST_SEED MOST_SEED text

-- the number of workers that a text writes, if it is one: from 1 to 16
abbrev pub workers_of : List ℕ → Option ℕ
workers_of text = number_within LEAST_WORKERS MOST_WORKERS text

-- what the program is to do for one word
abbrev pub task_of_word : List ℕ → Option Task
task_of_word word =
    if bytes_eq word (codes "run") then Some Run
    else if bytes_eq word (codes "pass1") then Some FirstPass
    else if bytes_eq word (codes "pass2") then Some SecondPass
    else None

-- what it is to do without waiting: `run`, `pass1`, `pass2`, or `gen` and a seed
abbrev pub task_of_texts : List (List ℕ) → Option Task
task_of_texts (word ∷ []) = task_of_word word
task_of_texts (word ∷ number ∷ []) =
    if bytes_eq word (codes "gen") then option_map Generate (seed_of number) else None
task_of_texts texts = None

abbrev pub task_of : List (String Global) → Option Task
task_of words = task_of_texts (map string_bytes words)

-- how many workers it is asked for: `gops` and a number of workers
abbrev pub workers_in : List (List ℕ) → Option ℕ
workers_in (word ∷ number ∷ []) = if bytes_eq word (codes "gops") then workers_of number else None
workers_in texts = None

abbrev pub workers_asked : List (String Global) → Option ℕ
workers_asked words = workers_in (map string_bytes words)

-- what it is to do where it may wait: jobs side by side
abbrev pub gops_of : List (String Global) → Option Task
gops_of words = option_map Gops (workers_asked words)

-- all but `gen` carry out the script that the source holds
abbrev pub reads_script : Task → Bool
reads_script (Generate seed) = false
reads_script task = true

-- `run` and `gen` are sessions in one pass
abbrev pub has_one_pass : Task → Bool
has_one_pass Run = true
has_one_pass (Generate seed) = true
has_one_pass task = false

-- `pass1` and `pass2` are sessions in two passes
abbrev pub has_two_passes : Task → Bool
has_two_passes FirstPass = true
has_two_passes SecondPass = true
has_two_passes task = false

-- `gops` is a session for each of its jobs
abbrev pub has_jobs : Task → Bool
has_jobs (Gops workers) = true
has_jobs task = false

-- pass data can be given in a second pass alone, and jobs have frames alone
abbrev pub dialect_of : Task → Dialect
dialect_of SecondPass = SecondPassLines
dialect_of (Gops workers) = GopsLines
dialect_of task = RunLines
