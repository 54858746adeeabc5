-- A guess of what the next temporal units have: a walk over the places from the one that is being coded on. Known places
-- tell where keys stand; all else is guessed from the place table, with a key at each start that is decided and at most an
-- interval behind the last, as if inputs never ended.
use Rattle.std.specs.Prelude.{ℕ, ◌+◌, ◌-◌, ◌*◌, ◌/◌, min, Bool, ◌==◌, nat_lt, nat_le, if◌then◌else◌, List, [], ◌∷◌, map, slice_set, Option, Some, None}
use Rattle.std.specs.List.{slice_get, slice_index_or}
use Rattle.std.proofs.Common.{zero, suc}
use Rattle.av1_settings.specs.declared.frame_type.FrameType.TheVariants.{KEY}
use Rattle.pyramid.specs.declared.command.Command.{Command}
use Rattle.pyramid.specs.declared.command.Command.TheVariants.{Code}
use Rattle.pyramid.specs.declared.guess.GuessWalk.{GuessWalk}
use Rattle.pyramid.specs.declared.guess.GuessedAhead.{GuessedAhead}
use Rattle.pyramid.specs.declared.place.Place.{Place}
use Rattle.pyramid.specs.Numbers.{Numbers, group_inputs, group_places}
use Rattle.pyramid.specs.Places.{place_row, key_place, places_from, settled_places}
use Rattle.pyramid.specs.Plan.{key_above}

-- ---- counts by subtype: 0 key frames, 1 to 3 the other frames of levels 0 to 2, 4 shows of coded frames

abbrev pub count_at : List ℕ → ℕ → ℕ
count_at counts subtype = slice_index_or counts subtype 0

abbrev pub one_more : ℕ → List ℕ → List ℕ
one_more subtype counts = slice_set counts subtype (count_at counts subtype + 1)

abbrev pub no_counts : List ℕ
no_counts = 0 ∷ 0 ∷ 0 ∷ 0 ∷ 0 ∷ []

abbrev pub sum_of_counts : List ℕ → List ℕ → List ℕ
sum_of_counts xs ys =
    map (λ subtype. count_at xs subtype + count_at ys subtype) (0 ∷ 1 ∷ 2 ∷ 3 ∷ 4 ∷ [])

-- ---- what is known ahead, where `places` are the known ones from that which is being coded on

-- the command that is known at a place, none where it is cut; the place that is being coded counts as not known
abbrev pub known_at : List Place → ℕ → Option Command
known_at places behind =
    if behind == 0
    then None
    else elim (slice_get places behind) [ None ↦ None | Some place ↦ place.command ]

-- the start after `start`, as if inputs never ended: the first key above it, or an interval on if that is sooner
abbrev pub endless_start_after : ℕ → List ℕ → ℕ → ℕ
endless_start_after interval keys start =
    min (key_above (start + interval) keys start) (start + interval)

-- ---- the walk, and its step by the first of five cases that applies
--
-- It stands `behind` places behind the one that is being coded, and `since_key` places behind that of its last key, which is
-- input `key_input`. By subtype it met `before` until this key and `since` from it on. It met `frames` coded frames and `tus`
-- temporal units in all, and `frames_at_key` and `tus_at_key` until the key.

-- it begins at the place that is being coded, or, where nothing is known, as before the first command, at the key of input 0
abbrev pub first_place : List Place → Place
first_place places = slice_index_or places 0 (key_place 0)

abbrev pub walk_from : Place → GuessWalk
walk_from place = record {
  behind = 0;
  key_input = place.start;
  since_key = place.number;
  since = no_counts;
  before = no_counts;
  frames = 0;
  tus = 0;
  frames_at_key = 0;
  tus_at_key = 0;
}

-- it goes on by so many places
abbrev pub moved : ℕ → GuessWalk → GuessWalk
moved places walk =
    record walk { behind = walk.behind + places; since_key = walk.since_key + places }

-- it takes its place as that of a key: what was met since the last key joins what was met before, and the numbers so far
-- are remembered
abbrev pub at_key : ℕ → GuessWalk → GuessWalk
at_key input walk = record walk {
  key_input = input;
  since_key = 0;
  since = one_more 0 no_counts;
  before = sum_of_counts walk.before walk.since;
  frames_at_key = walk.frames;
  tus_at_key = walk.tus;
}

-- 1. a key, which is known or begins the walk's GOP
abbrev pub past_key : ℕ → GuessWalk → GuessWalk
past_key input walk =
    moved 1 (record (at_key input walk) { frames = walk.frames + 1; tus = walk.tus + 1 })

-- 2. a key that is guessed: it isn't counted as a coded frame, and the place behind it is passed over
abbrev pub past_guessed_key : ℕ → GuessWalk → GuessWalk
past_guessed_key input walk = moved 2 (record (at_key input walk) { tus = walk.tus + 1 })

-- 3. a place that is cut
abbrev pub past_cut : GuessWalk → GuessWalk
past_cut walk = moved 1 walk

-- 4. a show of a coded frame
abbrev pub past_show : GuessWalk → GuessWalk
past_show walk = moved 1 (record walk { since = one_more 4 walk.since; tus = walk.tus + 1 })

-- 5. a frame of a level
abbrev pub past_frame : ℕ → Bool → GuessWalk → GuessWalk
past_frame level shown walk = moved 1 (record walk {
  since = one_more (1 + level) walk.since;
  frames = walk.frames + 1;
  tus = walk.tus + (if shown then 1 else 0);
})

-- the input of the key at the walk's place, if there is one: a known key, or where no command is known the walk's own key
abbrev pub key_at : Option Command → GuessWalk → Option ℕ
key_at (Some (Code frame KEY refs refresh shown)) walk = Some frame
key_at (Some command) walk = None
key_at None walk = if walk.since_key == 0 then Some walk.key_input else None

-- whether the whole groups so far reach the start `next`
abbrev pub has_whole_gop : Numbers → ℕ → GuessWalk → Bool
has_whole_gop numbers next walk =
    nat_le (next - walk.key_input) (1 + walk.since_key / group_places numbers * group_inputs numbers)

-- past a place that has no key: its uncut input may be at or past the next start
abbrev pub past_row : Numbers → ℕ → List ℕ → GuessWalk → GuessWalk
past_row numbers interval keys walk =
    let next = endless_start_after interval keys walk.key_input in
    let row = place_row numbers walk.since_key in
    let input = walk.key_input + row.position in
    if nat_le next input
    then if has_whole_gop numbers next walk then past_guessed_key input walk else past_cut walk
    else if row.show_existing
    then past_show walk
    else past_frame row.level row.shown walk

abbrev pub past_place : Numbers → ℕ → List ℕ → List Place → GuessWalk → GuessWalk
past_place numbers interval keys places walk =
    elim (key_at (known_at places walk.behind) walk) [
      | Some input ↦ past_key input walk
      | None ↦ past_row numbers interval keys walk
    ]

-- on to `wanted` temporal units, by at most so many steps
abbrev pub walked : Numbers → ℕ → List ℕ → List Place → ℕ → ℕ → GuessWalk → GuessWalk
walked numbers interval keys places wanted zero walk = walk
walked numbers interval keys places wanted (suc steps) walk =
    if nat_lt walk.tus wanted
    then walked numbers interval keys places wanted steps (past_place numbers interval keys places walk)
    else walk

-- enough steps: as many as a group has places lead past the last place of a group, or past a key, and there a temporal unit
-- ends
abbrev pub enough_steps : Numbers → ℕ → ℕ
enough_steps numbers wanted = group_places numbers * wanted

abbrev pub whole_walk : Numbers → ℕ → List ℕ → List Place → ℕ → GuessWalk
whole_walk numbers interval keys places wanted =
    walked numbers interval keys places wanted (enough_steps numbers wanted) (walk_from (first_place places))

-- ---- the answer

-- all that was met where no key was met behind the first place, else what was met before the last key
abbrev pub answer_of : GuessWalk → GuessedAhead
answer_of walk =
    if nat_le walk.behind walk.since_key
    then record {
      nframes = sum_of_counts walk.before walk.since;
      frames = walk.frames;
      tus = walk.tus;
    }
    else record {
      nframes = walk.before;
      frames = walk.frames_at_key;
      tus = walk.tus_at_key;
    }

-- the known places from that of command `commands` on, counted from 0
abbrev pub places_ahead : Numbers → ℕ → ℕ → Bool → List ℕ → ℕ → List Place
places_ahead numbers interval frames flushed keys commands =
    places_from commands (settled_places numbers interval frames flushed keys)

-- what the next `wanted` temporal units are guessed to have, where `commands` were coded
abbrev pub guess : Numbers → ℕ → ℕ → Bool → List ℕ → ℕ → ℕ → GuessedAhead
guess numbers interval frames flushed keys commands wanted =
    let places = places_ahead numbers interval frames flushed keys commands in
    answer_of (whole_walk numbers interval keys places wanted)

-- the input with which the GOP of the place that is being coded starts, and 0 where nothing is known
abbrev pub gop_input_start : Numbers → ℕ → ℕ → Bool → List ℕ → ℕ → ℕ
gop_input_start numbers interval frames flushed keys commands =
    (first_place (places_ahead numbers interval frames flushed keys commands)).start
