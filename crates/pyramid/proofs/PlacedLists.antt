-- Places in order, the commands that they have, and the count of those that code a frame.
use Rattle.std.proofs.Common.{◌≡◌, ℕ, ◌+◌, ◌<◌, ◌≤◌, Bool, true, false, cond, List, [], ◌∷◌, ◌++◌, length as size, get_or, map, take, drop, Option, None, Some, refl, sym, ap, ◌∙◌, append_assoc, append-nil, arith, zero, suc}
use Rattle.std.specs.Prelude.{is_some}
use Rattle.std.specs.List.{count_by}
use Rattle.std.specs.Option.{option_to_list, option_map_or}
use Rattle.std.proofs.lemmas.Bool.{true≢false}
use Rattle.std.proofs.lemmas.List.{take_more, map-append}
use Rattle.pyramid.specs.declared.command.Command.{Command}
use Rattle.pyramid.specs.declared.command.Command.TheVariants.{Code, Show}
use Rattle.pyramid.specs.declared.place.Place.{Place}
use Rattle.pyramid.specs.Building.{begins_with_command, coding_count}
use Rattle.pyramid.specs.Known.{is_coding}
use Rattle.pyramid.specs.Places.{commands_at, places_from}
use Rattle.pyramid.proofs.Fronts.{flat_map-append}
use Rattle.pyramid.proofs.Lists.{count-append}

-- what `places_from` answers at a place with this command
abbrev at_place : ℕ → Place → List Place → Option Command → List Place
at_place count place places o = elim o [
  | None ↦ places_from count places
  | Some command ↦ elim count [ zero ↦ place ∷ places | suc rest ↦ places_from rest places ]
]

from-none : (count : ℕ) (place : Place) (places : List Place) → place.command ≡ None → places_from count (place ∷ places) ≡ places_from count places
from-none count place places e = ap (at_place count place places) e

pub from-some : (place : Place) (places : List Place) (command : Command) → place.command ≡ Some command → places_from 0 (place ∷ places) ≡ place ∷ places
from-some place places command e = ap (at_place 0 place places) e

from-later : (rest : ℕ) (place : Place) (places : List Place) (command : Command) → place.command ≡ Some command → places_from (suc rest) (place ∷ places) ≡ places_from rest places
from-later rest place places command e = ap (at_place (suc rest) place places) e

pub commands-from : (count : ℕ) (places : List Place) → commands_at (places_from count places) ≡ drop count (commands_at places)
commands-from zero [] = refl
commands-from (suc count) [] = refl
commands-from count (place ∷ places) = by place.command refl count (λ n. commands-from n places)
  where
    by : (o : Option Command) → place.command ≡ o → (count : ℕ) → ((n : ℕ) → commands_at (places_from n places) ≡ drop n (commands_at places)) → commands_at (at_place count place places o) ≡ drop count (option_to_list o ++ commands_at places)
    by None e count rest = rest count
    by (Some command) e zero rest = ap (λ o. option_to_list o ++ commands_at places) e
    by (Some command) e (suc count) rest = rest count

pub commands-append : (xs ys : List Place) → commands_at (xs ++ ys) ≡ commands_at xs ++ commands_at ys
commands-append xs ys = flat_map-append (λ (place : Place). option_to_list place.command) xs ys

-- places put behind
pub from-append : (count : ℕ) (xs ys : List Place) → count ≤ size (commands_at xs) → places_from count (xs ++ ys) ≡ places_from 0 (places_from count xs ++ ys)
from-append zero [] ys h = refl
from-append (suc count) [] ys h = absurd (omega arith)
from-append count (place ∷ xs) ys h = by place.command refl count h (λ n. from-append n xs ys)
  where
    by : (o : Option Command) → place.command ≡ o → (count : ℕ) → count ≤ size (option_to_list o ++ commands_at xs) → ((n : ℕ) → n ≤ size (commands_at xs) → places_from n (xs ++ ys) ≡ places_from 0 (places_from n xs ++ ys)) → at_place count place (xs ++ ys) o ≡ places_from 0 (at_place count place xs o ++ ys)
    by None e count h rest = rest count h
    by (Some command) e zero h rest = sym (from-some place (xs ++ ys) command e)
    by (Some command) e (suc count) h rest = rest count (omega arith)

-- one more place behind those that were put behind
pub from-push : (xs ys : List Place) (place : Place) → places_from 0 (places_from 0 (xs ++ ys) ++ place ∷ []) ≡ places_from 0 (xs ++ (ys ++ place ∷ []))
from-push xs ys place = sym (from-append 0 (xs ++ ys) (place ∷ []) (omega arith)) ∙ ap (places_from 0) (append_assoc xs ys (place ∷ []))

-- one more row's place
pub from-row : {X : Type 0} (f : X → Place) (rows : List X) (k : ℕ) (d : X) (place : Place) (xs now after : List Place) → k < size rows → place ≡ f (get_or rows k d) → now ≡ places_from 0 (xs ++ map f (take k rows)) → after ≡ places_from 0 (now ++ place ∷ []) → after ≡ places_from 0 (xs ++ map f (take (k + 1) rows))
from-row f rows k d place xs now after h is so_far put =
    let more : map f (take k rows) ++ place ∷ [] ≡ map f (take (k + 1) rows) =
    ap (λ (p : Place). map f (take k rows) ++ p ∷ []) is
    ∙ sym (map-append f (take k rows) (get_or rows k d ∷ []))
    ∙ ap (map f) (sym (take_more rows k d h)) in
    put
    ∙ ap (λ (ps : List Place). places_from 0 (ps ++ place ∷ [])) so_far
    ∙ from-push xs (map f (take k rows)) place
    ∙ ap (λ (ps : List Place). places_from 0 (xs ++ ps)) more

-- the next command was passed
pub from-next : (count : ℕ) (places : List Place) → places_from (suc count) places ≡ places_from 0 (drop 1 (places_from count places))
from-next count [] = refl
from-next count (place ∷ places) = by place.command count (λ n. from-next n places)
  where
    by : (o : Option Command) (count : ℕ) → ((n : ℕ) → places_from (suc n) places ≡ places_from 0 (drop 1 (places_from n places))) → at_place (suc count) place places o ≡ places_from 0 (drop 1 (at_place count place places o))
    by None count rest = rest count
    by (Some command) zero rest = refl
    by (Some command) (suc count) rest = rest count

pub from-ready : (count : ℕ) (places : List Place) → begins_with_command (places_from count places) ≡ true
from-ready count [] = refl
from-ready count (place ∷ places) = by place.command refl count (λ n. from-ready n places)
  where
    by : (o : Option Command) → place.command ≡ o → (count : ℕ) → ((n : ℕ) → begins_with_command (places_from n places) ≡ true) → begins_with_command (at_place count place places o) ≡ true
    by None e count rest = rest count
    by (Some command) e zero rest = ap is_some e
    by (Some command) e (suc count) rest = rest count

pub from-same : (places : List Place) → begins_with_command places ≡ true → places_from 0 places ≡ places
from-same [] h = refl
from-same (place ∷ places) h = by place.command refl h
  where
    by : (o : Option Command) → place.command ≡ o → is_some o ≡ true → places_from 0 (place ∷ places) ≡ place ∷ places
    by None e h = absurd (true≢false (sym h))
    by (Some command) e h = from-some place places command e

-- ---- how many code a frame

abbrev pub codes_at : Place → Bool
codes_at place = option_map_or is_coding place.command false

coding-option : (o : Option Command) → count_by is_coding (option_to_list o) ≡ cond (option_map_or is_coding o false) 1 0
coding-option None = refl
coding-option (Some (Code frame kind refs refresh shown)) = refl
coding-option (Some (Show slot)) = refl

pub coding-first : (place : Place) (places : List Place) → coding_count (place ∷ places) ≡ cond (codes_at place) 1 0 + coding_count places
coding-first place places =
    count-append is_coding (option_to_list place.command) (commands_at places)
    ∙ ap (λ (n : ℕ). n + coding_count places) (coding-option place.command)

pub coding-push : (places : List Place) (place : Place) → coding_count (places ++ place ∷ []) ≡ coding_count places + cond (codes_at place) 1 0
coding-push places place =
    ap (count_by is_coding) (commands-append places (place ∷ []))
    ∙ count-append is_coding (commands_at places) (option_to_list place.command ++ [])
    ∙ ap (λ (cs : List Command). coding_count places + count_by is_coding cs) (append-nil (option_to_list place.command))
    ∙ ap (λ (n : ℕ). coding_count places + n) (coding-option place.command)

pub coding-from : (places : List Place) → coding_count (places_from 0 places) ≡ coding_count places
coding-from places = ap (count_by is_coding) (commands-from 0 places)

one-at-most : (b : Bool) → cond b 1 0 ≤ 1
one-at-most true = omega arith
one-at-most false = omega arith

pub coding-few : (places : List Place) → coding_count places ≤ size places
coding-few [] = omega arith
coding-few (place ∷ places) = omega (arith, coding-first place places, one-at-most (codes_at place), coding-few places)
