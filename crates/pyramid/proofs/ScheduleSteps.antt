-- What each call of a schedule does to what it was built from.
use Rattle.std.proofs.Common.{◌≡◌, ℕ, ◌+◌, ◌<◌, ◌≤◌, Bool, true, false, List, [], ◌∷◌, ◌++◌, length as size, drop, Option, None, Some, refl, sym, ap, ◌∙◌, subst, subst₂, append_assoc, append-nil, length-append, arith, zero, suc}
use Rattle.std.specs.Prelude.{is_some}
use Rattle.std.specs.List.{count_by, slice_get}
use Rattle.std.specs.Option.{option_to_list}
use Rattle.std.proofs.lemmas.Bool.{true≢false}
use Rattle.std.proofs.lemmas.List.{drop_all}
use Rattle.std.proofs.lemmas.Option.{none-some, same_Some}
use Rattle.pyramid.specs.declared.command.Command.{Command}
use Rattle.pyramid.specs.declared.place.Place.{Place}
use Rattle.pyramid.specs.declared.schedule.Schedule.{Schedule}
use Rattle.pyramid.specs.declared.spot.Spot.{Spot}
use Rattle.pyramid.specs.Building.{opening_spot, unit_to, spot_to, due_to, next_of, Walk, AreKeysFrom, Builds, begins_with_command, kept_from}
use Rattle.pyramid.specs.Known.{AreUndecided, is_coding}
use Rattle.pyramid.specs.Numbers.{Numbers, ahead}
use Rattle.pyramid.specs.Places.{PlacedUnit, commands_at, places_from, places_of, settled_places, settled_commands}
use Rattle.pyramid.specs.Rows.{HasTable}
use Rattle.pyramid.specs.Schedules.{IsBuilt, IsSchedule}
use Rattle.pyramid.proofs.Fronts.{flat_map-append}
use Rattle.pyramid.proofs.KeptKeys.{Rise, rise-within, begun-after, walk-rise, all-rise, keys-later, kept-within, kept-next, kept-built}
use Rattle.pyramid.proofs.PlacedLists.{commands-from, commands-append, from-append, from-next}
use Rattle.pyramid.proofs.PlacedUnits.{settled-commands}
use Rattle.pyramid.proofs.Walks.{next-same, walk-append, walk-stays, due-none, settled-walk}

places-append : (us vs : List PlacedUnit) → places_of (us ++ vs) ≡ places_of us ++ places_of vs
places-append us vs = flat_map-append (λ (u : PlacedUnit). u.places) us vs

-- ---- building

-- one unit more
module _ (numbers : Numbers) (interval frames : ℕ) (flushed : Bool) (keys left : List ℕ) (from mid to : Spot) (before between after : List Place) where
  abbrev left_next : ℕ
  left_next = next_of interval frames left mid

  build-more : Builds numbers interval frames flushed keys from mid before between → AreKeysFrom mid.start left keys →
      due_to numbers frames flushed left_next mid ≡ true →
      after ≡ places_from 0 (between ++ (unit_to numbers left_next mid).places) →
      to ≡ spot_to numbers left_next mid →
      Builds numbers interval frames flushed keys from to before after
  build-more built are due put moved =
      let next = next_of interval frames keys mid in
      let same = next-same interval frames mid.start left keys are in
      let unit = unit_to numbers next mid in
      let step : Walk numbers interval frames flushed keys mid (unit ∷ []) to =
      (subst (λ (n : ℕ). due_to numbers frames flushed n mid ≡ true) same due, refl, ap (λ (n : ℕ). spot_to numbers n mid) (sym same) ∙ sym moved) in
      let last : places_of (built.units ++ unit ∷ []) ≡ places_of built.units ++ unit.places =
      places-append built.units (unit ∷ []) ∙ ap (λ (ps : List Place). places_of built.units ++ ps) (append-nil unit.places) in
      record {
        units = built.units ++ unit ∷ [];
        walk = walk-append numbers interval frames flushed keys built.units (unit ∷ []) from mid to built.walk step;
        places = put
            ∙ ap (λ (n : ℕ). places_from 0 (between ++ (unit_to numbers n mid).places)) same
            ∙ ap (λ (ps : List Place). places_from 0 (ps ++ unit.places)) built.places
            ∙ sym (from-append 0 (before ++ places_of built.units) unit.places (omega arith))
            ∙ ap (places_from 0) (append_assoc before (places_of built.units) unit.places ∙ ap (λ (ps : List Place). before ++ ps) (sym last));
      }

-- with the numbers of the schedule that builds
pub build-on : (cfg numbers : Numbers) (every interval frames : ℕ) (flushed : Bool) (keys left : List ℕ) (from mid to : Spot) (before between after : List Place) →
    cfg ≡ numbers → every ≡ interval →
    Builds numbers interval frames flushed keys from mid before between → AreKeysFrom mid.start left keys →
    due_to cfg frames flushed (next_of every frames left mid) mid ≡ true →
    after ≡ places_from 0 (between ++ (unit_to cfg (next_of every frames left mid) mid).places) →
    to ≡ spot_to cfg (next_of every frames left mid) mid →
    Builds numbers interval frames flushed keys from to before after
build-on cfg numbers every interval frames flushed keys left from mid to before between after same_numbers same_interval built are due put moved =
    subst₂ (λ (n : Numbers) (v : ℕ). Builds n v frames flushed keys from mid before between → Builds n v frames flushed keys from to before after) same_numbers same_interval
    (λ b. build-more cfg every frames flushed keys left from mid to before between after b are due put moved) built

-- ---- what a schedule is

pub schedule-is : (numbers : Numbers) (interval frames : ℕ) (flushed : Bool) (keys : List ℕ) (commands : ℕ) (s : Schedule) → 1 ≤ interval → s.cfg ≡ numbers → s.interval ≡ interval → IsBuilt numbers interval frames flushed keys commands s → IsSchedule numbers interval frames flushed keys commands s
schedule-is numbers interval frames flushed keys commands s some has_numbers has_interval built =
    let known = settled-commands numbers interval frames flushed keys some in
    let settled = settled-walk numbers interval some frames keys flushed built.units s.spot built.walk built.ended in
    let all : commands_at (places_of built.units) ≡ settled_commands numbers interval frames flushed keys = ap commands_at (sym settled) ∙ known in
    let places : s.places.items ≡ places_from commands (settled_places numbers interval frames flushed keys) = built.places ∙ ap (places_from commands) (sym settled) in
    let commands_are : commands_at s.places.items ≡ drop commands (settled_commands numbers interval frames flushed keys) =
    ap commands_at built.places ∙ commands-from commands (places_of built.units) ∙ ap (drop commands) all in
    record {
      has_numbers = has_numbers;
      has_interval = has_interval;
      within = subst (λ (cs : List Command). commands ≤ size cs) all built.within;
      places = places;
      commands_are = commands_are;
      coded = s.counted ∙ ap (count_by is_coding) commands_are;
      built = built;
    }

-- ---- the keys that it keeps

spot-begun : (numbers : Numbers) (interval frames : ℕ) (flushed : Bool) (keys : List ℕ) (units : List PlacedUnit) (from to : Spot) → Walk numbers interval frames flushed keys from units to → (from.begun ≡ false → from.start ≡ 0) → to.begun ≡ false → to.start ≡ 0
spot-begun numbers interval frames flushed keys [] from to walk opens e = sym (ap (λ (s : Spot). s.start) walk) ∙ opens (ap (λ (s : Spot). s.begun) walk ∙ e)
spot-begun numbers interval frames flushed keys (unit ∷ units) from to walk opens e =
    let next = next_of interval frames keys from in
    spot-begun numbers interval frames flushed keys units (spot_to numbers next from) to walk.2
    (λ none. absurd (true≢false (sym (begun-after numbers next from.begun from.start from.number) ∙ none))) e

spot-opens : (numbers : Numbers) (interval frames : ℕ) (flushed : Bool) (keys : List ℕ) (units : List PlacedUnit) (to : Spot) → Walk numbers interval frames flushed keys opening_spot units to → to.begun ≡ false → to.start ≡ 0
spot-opens numbers interval frames flushed keys units to walk = spot-begun numbers interval frames flushed keys units opening_spot to walk (λ e. refl)

-- starts rise along the places that are held
pub held-rise : (numbers : Numbers) (interval frames : ℕ) (flushed : Bool) (keys : List ℕ) (commands : ℕ) (s : Schedule) → 1 ≤ interval → IsBuilt numbers interval frames flushed keys commands s → Rise 0 s.places.items s.spot.start
held-rise numbers interval frames flushed keys commands s some b =
    subst (λ (ps : List Place). Rise 0 ps s.spot.start) (sym b.places) (all-rise numbers interval frames flushed keys commands some b.units s.spot b.walk)

-- all keys above the last that was built are kept
pub built-keys : (numbers : Numbers) (interval frames : ℕ) (flushed : Bool) (keys : List ℕ) (commands : ℕ) (s : Schedule) → 1 ≤ interval → IsBuilt numbers interval frames flushed keys commands s → AreKeysFrom s.spot.start s.keys.items keys
built-keys numbers interval frames flushed keys commands s some b =
    keys-later (kept_from s.places.items s.spot.start) s.spot.start s.keys.items keys
    (kept-within 0 s.places.items s.spot.start (held-rise numbers interval frames flushed keys commands s some b)) b.keys_left

dropped-keys : (numbers : Numbers) (interval frames : ℕ) (flushed : Bool) (keys : List ℕ) (commands : ℕ) (old new : Schedule) → 1 ≤ interval → IsBuilt numbers interval frames flushed keys commands old →
    new.spot ≡ old.spot → AreKeysFrom (kept_from new.places.items new.spot.start) new.keys.items old.keys.items → new.places.items ≡ places_from 0 (drop 1 old.places.items) →
    AreKeysFrom (kept_from new.places.items new.spot.start) new.keys.items keys
dropped-keys numbers interval frames flushed keys commands old new some b same_spot left passed all place above =
    let rise = held-rise numbers interval frames flushed keys commands old some b in
    let kept : kept_from old.places.items old.spot.start ≤ kept_from new.places.items new.spot.start =
    omega (arith, kept-next 0 old.places.items old.spot.start rise, ap (λ (ps : List Place). kept_from ps new.spot.start) passed, ap (λ (s : Spot). kept_from (places_from 0 (drop 1 old.places.items)) s.start) same_spot) in
    left all place above ∙ b.keys_left all place (omega (arith, kept, above))

-- ---- its calls

-- frames are accepted, or no more come
later-is : (numbers : Numbers) (interval before frames : ℕ) (was flushed : Bool) (keys : List ℕ) (commands : ℕ) (old new : Schedule) → 1 ≤ interval →
    (built : IsBuilt numbers interval before was keys commands old) →
    Walk numbers interval frames flushed keys opening_spot built.units old.spot →
    Builds numbers interval frames flushed keys old.spot new.spot old.places.items new.places.items →
    new.keys.items ≡ old.keys.items →
    due_to numbers frames flushed (next_of interval frames new.keys.items new.spot) new.spot ≡ false →
    IsBuilt numbers interval frames flushed keys commands new
later-is numbers interval before frames was flushed keys commands old new some built first more same_keys ended =
    let further : Rise old.spot.start (places_of more.units) new.spot.start = walk-rise numbers interval frames flushed keys some more.units old.spot new.spot (spot-opens numbers interval before was keys built.units old.spot built.walk) more.walk in
    let kept : kept_from old.places.items old.spot.start ≤ kept_from new.places.items new.spot.start =
    omega (arith, kept-built old.places.items (places_of more.units) old.spot.start new.spot.start old.ready further, ap (λ (ps : List Place). kept_from ps new.spot.start) more.places) in
    let left : AreKeysFrom (kept_from new.places.items new.spot.start) new.keys.items keys =
    subst (λ (ks : List ℕ). AreKeysFrom (kept_from new.places.items new.spot.start) ks keys) (sym same_keys)
    (keys-later (kept_from old.places.items old.spot.start) (kept_from new.places.items new.spot.start) old.keys.items keys kept built.keys_left) in
    let are : AreKeysFrom new.spot.start new.keys.items keys =
    subst (λ (ks : List ℕ). AreKeysFrom new.spot.start ks keys) (sym same_keys)
    (keys-later old.spot.start new.spot.start old.keys.items keys (rise-within old.spot.start (places_of more.units) new.spot.start further)
    (built-keys numbers interval before was keys commands old some built)) in
    let both = places-append built.units more.units in
    let enough : commands ≤ size (commands_at (places_of built.units ++ places_of more.units)) =
    omega (arith, built.within, ap size (commands-append (places_of built.units) (places_of more.units)), length-append (commands_at (places_of built.units)) (commands_at (places_of more.units))) in
    record {
      units = built.units ++ more.units;
      walk = walk-append numbers interval frames flushed keys built.units more.units opening_spot old.spot new.spot first more.walk;
      ended = ap (λ (n : ℕ). due_to numbers frames flushed n new.spot) (sym (next-same interval frames new.spot.start new.keys.items keys are)) ∙ ended;
      places = more.places
          ∙ ap (λ (ps : List Place). places_from 0 (ps ++ places_of more.units)) built.places
          ∙ sym (from-append commands (places_of built.units) (places_of more.units) built.within)
          ∙ ap (places_from commands) (sym both);
      within = subst (λ (ps : List Place). commands ≤ size (commands_at ps)) (sym both) enough;
      keys_left = left;
    }

-- what `build` says
module _ (frames : ℕ) (flushed : Bool) (old new : Schedule) (same_numbers : new.cfg ≡ old.cfg) (same_interval : new.interval ≡ old.interval)
    (builds : (keys : List ℕ) → AreKeysFrom old.spot.start old.keys.items keys → Builds old.cfg old.interval frames flushed keys old.spot new.spot old.places.items new.places.items)
    (same_keys : new.keys.items ≡ old.keys.items)
    (ended : due_to new.cfg frames flushed (next_of new.interval frames new.keys.items new.spot) new.spot ≡ false)
    (numbers : Numbers) (interval before : ℕ) (keys : List ℕ) (commands : ℕ) where
  more-is : (was : Bool) (is : IsSchedule numbers interval before was keys commands old) → Walk numbers interval frames flushed keys opening_spot is.built.units old.spot → IsSchedule numbers interval frames flushed keys commands new
  more-is was is first =
      let has_numbers : new.cfg ≡ numbers = same_numbers ∙ is.has_numbers in
      let has_interval : new.interval ≡ interval = same_interval ∙ is.has_interval in
      let some : 1 ≤ interval = subst (λ (v : ℕ). 1 ≤ v) is.has_interval old.some in
      let are = built-keys numbers interval before was keys commands old some is.built in
      let built = later-is numbers interval before frames was flushed keys commands old new some is.built first
      (subst₂ (λ (n : Numbers) (v : ℕ). Builds n v frames flushed keys old.spot new.spot old.places.items new.places.items) is.has_numbers is.has_interval (builds keys are))
      same_keys
      (subst₂ (λ (n : Numbers) (v : ℕ). due_to n frames flushed (next_of v frames new.keys.items new.spot) new.spot ≡ false) has_numbers has_interval ended) in
      schedule-is numbers interval frames flushed keys commands new some has_numbers has_interval built

  -- from a moment before the flush
  pub grown-is : before ≤ frames → IsSchedule numbers interval before false keys commands old → IsSchedule numbers interval frames flushed keys commands new
  grown-is on is =
      let some : 1 ≤ interval = subst (λ (v : ℕ). 1 ≤ v) is.has_interval old.some in
      let table : HasTable numbers.depth = subst (λ (n : Numbers). HasTable n.depth) is.has_numbers old.table in
      let none : AreUndecided numbers before [] = λ k d low. absurd (omega arith) in
      let first : Walk numbers interval frames flushed keys opening_spot is.built.units old.spot =
      subst (λ (ks : List ℕ). Walk numbers interval frames flushed ks opening_spot is.built.units old.spot) (append-nil keys)
      (walk-stays numbers interval before frames keys [] table some on none flushed is.built.units opening_spot old.spot is.built.walk) in
      more-is false is first

-- where no more come already
pub again-is : (frames : ℕ) (old new : Schedule) → new.cfg ≡ old.cfg → new.interval ≡ old.interval →
    ((keys : List ℕ) → AreKeysFrom old.spot.start old.keys.items keys → Builds old.cfg old.interval frames true keys old.spot new.spot old.places.items new.places.items) →
    new.keys.items ≡ old.keys.items →
    due_to new.cfg frames true (next_of new.interval frames new.keys.items new.spot) new.spot ≡ false →
    (numbers : Numbers) (interval : ℕ) (keys : List ℕ) (commands : ℕ) →
    IsSchedule numbers interval frames true keys commands old → IsSchedule numbers interval frames true keys commands new
again-is frames old new same_numbers same_interval builds same_keys ended numbers interval keys commands is =
    more-is frames true old new same_numbers same_interval builds same_keys ended numbers interval frames keys commands true is is.built.walk

-- a key is decided
pub noted-is : (position : ℕ) (old new : Schedule) → new.cfg ≡ old.cfg → new.interval ≡ old.interval → new.spot ≡ old.spot → new.places.items ≡ old.places.items →
    ((keys : List ℕ) → AreKeysFrom (kept_from old.places.items old.spot.start) old.keys.items keys →
    AreKeysFrom (kept_from old.places.items old.spot.start) new.keys.items (keys ++ position ∷ [])) →
    (numbers : Numbers) (interval frames : ℕ) (keys : List ℕ) (commands : ℕ) → frames ≤ position + ahead numbers →
    IsSchedule numbers interval frames false keys commands old → IsSchedule numbers interval frames false (keys ++ position ∷ []) commands new
noted-is position old new same_numbers same_interval same_spot same_places left numbers interval frames keys commands later is =
    let some : 1 ≤ interval = subst (λ (v : ℕ). 1 ≤ v) is.has_interval old.some in
    let table : HasTable numbers.depth = subst (λ (n : Numbers). HasTable n.depth) is.has_numbers old.table in
    let b = is.built in
    let more = keys ++ position ∷ [] in
    let undecided : AreUndecided numbers frames (position ∷ []) = first in
    let walk = walk-stays numbers interval frames frames keys (position ∷ []) table some (omega arith) undecided false b.units opening_spot old.spot b.walk in
    let ended = due-none numbers interval frames keys (position ∷ []) table some undecided old.spot.begun old.spot.start old.spot.number b.ended in
    schedule-is numbers interval frames false more commands new some (same_numbers ∙ is.has_numbers) (same_interval ∙ is.has_interval) (record {
      units = b.units;
      walk = subst (λ (s : Spot). Walk numbers interval frames false more opening_spot b.units s) (sym same_spot) walk;
      ended = subst (λ (s : Spot). due_to numbers frames false (next_of interval frames more s) s ≡ false) (sym same_spot) ended;
      places = same_places ∙ b.places;
      within = b.within;
      keys_left = subst₂ (λ (s : Spot) (ps : List Place). AreKeysFrom (kept_from ps s.start) new.keys.items more) (sym same_spot) (sym same_places) (left keys b.keys_left);
    })
  where
    first : AreUndecided numbers frames (position ∷ [])
    first zero d low = later
    first (suc k) d low = absurd (omega arith)

-- a command is coded
pub advanced-is : (old new : Schedule) → new.cfg ≡ old.cfg → new.interval ≡ old.interval → new.spot ≡ old.spot →
    AreKeysFrom (kept_from new.places.items new.spot.start) new.keys.items old.keys.items → new.places.items ≡ places_from 0 (drop 1 old.places.items) →
    (numbers : Numbers) (interval frames : ℕ) (flushed : Bool) (keys : List ℕ) (commands : ℕ) → commands < size (settled_commands numbers interval frames flushed keys) →
    IsSchedule numbers interval frames flushed keys commands old → IsSchedule numbers interval frames flushed keys (commands + 1) new
advanced-is old new same_numbers same_interval same_spot left passed numbers interval frames flushed keys commands there is =
    let some : 1 ≤ interval = subst (λ (v : ℕ). 1 ≤ v) is.has_interval old.some in
    let b = is.built in
    let settled = settled-walk numbers interval some frames keys flushed b.units old.spot b.walk b.ended in
    let all : commands_at (places_of b.units) ≡ settled_commands numbers interval frames flushed keys = ap commands_at (sym settled) ∙ settled-commands numbers interval frames flushed keys some in
    let one_more : suc commands ≡ commands + 1 = omega arith in
    schedule-is numbers interval frames flushed keys (commands + 1) new some (same_numbers ∙ is.has_numbers) (same_interval ∙ is.has_interval) (record {
      units = b.units;
      walk = subst (λ (s : Spot). Walk numbers interval frames flushed keys opening_spot b.units s) (sym same_spot) b.walk;
      ended = subst (λ (s : Spot). due_to numbers frames flushed (next_of interval frames keys s) s ≡ false) (sym same_spot) b.ended;
      places = passed ∙ ap (λ (ps : List Place). places_from 0 (drop 1 ps)) b.places ∙ sym (from-next commands (places_of b.units)) ∙ ap (λ (n : ℕ). places_from n (places_of b.units)) one_more;
      within = omega (arith, there, ap size all);
      keys_left = dropped-keys numbers interval frames flushed keys commands old new some b same_spot left passed;
    })

-- none is known
none-left : (places : List Place) → begins_with_command places ≡ true → commands_at places ≡ [] → places ≡ []
none-left [] ready none = refl
none-left (place ∷ places) ready none = absurd (by place.command ready none)
  where
    by : (o : Option Command) → is_some o ≡ true → option_to_list o ++ commands_at places ≡ [] → ⊥
    by None h e = true≢false (sym h)
    by (Some command) h e = cc

pub stayed-is : (old new : Schedule) → new.cfg ≡ old.cfg → new.interval ≡ old.interval → new.spot ≡ old.spot →
    AreKeysFrom (kept_from new.places.items new.spot.start) new.keys.items old.keys.items → new.places.items ≡ places_from 0 (drop 1 old.places.items) →
    (numbers : Numbers) (interval frames : ℕ) (flushed : Bool) (keys : List ℕ) (commands : ℕ) → size (settled_commands numbers interval frames flushed keys) ≤ commands →
    IsSchedule numbers interval frames flushed keys commands old → IsSchedule numbers interval frames flushed keys commands new
stayed-is old new same_numbers same_interval same_spot left passed numbers interval frames flushed keys commands end is =
    let some : 1 ≤ interval = subst (λ (v : ℕ). 1 ≤ v) is.has_interval old.some in
    let b = is.built in
    let gone : old.places.items ≡ [] = none-left old.places.items old.ready (is.commands_are ∙ drop_all commands (settled_commands numbers interval frames flushed keys) end) in
    schedule-is numbers interval frames flushed keys commands new some (same_numbers ∙ is.has_numbers) (same_interval ∙ is.has_interval) (record {
      units = b.units;
      walk = subst (λ (s : Spot). Walk numbers interval frames flushed keys opening_spot b.units s) (sym same_spot) b.walk;
      ended = subst (λ (s : Spot). due_to numbers frames flushed (next_of interval frames keys s) s ≡ false) (sym same_spot) b.ended;
      places = passed ∙ ap (λ (ps : List Place). places_from 0 (drop 1 ps)) gone ∙ sym gone ∙ b.places;
      within = b.within;
      keys_left = dropped-keys numbers interval frames flushed keys commands old new some b same_spot left passed;
    })

-- the next command
get-drop : {X : Type 0} (n : ℕ) (xs : List X) → slice_get (drop n xs) 0 ≡ slice_get xs n
get-drop zero xs = refl
get-drop (suc n) [] = refl
get-drop (suc n) (x ∷ xs) = get-drop n xs

pub next-is : (places : List Place) (commands : List Command) (count : ℕ) (place : Place) → Some place ≡ slice_get places 0 → begins_with_command places ≡ true → commands_at places ≡ drop count commands → place.command ≡ slice_get commands count
next-is [] commands count place first ready are = absurd (none-some place (sym first))
next-is (p ∷ places) commands count place first ready are =
    ap (λ (q : Place). q.command) (same_Some place p first)
    ∙ here p.command ready
    ∙ ap (λ (cs : List Command). slice_get cs 0) are
    ∙ get-drop count commands
  where
    here : (o : Option Command) → is_some o ≡ true → o ≡ slice_get (option_to_list o ++ commands_at places) 0
    here None h = absurd (true≢false (sym h))
    here (Some command) h = refl

pub next-none : (places : List Place) (commands : List Command) (count : ℕ) → None ≡ slice_get places 0 → commands_at places ≡ drop count commands → None ≡ slice_get commands count
next-none [] commands count first are = ap (λ (cs : List Command). slice_get cs 0) are ∙ get-drop count commands
next-none (p ∷ places) commands count first are = absurd (none-some p first)
