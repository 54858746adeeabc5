-- What deciding positions does to the state of a session, and what is asked.
use Rattle.std.proofs.Common.{◌≡◌, ℕ, ◌+◌, ◌-◌, ◌≤◌, ◌<◌, Bool, true, false, cond, IsTrue, List, [], ◌∷◌, ◌++◌, map, length, get_or, take, drop, Option, Some, None, IfSome, IfOk, Result, Ok, Err, refl, sym, ◌∙◌, ap, ap₂, subst, subst₂, append_assoc, append-nil, arith}
use Rattle.std.specs.List.{flat_map, range_with_len}
use Rattle.std.proofs.lemmas.Bool.{false≢true}
use Rattle.std.proofs.Math.Seq.{drop-append_seam, drop-length, take-append_seam, take-length}
use Rattle.std.proofs.lemmas.List.{drop-map, drop_all, drop_more, length_push, map-append, length-append}
use Rattle.std.proofs.lemmas.List.Concat.{flat_map-append}
use Rattle.std.proofs.lemmas.List.Elements.{All-append, All-nil, All-cons}
use Rattle.std.proofs.lemmas.Simd.{map-map}
use Rattle.av1_frame.specs.declared.frame.Frame.{Frame}
use Rattle.av1_settings.specs.declared.encoder.EncoderConfig.{EncoderConfig}
use Rattle.av1_settings.specs.declared.speed.SceneDetectionSpeed.{SceneDetectionSpeed}
use Rattle.pyramid.specs.Settings.{numbers_of}
use Rattle.session_core.specs.declared.state.SessionState.{SessionState}
use Rattle.session_core.specs.declared.waiting.WaitingFrame.{WaitingFrame}
use Rattle.session_core.specs.declared.transcript.Decision.{Decision}
use Rattle.session_core.specs.Decisions.{decided_count, decisions_at, key_positions}
use Rattle.session_core.specs.Moments.{Waiting, Moment}
use Rattle.session_core.specs.Questions.{AreAnswered, IsAskedIn, frames_from, last_key, made_in, question}
use Rattle.session_core.specs.States.{AreInOrder, Decided, waiting_of, moment_of, KeepsLastKey, TakesKeys}
use Rattle.session_core.specs.Told.{Asked, Grew, GrowsBy, told_ask}
use Rattle.session_core.specs.Turns.{AreMade, Decides, forced_at}
use Rattle.session_core.proofs.Asking.{ArePlaced, last_key-is, last_key-later, questions-agree}
use Rattle.session_core.proofs.Decided.{IsMarkedKey, keys-append, position_of, range-append}
use Rattle.session_core.proofs.Scheduling.{takes-none, takes-then}
use Rattle.session_core.proofs.Telling.{answered-append, answered-none, answered-one, grew-none, grew-then, grows-ok}

-- one more decision, of the next position
pushed-order : (decisions : List Decision) (one : Decision) → AreInOrder decisions → one.position ≡ length decisions + 1 → AreInOrder (decisions ++ one ∷ [])
pushed-order decisions one in_order next =
    map-append position_of decisions (one ∷ [])
    ∙ ap₂ (λ (a b : List ℕ). a ++ b) in_order (ap (λ (n : ℕ). n ∷ []) (next ∙ turned))
    ∙ range-append 1 (length decisions) 1
    ∙ ap (range_with_len 1) (sym (length-append decisions (one ∷ [])))
  where
    turned : length decisions + 1 ≡ 1 + length decisions
    turned = omega arith

get-last : (first : ℕ) (keys : List ℕ) (key : ℕ) → get_or (first ∷ (keys ++ key ∷ [])) (length (keys ++ key ∷ [])) 0 ≡ key
get-last first [] key = refl
get-last first (other ∷ keys) key = get-last other keys key

-- it is the last key where it is a key
last-pushed : (decisions : List Decision) (one : Decision) → AreInOrder decisions → one.position ≡ length decisions + 1 →
    cond one.key one.position (last_key decisions (length decisions + 1)) ≡ last_key (decisions ++ one ∷ []) (length (decisions ++ one ∷ []) + 1)
last-pushed decisions one in_order next =
    by_key one.key
    ∙ sym (ap last_of (keys-append decisions (one ∷ [])))
    ∙ sym (last_key-is (decisions ++ one ∷ []) (pushed-order decisions one in_order next))
  where
    last_of : List ℕ → ℕ
    last_of = λ keys. get_or (0 ∷ keys) (length keys) 0

    by_key : (key : Bool) → cond key one.position (last_key decisions (length decisions + 1)) ≡ last_of (key_positions decisions ++ map position_of (cond key (one ∷ []) []))
    by_key true = sym (get-last 0 (key_positions decisions) one.position)
    by_key false = last_key-is decisions in_order ∙ sym (ap last_of (append-nil (key_positions decisions)))

-- ---- deciding

made-append : {T O : Type 0} (m : Moment T O) (from : ℕ) (a b : List Decision) → AreMade m from a → AreMade m (from + length a) b → AreMade m from (a ++ b)
made-append m from a b first then = record {
  positions =
      map-append position_of a b
      ∙ ap₂ (λ (x y : List ℕ). x ++ y) first.positions then.positions
      ∙ range-append from (length a) (length b)
      ∙ ap (range_with_len from) (sym (length-append a b));
  forced =
      map-append (λ (d : Decision). d.forced) a b
      ∙ ap₂ (λ (x y : List Bool). x ++ y) first.forced then.forced
      ∙ sym (map-append (forced_at m) (range_with_len from (length a)) (range_with_len (from + length a) (length b)))
      ∙ ap (map (forced_at m)) (range-append from (length a) (length b) ∙ ap (range_with_len from) (sym (length-append a b)));
  keys = All-append IsMarkedKey a b first.keys then.keys;
}

module _ {T O : Type 0} (mode : SceneDetectionSpeed) where
  pub decided-none : (state : SessionState T O) (told : Option (List (Asked T))) (answers : Option (ℕ → Bool)) → KeepsLastKey state →
      Decided mode state state told told answers (length state.decisions.items)
  decided-none state told answers last_kept = record {
    others = refl;
    made = [];
    decisions = sym (append-nil state.decisions.items);
    count = refl;
    are = record { positions = refl; forced = refl; keys = All-nil IsMarkedKey };
    last_key = last_kept;
    schedule = takes-none (length state.decisions.items + 1) state.schedule;
    grew = grew-none told;
    ahead = answered-none answers;
  }

  -- the decisions stay in order
  pub decided-order : (before after : SessionState T O) (told told_after : Option (List (Asked T))) (answers : Option (ℕ → Bool)) (last : ℕ) →
      Decided mode before after told told_after answers last → AreInOrder before.decisions.items → AreInOrder after.decisions.items
  decided-order before after told told_after answers last decided in_order =
      subst AreInOrder (sym decided.decisions)
      (map-append position_of before.decisions.items decided.made
      ∙ ap₂ (λ (x y : List ℕ). x ++ y) in_order (decided.are.positions ∙ ap (λ (n : ℕ). range_with_len n (length decided.made)) first)
      ∙ range-append 1 (length before.decisions.items) (length decided.made)
      ∙ ap (range_with_len 1) (sym (length-append before.decisions.items decided.made)))
    where
      first : length before.decisions.items + 1 ≡ 1 + length before.decisions.items
      first = omega arith

  -- one position: with its frame's mark, after what is asked of it
  pub decided-one : (before after : SessionState T O) (told told_after : Option (List (Asked T))) (answers : Option (ℕ → Bool)) (p : ℕ) (forced key : Bool) →
      after ≡ record before { decisions = after.decisions; last_key = after.last_key; schedule = after.schedule } →
      after.decisions.items ≡ before.decisions.items ++ record { position = p; forced = forced; key = key } ∷ [] →
      after.last_key ≡ cond key p before.last_key → TakesKeys p (cond key (p ∷ []) []) before.schedule after.schedule →
      KeepsLastKey before → AreInOrder before.decisions.items → p ≡ length before.decisions.items + 1 →
      forced ≡ forced_at (moment_of before) p → (IsTrue forced → IsTrue key) →
      Grew told told_after (question mode (frames_from (moment_of before)) before.decisions.items (record { position = p; forced = forced; key = key })) →
      AreAnswered answers (record { position = p; forced = forced; key = key } ∷ []) →
      Decided mode before after told told_after answers p
  decided-one before after told told_after answers p forced key only grown last takes kept in_order next mark marked grew ahead = record {
    others = only;
    made = one ∷ [];
    decisions = grown;
    count = ap (λ (l : List Decision). length l) grown ∙ length_push before.decisions.items one ∙ sym next;
    are = record {
      positions = ap (λ (n : ℕ). n ∷ []) next;
      forced = ap (λ (b : Bool). b ∷ []) (mark ∙ ap (forced_at (moment_of before)) next);
      keys = All-cons IsMarkedKey one [] marked (All-nil IsMarkedKey);
    };
    last_key = last
        ∙ ap (cond key p) kept
        ∙ last-pushed before.decisions.items one in_order next
        ∙ ap (λ (l : List Decision). last_key l (length l + 1)) (sym grown);
    schedule = subst₂ (λ (n : ℕ) (l : List ℕ). TakesKeys n l before.schedule after.schedule) next (sym (new_keys key)) takes;
    grew = subst (Grew told told_after) (sym (asked_here ∙ append-nil (question mode frames before.decisions.items one))) grew;
    ahead = ahead;
  }
    where
      one : Decision
      one = record { position = p; forced = forced; key = key }

      new_keys : (k : Bool) → map position_of (cond k (one ∷ []) []) ≡ cond k (p ∷ []) []
      new_keys true = refl
      new_keys false = refl

      frames : ℕ → List (Frame T)
      frames = frames_from (moment_of before)

      placed : ArePlaced p (one ∷ [])
      placed = refl

      least : p ≤ p
      least = omega arith

      same_last : last_key after.decisions.items p ≡ last_key before.decisions.items p
      same_last = ap (λ (l : List Decision). last_key l p) grown ∙ last_key-later before.decisions.items (one ∷ []) p p placed least

      asked_here : flat_map (question mode frames after.decisions.items) (one ∷ []) ≡ question mode frames before.decisions.items one ++ []
      asked_here = ap (λ (k : ℕ). cond forced [] (told_ask mode (frames p) p k key ∷ []) ++ []) same_last

  -- and further ones
  pub decided-then : (before between after : SessionState T O) (told then told_after : Option (List (Asked T))) (answers : Option (ℕ → Bool)) (middle last : ℕ) →
      Decided mode before between told then answers middle → Decided mode between after then told_after answers last →
      Decided mode before after told told_after answers last
  decided-then before between after told then told_after answers middle last first second = record {
    others = second.others ∙ ap (λ (s : SessionState T O). let t : SessionState T O = record s { decisions = after.decisions; last_key = after.last_key; schedule = after.schedule } in t) first.others;
    made = first.made ++ second.made;
    decisions = second.decisions ∙ ap (λ (l : List Decision). l ++ second.made) first.decisions
        ∙ append_assoc before.decisions.items first.made second.made;
    count = second.count;
    are = made-append (moment_of before) (length before.decisions.items + 1) first.made second.made first.are
        (record { positions = made_then.positions; forced = made_then.forced; keys = made_then.keys });
    last_key = second.last_key;
    schedule = subst (λ (l : List ℕ). TakesKeys (length before.decisions.items + 1) l before.schedule after.schedule) (sym (keys-append first.made second.made))
        (takes-then (length before.decisions.items + 1) (length between.decisions.items + 1) (key_positions first.made) (key_positions second.made)
        before.schedule between.schedule after.schedule (omega (arith, seam)) first.schedule second.schedule);
    grew = subst (Grew told told_after) (sym asked) (grew-then told then told_after _ _ first.grew grew_then);
    ahead = answered-append answers first.made second.made first.ahead second.ahead;
  }
    where
      frames : ℕ → List (Frame T)
      frames = frames_from (moment_of before)

      seam : length between.decisions.items + 1 ≡ length before.decisions.items + 1 + length first.made
      seam = omega (arith, ap (λ (l : List Decision). length l) first.decisions, length-append before.decisions.items first.made)

      -- the second ones, from the first moment
      made_then : AreMade (moment_of (record before { decisions = between.decisions; last_key = between.last_key; schedule = between.schedule })) (length before.decisions.items + 1 + length first.made) second.made
      made_then = subst (λ (n : ℕ). AreMade (moment_of (record before { decisions = between.decisions; last_key = between.last_key; schedule = between.schedule })) n second.made) seam
          (subst (λ (s : SessionState T O). AreMade (moment_of s) (length between.decisions.items + 1) second.made) first.others second.are)

      grew_then : Grew then told_after (flat_map (question mode frames after.decisions.items) second.made)
      grew_then = subst (λ (s : SessionState T O). Grew then told_after (flat_map (question mode (frames_from (moment_of s)) after.decisions.items) second.made))
          first.others second.grew

      within : (p : ℕ) → p < length before.decisions.items + 1 + length first.made → p ≤ length between.decisions.items + 1
      within p high = omega (arith, seam)

      -- the first ones are asked as before
      as_before : flat_map (question mode frames after.decisions.items) first.made ≡ flat_map (question mode frames between.decisions.items) first.made
      as_before = questions-agree mode frames frames after.decisions.items between.decisions.items first.made (length before.decisions.items + 1)
          first.are.positions (λ p low high. refl)
          (λ p low high. ap (λ (l : List Decision). last_key l p) second.decisions
          ∙ last_key-later between.decisions.items second.made p (length between.decisions.items + 1) second.are.positions (within p high))

      asked : flat_map (question mode frames after.decisions.items) (first.made ++ second.made)
          ≡ flat_map (question mode frames between.decisions.items) first.made ++ flat_map (question mode frames after.decisions.items) second.made
      asked = flat_map-append (question mode frames after.decisions.items) first.made second.made
          ∙ ap (λ (l : List (Asked T)). l ++ flat_map (question mode frames after.decisions.items) second.made) as_before

  -- one more, where the detector's answers stay the same
  pub decided-next : (before now after : SessionState T O) (told then told_after : Option (List (Asked T))) (answers answers_now : Option (ℕ → Bool)) (p : ℕ) →
      Decided mode before now told then answers (length now.decisions.items) → p ≡ length now.decisions.items + 1 → answers_now ≡ answers →
      Decided mode now after then told_after answers_now p →
      Decided mode before after told told_after answers (length after.decisions.items) × (p + 1 ≡ length after.decisions.items + 1)
  decided-next before now after told then told_after answers answers_now p so_far next same decided = (
    subst (Decided mode before after told told_after answers) (sym decided.count)
        (decided-then before now after told then told_after answers (length now.decisions.items) p so_far
        (subst (λ (a : Option (ℕ → Bool)). Decided mode now after then told_after a p) same decided)),
    ap (λ (n : ℕ). n + 1) (sym decided.count),
  )

-- ---- the decisions that a send or a flush makes

-- what a call knows of them: from a moment that is all but the decisions its end's
pub record Made {T O : Type 0} (enc : EncoderConfig) (before middle after : Moment T O) (told told_after : Option (List (Asked T))) (answers : Option (ℕ → Bool)) : Type 0 where
  pub same : after ≡ record middle { decisions = after.decisions }
  pub made : List Decision
  pub decisions : after.decisions ≡ before.decisions ++ made
  pub count : length after.decisions ≡ decided_count (numbers_of enc) middle.accepted middle.flushed
  pub are : AreMade after (length before.decisions + 1) made
  pub grew : Grew told told_after (flat_map (question enc.speed_settings.scene_detection_mode (frames_from after) after.decisions) made)
  pub ahead : AreAnswered answers made

pub made-of : {T O : Type 0} (enc : EncoderConfig) (before middle : Moment T O) (state after : SessionState T O) (told told_after : Option (List (Asked T))) (answers : Option (ℕ → Bool)) (last : ℕ) →
    moment_of state ≡ middle → middle.decisions ≡ before.decisions → last ≡ decided_count (numbers_of enc) middle.accepted middle.flushed →
    Decided enc.speed_settings.scene_detection_mode state after told told_after answers last →
    Made enc before middle (moment_of after) told told_after answers
made-of {T} {O} enc before middle state after told told_after answers last at kept all decided = record {
  same = ap moment_of decided.others ∙ ap (λ (m : Moment T O). let n : Moment T O = record m { decisions = after.decisions.items } in n) at;
  made = decided.made;
  decisions = decided.decisions ∙ ap (λ (l : List Decision). l ++ decided.made) old;
  count = decided.count ∙ all;
  are = record {
    positions = are_then.positions ∙ ap (λ (n : ℕ). range_with_len n (length decided.made)) first;
    forced = are_then.forced ∙ ap (λ (n : ℕ). map (forced_at (moment_of after)) (range_with_len n (length decided.made))) first;
    keys = are_then.keys;
  };
  grew = subst (λ (s : SessionState T O). Grew told told_after (flat_map (question enc.speed_settings.scene_detection_mode (frames_from (moment_of s)) after.decisions.items) decided.made))
      (sym decided.others) decided.grew;
  ahead = decided.ahead;
}
  where
    old : state.decisions.items ≡ before.decisions
    old = ap (λ (m : Moment T O). m.decisions) at ∙ kept

    first : length state.decisions.items + 1 ≡ length before.decisions + 1
    first = ap (λ (l : List Decision). length l + 1) old

    are_then : AreMade (moment_of after) (length state.decisions.items + 1) decided.made
    are_then = subst (λ (s : SessionState T O). AreMade (moment_of s) (length state.decisions.items + 1) decided.made) (sym decided.others)
        (record { positions = decided.are.positions; forced = decided.are.forced; keys = decided.are.keys })

module _ {T O : Type 0} (enc : EncoderConfig) (before middle after : Moment T O) (told told_after : Option (List (Asked T))) (answers : Option (ℕ → Bool))
    (made : Made enc before middle after told told_after answers) where
  new_ones : made_in before after ≡ made.made
  new_ones = ap (drop (length before.decisions)) made.decisions ∙ drop-append_seam before.decisions made.made

  pub made-decides : Decides enc before after
  made-decides = record {
    kept = sym (take-append_seam before.decisions made.made) ∙ ap (take (length before.decisions)) (sym made.decisions);
    count = made.count ∙ ap (λ (m : Moment T O). decided_count (numbers_of enc) m.accepted m.flushed) (sym made.same);
    made = subst (λ (new : List Decision). AreMade after (length before.decisions + 1) new) (sym new_ones) made.are;
  }

  -- all decisions are the first so many of themselves
  pub made-all : after ≡ record middle { decisions = decisions_at (numbers_of enc) after.decisions middle.accepted middle.flushed }
  made-all =
      let whole : after.decisions ≡ decisions_at (numbers_of enc) after.decisions middle.accepted middle.flushed =
      sym (take-length after.decisions) ∙ ap (λ (n : ℕ). take n after.decisions) made.count in
      made.same ∙ ap (λ (l : List Decision). let m : Moment T O = record middle { decisions = l } in m) whole

  pub made-asked : IsAskedIn enc before after told told_after answers
  made-asked = record {
    grew = subst (λ (new : List Decision). Grew told told_after (flat_map (question enc.speed_settings.scene_detection_mode (frames_from after) after.decisions) new)) (sym new_ones) made.grew;
    ahead = subst (AreAnswered answers) (sym new_ones) made.ahead;
  }

-- where nothing is decided nobody is asked
pub asked-none : {T O : Type 0} (enc : EncoderConfig) (before after : Moment T O) (told : Option (List (Asked T))) (answers : Option (ℕ → Bool)) →
    after.decisions ≡ before.decisions → IsAskedIn enc before after told told answers
asked-none {T} enc before after told answers same = record {
  grew = subst (λ (new : List Decision). Grew told told (flat_map (question enc.speed_settings.scene_detection_mode (frames_from after) after.decisions) new)) (sym none) (grew-none told);
  ahead = subst (AreAnswered answers) (sym none) (answered-none answers);
}
  where
    none : made_in before after ≡ []
    none = ap (drop (length before.decisions)) same ∙ drop-length before.decisions

-- ---- what a detector is handed

abbrev pub waiting_picture : {T O : Type 0} → WaitingFrame T O → Frame T
waiting_picture one = one.picture.value

-- the frames that are put together, from the one of an index on
pub frames-next : {T O : Type 0} (items : List (WaitingFrame T O)) (first index : ℕ) (one : WaitingFrame T O) (frames : List (Frame T)) →
    index < length items → one ≡ get_or items index one →
    frames ++ map waiting_picture (drop index items) ≡ map waiting_picture (drop first items) →
    (frames ++ one.picture.value ∷ []) ++ map waiting_picture (drop (index + 1) items) ≡ map waiting_picture (drop first items)
frames-next {T} {O} items first index one frames within read so_far =
    append_assoc frames (one.picture.value ∷ []) (map waiting_picture (drop (index + 1) items))
    ∙ ap (λ (l : List (Frame T)). frames ++ l) (sym next) ∙ so_far
  where
    next : map waiting_picture (drop index items) ≡ one.picture.value ∷ map waiting_picture (drop (index + 1) items)
    next = ap (map waiting_picture) (drop_more items index one within)
        ∙ ap (λ (w : WaitingFrame T O). waiting_picture w ∷ map waiting_picture (drop (index + 1) items)) (sym read)

-- they are those that wait at the moment
pub frames-all : {T O : Type 0} (state : SessionState T O) (position first index : ℕ) (frames : List (Frame T)) →
    first ≡ position - 1 - state.packets → length state.waiting.items ≤ index →
    frames ++ map waiting_picture (drop index state.waiting.items) ≡ map waiting_picture (drop first state.waiting.items) →
    frames ≡ frames_from (moment_of state) position
frames-all {T} {O} state position first index frames at done all =
    sym (append-nil frames)
    ∙ ap (λ (l : List (WaitingFrame T O)). frames ++ map waiting_picture l) (sym (drop_all index state.waiting.items done))
    ∙ all
    ∙ ap (λ (n : ℕ). map waiting_picture (drop n state.waiting.items)) at
    ∙ sym (ap (map (λ (w : Waiting T O). w.frame.picture)) (drop-map waiting_of (position - 1 - state.packets) state.waiting.items)
    ∙ map-map (λ (w : Waiting T O). w.frame.picture) waiting_of (drop (position - 1 - state.packets) state.waiting.items))

-- ---- one question

module _ {T O : Type 0} (mode : SceneDetectionSpeed) (state : SessionState T O) (p : ℕ) (forced : Bool) where
  abbrev asked_of : Bool → List (Asked T)
  asked_of key = question mode (frames_from (moment_of state)) state.decisions.items (record { position = p; forced = forced; key = key })

  -- nothing is asked where the frame was sent as a key frame
  pub forced-asks : (told : Option (List (Asked T))) (key : Bool) → forced ≡ true → Grew told told (asked_of key)
  forced-asks told key is = subst (Grew told told) (sym none) (grew-none told)
    where
      none : asked_of key ≡ []
      none = ap (λ (b : Bool). cond b [] (told_ask mode (frames_from (moment_of state) p) p (last_key state.decisions.items p) key ∷ [])) is

  pub forced-answered : (answers : Option (ℕ → Bool)) (key : Bool) → forced ≡ true → AreAnswered answers (record { position = p; forced = forced; key = key } ∷ [])
  forced-answered None key is = tt
  forced-answered (Some at) key is =
      answered-one (Some at) (record { position = p; forced = forced; key = key }) (λ e. absurd (false≢true (sym e ∙ is)))

  -- of any other frame this question
  pub unforced-asks : {E : Type 0} (told then : Option (List (Asked T))) (result : Result Bool E) (frames : List (Frame T)) (last : ℕ) → forced ≡ false →
      frames ≡ frames_from (moment_of state) p → last ≡ last_key state.decisions.items p → GrowsBy told then result (told_ask mode frames p last) →
      IfOk result (λ key. Grew told then (asked_of key))
  unforced-asks told then result frames last is same same_last grew = grows-ok told then result (told_ask mode frames p last) asked_of one grew
    where
      one : (key : Bool) → told_ask mode frames p last key ∷ [] ≡ asked_of key
      one key =
          ap₂ (λ (f : List (Frame T)) (k : ℕ). told_ask mode f p k key ∷ []) same same_last
          ∙ sym (ap (λ (b : Bool). cond b [] (told_ask mode (frames_from (moment_of state) p) p (last_key state.decisions.items p) key ∷ [])) is)

  pub unforced-answered : {E : Type 0} (answers : Option (ℕ → Bool)) (result : Result Bool E) →
      IfOk result (λ answer. IfSome answers (λ at. answer ≡ at p)) →
      IfOk result (λ key. AreAnswered answers (record { position = p; forced = forced; key = key } ∷ []))
  unforced-answered answers (Err e) is = tt
  unforced-answered None (Ok key) is = tt
  unforced-answered (Some at) (Ok key) is = answered-one (Some at) (record { position = p; forced = forced; key = key }) (λ e. is)

  pub unforced-key : {E : Type 0} (result : Result Bool E) → forced ≡ false → IfOk result (λ key. IsTrue forced → IsTrue key)
  unforced-key (Ok key) is = λ h. absurd (false≢true (sym is ∙ h))
  unforced-key (Err e) is = tt
