-- The reservoir after a list of frames.
use Rattle.std.proofs.Common.{◌≡◌, ◌-◌, Bool, true, false, cond, not, nat_lt, List, [], ◌∷◌, map, refl, ap, sym, ◌∙◌, arith, subst, int_lt, ℤ, pos, negsuc, ◌+ℤ◌, ◌-ℤ◌, ◌≤ℤ◌}
use Rattle.std.specs.List.{fold, filter}
use Rattle.std.proofs.lemmas.Int.{ints, clamps}
use Rattle.ratecontrol.specs.Rate.{Rate}
use Rattle.rate_model.specs.Measure.{Entry}
use Rattle.reservoir.specs.Moves.{FAR, not_far, reservoir_after}
use Rattle.ratecontrol.specs.Update.{update, after, after_with_data, after_frame, after_show, with_subtype, charged, estimate}
use Rattle.ratecontrol.specs.Log.{IsFrame, AllFrames, spent, HasRoom, after_all, is_real, change, reservoir_after_all}
use Rattle.ratecontrol.proofs.LedgerLaws.{capped, capped_is_ledger}
use Rattle.ratecontrol.proofs.LogLaws.{settled, updated}

pub spent_positive : (es : List Entry) → AllFrames es → pos 0 ≤ℤ spent es
spent_positive [] all = omega (arith, ints)
spent_positive (e ∷ es) all =
    let rest = spent_positive es all.1 in
    let own = all.0.bits in
    elim e.trial as (λ b. pos 0 ≤ℤ (cond b (pos 0) e.bits +ℤ spent es)) [ true ↦ omega (arith, ints) | false ↦ omega (arith, ints) ]

pub not_far_is : (z : ℤ) → negsuc (FAR - 1) ≤ℤ z → z ≤ℤ pos FAR → not_far z ≡ z
not_far_is z low high = omega (arith, ints, clamps)

-- the reservoir after a real frame, and after a trial
real_frame : (e : Entry) (rate : Rate) → e.trial ≡ false → (after e rate).reservoir ≡ not_far (reservoir_after rate.bits_per_tu rate.most e.bits e.shown rate.reservoir)
unfolding after_frame after_show
real_frame e rate real = elim (nat_lt e.subtype 4) as (λ b. (cond b (after_frame e rate) (after_show e rate)).reservoir ≡ not_far (reservoir_after rate.bits_per_tu rate.most e.bits e.shown rate.reservoir)) [
  | true ↦ ap (λ b. (cond b (with_subtype e rate) (charged (estimate rate e) e.bits e.shown (with_subtype e rate))).reservoir) real
  | false ↦ refl
]

trial_frame : (e : Entry) (rate : Rate) → e.trial ≡ true → nat_lt e.subtype 4 ≡ true → (after e rate).reservoir ≡ rate.reservoir
unfolding after_frame
trial_frame e rate trial coded =
    ap (λ b. (cond b (after_frame e rate) (after_show e rate)).reservoir) coded
    ∙ ap (λ b. (cond b (with_subtype e rate) (charged (estimate rate e) e.bits e.shown (with_subtype e rate))).reservoir) trial

same_change : (bits_per_tu most bits r : ℤ) (shown : Bool) → reservoir_after bits_per_tu most bits shown r ≡ capped most r (cond shown bits_per_tu (pos 0) -ℤ bits)
same_change bits_per_tu most bits r true = omega (arith, ints, clamps)
same_change bits_per_tu most bits r false = omega (arith, ints, clamps)

abbrev changes : ℤ → List Entry → List ℤ
changes bits_per_tu es = map (change bits_per_tu) (filter is_real es)

abbrev over : ℤ → ℤ → ℤ → List Entry → ℤ
over most bits_per_tu r es = fold (capped most) r (changes bits_per_tu es)

-- what the next reservoir is, without its clamp
abbrev next_reservoir : Rate → Entry → ℤ
next_reservoir rate e = capped rate.most rate.reservoir (change rate.bits_per_tu e)

pub by_trial : {P : Type 0} (b : Bool) → (b ≡ true → P) → (b ≡ false → P) → P
by_trial true f g = f refl
by_trial false f g = g refl

low_end : (z rest : ℤ) → pos 0 ≤ℤ rest → rest ≤ℤ (z +ℤ pos FAR) → negsuc (FAR - 1) ≤ℤ z
low_end z rest p h = omega (arith, ints)

high_end : (z most : ℤ) → z ≤ℤ most → most ≤ℤ pos FAR → z ≤ℤ pos FAR
high_end z most h k = omega (arith, ints)

same_room : (rest r : ℤ) → (pos 0 +ℤ rest) ≤ℤ (r +ℤ pos FAR) → rest ≤ℤ (r +ℤ pos FAR)
same_room rest r h = omega (arith, ints)

room_left : (r most x bits rest : ℤ) → pos 0 ≤ℤ x → pos 0 ≤ℤ bits → r ≤ℤ most → (bits +ℤ rest) ≤ℤ (r +ℤ pos FAR) → rest ≤ℤ (capped most r (x -ℤ bits) +ℤ pos FAR)
room_left r most x bits rest p q full room = omega (arith, ints, clamps)

capped_most : (r most x : ℤ) → capped most r x ≤ℤ most
capped_most r most x = omega (arith, ints, clamps)

refill_positive : (shown : Bool) (bits_per_tu : ℤ) → pos 0 ≤ℤ bits_per_tu → pos 0 ≤ℤ cond shown bits_per_tu (pos 0)
refill_positive true bits_per_tu h = h
refill_positive false bits_per_tu h = omega (arith, ints)

-- the state after the first frame has room for the others
room_next : (rate : Rate) (e : Entry) (es : List Entry) (r : ℤ) → (update e rate).reservoir ≡ r → r ≤ℤ rate.most → spent es ≤ℤ (r +ℤ pos FAR) → HasRoom rate (e ∷ es) → HasRoom (update e rate) es
room_next rate e es r is full room h =
    let s = settled e rate in
    record {
      controlled = ap (int_lt (pos 0)) s.bitrate ∙ h.controlled;
      bits_per_tu = subst (λ z. pos 0 ≤ℤ z) (sym s.bits_per_tu) h.bits_per_tu;
      full = subst (λ z. (update e rate).reservoir ≤ℤ z) (sym s.most) (subst (λ z. z ≤ℤ rate.most) (sym is) full);
      most = subst (λ z. z ≤ℤ pos FAR) (sym s.most) h.most;
      room = subst (λ z. spent es ≤ℤ (z +ℤ pos FAR)) (sym is) room;
    }

-- and goes on with the same settings
goes_on : (rate : Rate) (e : Entry) (es : List Entry) (r : ℤ) → (update e rate).reservoir ≡ r
    → over (update e rate).most (update e rate).bits_per_tu (update e rate).reservoir es ≡ over rate.most rate.bits_per_tu r es
goes_on rate e es r is =
    let s = settled e rate in
    ap (λ m. over m (update e rate).bits_per_tu (update e rate).reservoir es) s.most
    ∙ (ap (λ b. over rate.most b (update e rate).reservoir es) s.bits_per_tu
    ∙ ap (λ z. over rate.most rate.bits_per_tu z es) is)

real_is : (rate : Rate) (e : Entry) (es : List Entry) → IsFrame e → AllFrames es → e.trial ≡ false → HasRoom rate (e ∷ es)
    → ((update e rate).reservoir ≡ next_reservoir rate e) × (spent es ≤ℤ (next_reservoir rate e +ℤ pos FAR)) × (next_reservoir rate e ≤ℤ rate.most)
real_is rate e es frame all real h =
    let refill = refill_positive e.shown rate.bits_per_tu h.bits_per_tu in
    let spends : spent (e ∷ es) ≡ e.bits +ℤ spent es = ap (λ b. cond b (pos 0) e.bits +ℤ spent es) real in
    let room = rw spends at h.room in
    let left = room_left rate.reservoir rate.most (cond e.shown rate.bits_per_tu (pos 0)) e.bits (spent es) refill frame.bits h.full room in
    let top = capped_most rate.reservoir rate.most (change rate.bits_per_tu e) in
    let rest = spent_positive es all in
    let most = h.most in
    let near : not_far (next_reservoir rate e) ≡ next_reservoir rate e = not_far_is (next_reservoir rate e) (low_end (next_reservoir rate e) (spent es) rest left) (high_end (next_reservoir rate e) rate.most top most) in
    let first : update e rate ≡ after_with_data e rate = updated e rate h.controlled in
    (ap (λ (r : Rate). r.reservoir) first ∙ (real_frame e rate real ∙ (ap not_far (same_change rate.bits_per_tu rate.most e.bits rate.reservoir e.shown) ∙ near)), left, top)

pub reservoir_folds : (rate : Rate) (es : List Entry) → AllFrames es → HasRoom rate es → (after_all rate es).reservoir ≡ over rate.most rate.bits_per_tu rate.reservoir es
reservoir_folds rate [] all h = refl
reservoir_folds rate (e ∷ es) all h =
    by_trial e.trial
    (λ trial.
    let first : update e rate ≡ after_with_data e rate = updated e rate h.controlled in
    let is : (update e rate).reservoir ≡ rate.reservoir = ap (λ (r : Rate). r.reservoir) first ∙ trial_frame e rate trial (all.0.trial trial) in
    let spends : spent (e ∷ es) ≡ pos 0 +ℤ spent es = ap (λ b. cond b (pos 0) e.bits +ℤ spent es) trial in
    let room = same_room (spent es) (rate.reservoir) (rw spends at h.room) in
    let dropped : over rate.most rate.bits_per_tu rate.reservoir (e ∷ es) ≡ over rate.most rate.bits_per_tu rate.reservoir es =
    ap (λ b. fold (capped rate.most) rate.reservoir (map (change rate.bits_per_tu) (cond (not b) (e ∷ filter is_real es) (filter is_real es)))) trial in
    reservoir_folds (update e rate) es all.1 (room_next rate e es rate.reservoir is h.full room h)
    ∙ (goes_on rate e es rate.reservoir is ∙ sym dropped))
    (λ real.
    let facts = real_is rate e es all.0 all.1 real h in
    let kept : over rate.most rate.bits_per_tu rate.reservoir (e ∷ es) ≡ over rate.most rate.bits_per_tu (next_reservoir rate e) es =
    ap (λ b. fold (capped rate.most) rate.reservoir (map (change rate.bits_per_tu) (cond (not b) (e ∷ filter is_real es) (filter is_real es)))) real in
    reservoir_folds (update e rate) es all.1 (room_next rate e es (next_reservoir rate e) facts.0 facts.2 facts.1 h)
    ∙ (goes_on rate e es (next_reservoir rate e) facts.0 ∙ sym kept))

pub reservoir_is_ledger : (rate : Rate) (es : List Entry) → AllFrames es → HasRoom rate es → (after_all rate es).reservoir ≡ reservoir_after_all rate es
reservoir_is_ledger rate es all h = reservoir_folds rate es all h ∙ capped_is_ledger rate.most rate.reservoir (changes rate.bits_per_tu es)
