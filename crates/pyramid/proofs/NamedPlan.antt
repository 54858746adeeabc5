-- What the references of a plan's commands name.
use Rattle.std.proofs.Common.{◌≡◌, ℕ, ◌+◌, ◌-◌, ◌*◌, ◌%◌, ◌^◌, ◌<◌, ◌≤◌, max, Bool, true, false, cond, ◌⊎◌, List, [], ◌∷◌, ◌++◌, length as size, take, Some, refl, sym, ap, ◌∙◌, subst, inl, inr, append_assoc, append-nil, arith, zero, suc}
use Rattle.std.specs.List.{flat_map, slice_get}
use Rattle.std.proofs.lemmas.Bool.{cases_lt, false≢true}
use Rattle.av1_settings.specs.declared.encoder.EncoderConfig.{EncoderConfig}
use Rattle.av1_settings.specs.declared.frame_type.FrameType.{FrameType}
use Rattle.av1_settings.specs.declared.frame_type.FrameType.TheVariants.{KEY}
use Rattle.pyramid.specs.declared.command.Command.{Command}
use Rattle.pyramid.specs.declared.command.Command.TheVariants.{Code}
use Rattle.pyramid.specs.Display.{empty_slots, held, refreshed, slots_after}
use Rattle.pyramid.specs.Gop.{group, groups, group_count, gop}
use Rattle.pyramid.specs.NamedPositions.{is_key, is_full, last_key, NamesRight, SwitchesInOrder}
use Rattle.pyramid.specs.Numbers.{Numbers}
use Rattle.pyramid.specs.Plan.{start_after, starts_from, gop_at, plan}
use Rattle.pyramid.specs.RowCommand.{key_of}
use Rattle.pyramid.specs.Rows.{HasTable}
use Rattle.pyramid.specs.Settings.{numbers_of}
use Rattle.pyramid.proofs.Bits.{every_bit}
use Rattle.pyramid.proofs.Current.{Holds, key-holds}
use Rattle.pyramid.proofs.DepthFacts.{shallow}
use Rattle.pyramid.proofs.Machine.{IsFull, held-refreshed, slots_after-append}
use Rattle.pyramid.proofs.NamedGroups.{RightAt, At, group-step}
use Rattle.pyramid.proofs.NamedSteps.{Each, each-append, each-at, last_of-append, length-after}
use Rattle.pyramid.proofs.PlanSteps.{start_after-later, starts_from-done, starts_from-one}
use Rattle.pyramid.proofs.Replay.{key-fills}
use Rattle.pyramid.proofs.RowReplay.{knows-none}

module _ (numbers : Numbers) (has : HasTable numbers.depth) (switches : SwitchesInOrder numbers) (next_of : ℕ → ℕ) (start length : ℕ) (some : 1 ≤ length) (end : next_of start ≡ start + length) where
  -- behind its key a GOP has the key in every slot
  key-at : (before : List Command) → At numbers start length 0 0 [] (before ++ key_of start ∷ [])
  key-at before =
      let slots = slots_after empty_slots before in
      let eight : size slots ≡ 8 = length-after empty_slots before in
      let after = refreshed 255 start slots in
      let more : slots_after empty_slots (before ++ key_of start ∷ []) ≡ after = slots_after-append empty_slots before (key_of start ∷ []) in
      let every : (slot : ℕ) → slot < 8 → held (slots_after empty_slots (before ++ key_of start ∷ [])) slot ≡ Some start = λ slot low.
      ap (λ s. held s slot) more ∙ held-refreshed 255 start slots slot (omega (arith, eight)) ∙ ap (λ (b : Bool). cond b (Some start) (held slots slot)) (every_bit slot low) in
      let none : start ≡ start + 0 = omega arith in
      record {
        key = last_of-append is_key 0 before (key_of start ∷ []);
        last = last_of-append is_full 0 before (key_of start ∷ []) ∙ none;
        early = omega arith;
        filled = subst IsFull (sym more) (key-fills start slots eight);
        hold = subst (λ s. Holds s start (start + length)) (sym more) (key-holds slots start length eight some);
        behind = record {
          zeroth = λ back low.
              let first : 2 ^ numbers.depth * (0 - back) ≡ 0 = let e : 0 - back ≡ 0 = omega arith in ap (λ (n : ℕ). 2 ^ numbers.depth * n) e ∙ omega arith in
              every ((0 + 4 - back) % 4) (omega arith) ∙ ap Some (let e : start ≡ start + max (2 ^ numbers.depth * (0 - back)) 0 = omega (arith, first) in e);
          above = λ level low most unseen.
              every (3 + level) (omega (arith, most, shallow numbers.depth has)) ∙ ap Some (let e : start ≡ start + max (2 ^ numbers.depth * 0 - 2 ^ (numbers.depth - level)) 0 = omega arith in e);
        };
        knows = knows-none start (2 ^ numbers.depth * 0) 0 (slots_after empty_slots (before ++ key_of start ∷ []));
      }

  groups-walk : (before : List Command) (count : ℕ) → count ≤ group_count numbers length → Each (RightAt numbers next_of) (before ++ key_of start ∷ []) (groups numbers start length count) × (count < group_count numbers length → (full : ℕ) × At numbers start length count full [] ((before ++ key_of start ∷ []) ++ groups numbers start length count))
  groups-walk before zero most =
      (tt, λ there. (0, subst (At numbers start length 0 0 []) (sym (append-nil (before ++ key_of start ∷ []))) (key-at before)))
  groups-walk before (suc count) most =
      let behind_key = before ++ key_of start ∷ [] in
      let earlier = groups numbers start length count in
      let here = group numbers start length count in
      let so_far = groups-walk before count (omega arith) in
      let at = so_far.1 (omega arith) in
      let step = group-step numbers has start length count next_of at.0 (behind_key ++ earlier) switches (omega arith) end at.1 in (
        each-append (RightAt numbers next_of) behind_key earlier here so_far.0 step.0,
        λ there.
            let next = step.1 there in
            (next.0, subst (At numbers start length (suc count) next.0 []) (append_assoc behind_key earlier here) next.1),
      )

  pub gop-right : (before : List Command) → Each (RightAt numbers next_of) before (gop numbers start length)
  gop-right before =
      let never : (KEY ≡ KEY → ⊥) → NamesRight numbers (next_of (last_key before)) before start [] = λ other. absurd (other refl) in
      (never, (groups-walk before (group_count numbers length) (omega arith)).0)

starts-right : (numbers : Numbers) (interval frames : ℕ) (keys : List ℕ) → HasTable numbers.depth → SwitchesInOrder numbers → 1 ≤ interval → (count start : ℕ) (before : List Command) → Each (RightAt numbers (start_after interval frames keys)) before (flat_map (gop_at numbers interval frames keys) (starts_from interval frames keys count start))
starts-right numbers interval frames keys has switches some zero start before = tt
starts-right numbers interval frames keys has switches some (suc count) start before =
    let next_of = start_after interval frames keys in
    let P : List ℕ → Type 0 = λ starts. Each (RightAt numbers next_of) before (flat_map (gop_at numbers interval frames keys) starts) in
    elim (cases_lt start frames) [
      | inl inside ↦
          let next = next_of start in
          let later = start_after-later interval frames keys start some inside in
          let one = gop numbers start (next - start) in
          let here = gop-right numbers has switches next_of start (next - start) (omega arith) (omega arith) before in
          let rest = starts-right numbers interval frames keys has switches some count next (before ++ one) in
          subst P (sym (starts_from-one interval frames keys count start inside)) (each-append (RightAt numbers next_of) before one (flat_map (gop_at numbers interval frames keys) (starts_from interval frames keys count next)) here rest)
      | inr past ↦
          let nothing : P [] = tt in
          subst P (sym (starts_from-done interval frames keys (suc count) start past)) nothing
    ]

pub plan-names : (numbers : Numbers) (interval frames : ℕ) (keys : List ℕ) → HasTable numbers.depth → SwitchesInOrder numbers → 1 ≤ interval → (k frame : ℕ) (kind : FrameType) (refs : List ℕ) (refresh : ℕ) (visible : Bool) → slice_get (plan numbers interval frames keys) k ≡ Some (Code frame kind refs refresh visible) → (kind ≡ KEY → ⊥) → NamesRight numbers (start_after interval frames keys (last_key (take k (plan numbers interval frames keys)))) (take k (plan numbers interval frames keys)) frame refs
plan-names numbers interval frames keys has switches some k frame kind refs refresh visible is other =
    each-at (RightAt numbers (start_after interval frames keys)) [] (plan numbers interval frames keys) k (Code frame kind refs refresh visible) (starts-right numbers interval frames keys has switches some frames 0 []) is other

either-switch : (low : Bool) (interval : ℕ) → (1 ≤ interval → low ≡ true) → (interval ≡ 0) ⊎ (2 ^ cond low 0 2 ≡ 1)
either-switch true interval low = inr refl
either-switch false interval low =
    elim (cases_lt 0 interval) [ inl some ↦ absurd (false≢true (low some)) | inr none ↦ inl (omega arith) ]

pub settings-switch : (enc : EncoderConfig) → (1 ≤ enc.switch_frame_interval → enc.low_latency ≡ true) → SwitchesInOrder (numbers_of enc)
settings-switch enc low = either-switch enc.low_latency enc.switch_frame_interval low
