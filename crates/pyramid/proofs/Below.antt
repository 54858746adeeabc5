-- A plan codes frames of its own alone.
use Rattle.std.proofs.Common.{◌≡◌, ℕ, zero, suc, ◌+◌, ◌-◌, ◌<◌, ◌≤◌, Bool, true, false, cond, ltb, inl, inr, List, [], ◌∷◌, ◌++◌, map, Some, refl, sym, subst, arith}
use Rattle.std.specs.List.{filter, flat_map, slice_get}
use Rattle.std.proofs.lemmas.Bool.{cases_lt, ltb-true}
use Rattle.std.proofs.lemmas.Option.{none-some, same_Some}
use Rattle.av1_settings.specs.declared.frame_type.FrameType.{FrameType}
use Rattle.pyramid.specs.declared.command.Command.{Command}
use Rattle.pyramid.specs.declared.command.Command.TheVariants.{Code, Show}
use Rattle.pyramid.specs.declared.rows.Row.{Row}
use Rattle.pyramid.specs.RowCommand.{code_of, command_of}
use Rattle.pyramid.specs.Gop.{group, groups, group_count, gop}
use Rattle.pyramid.specs.Numbers.{Numbers}
use Rattle.pyramid.specs.Levels.{slot_of}
use Rattle.pyramid.specs.Positions.{row_position}
use Rattle.pyramid.specs.Rows.{rows}
use Rattle.pyramid.specs.Plan.{start_after, starts_from, gop_at, plan}
use Rattle.pyramid.proofs.PlanSteps.{start_after-later, start_after-within, starts_from-done, starts_from-one}

-- a frame that is coded is below `high`
abbrev IsBelow : ℕ → Command → Type 0
IsBelow high (Code frame kind refs refresh shown) = frame < high
IsBelow high (Show slot) = Unit {0}

abbrev AllBelow : ℕ → List Command → Type 0
AllBelow high [] = Unit {0}
AllBelow high (command ∷ commands) = IsBelow high command × AllBelow high commands

below_at : (high : ℕ) (commands : List Command) (k frame : ℕ) (kind : FrameType) (refs : List ℕ) (refresh : ℕ) (shown : Bool) → AllBelow high commands → slice_get commands k ≡ Some (Code frame kind refs refresh shown) → frame < high
below_at high [] k frame kind refs refresh shown all is = absurd (none-some (Code frame kind refs refresh shown) is)
below_at high (command ∷ commands) zero frame kind refs refresh shown all is =
    subst (IsBelow high) (same_Some command (Code frame kind refs refresh shown) is) all.0
below_at high (command ∷ commands) (suc k) frame kind refs refresh shown all is = below_at high commands k frame kind refs refresh shown all.1 is

below-append : (high : ℕ) (xs ys : List Command) → AllBelow high xs → AllBelow high ys → AllBelow high (xs ++ ys)
below-append high [] ys a b = b
below-append high (x ∷ xs) ys a b = (a.0, below-append high xs ys a.1 b)

below_rows : (high : ℕ) (f : Row → Command) (p : Row → Bool) (rows : List Row) → ((r : Row) → p r ≡ true → IsBelow high (f r)) → AllBelow high (map f (filter p rows))
below_rows high f p [] each = tt
below_rows high f p (r ∷ rows) each = by_test (p r) (each r) (below_rows high f p rows each)
  where
    by_test : (t : Bool) → (t ≡ true → IsBelow high (f r)) → AllBelow high (map f (filter p rows)) → AllBelow high (map f (cond t (r ∷ filter p rows) (filter p rows)))
    by_test true here rest = (here refl, rest)
    by_test false here rest = rest

below_group : (numbers : Numbers) (start length number : ℕ) → AllBelow (start + length) (group numbers start length number)
below_group numbers start length number =
    below_rows (start + length) (command_of numbers start number) (λ r. ltb (row_position numbers number r) length) (rows numbers.depth)
    (λ r e. either r.existing r (ltb-true (row_position numbers number r) length e))
  where
    either : (t : Bool) (r : Row) → row_position numbers number r < length → IsBelow (start + length) (cond t (Show (slot_of numbers.depth (row_position numbers number r))) (code_of numbers start number r))
    either true r below = tt
    either false r below = omega arith

below_groups : (numbers : Numbers) (start length count : ℕ) → AllBelow (start + length) (groups numbers start length count)
below_groups numbers start length zero = tt
below_groups numbers start length (suc count) =
    below-append (start + length) (groups numbers start length count) (group numbers start length count) (below_groups numbers start length count) (below_group numbers start length count)

below_one : (low high : ℕ) (command : Command) → low ≤ high → IsBelow low command → IsBelow high command
below_one low high (Code frame kind refs refresh shown) h below = omega arith
below_one low high (Show slot) h below = tt

below_higher : (low high : ℕ) (commands : List Command) → low ≤ high → AllBelow low commands → AllBelow high commands
below_higher low high [] h all = tt
below_higher low high (command ∷ commands) h all = (below_one low high command h all.0, below_higher low high commands h all.1)

below_gop : (numbers : Numbers) (start next frames : ℕ) → start < next → next ≤ frames → AllBelow frames (gop numbers start (next - start))
below_gop numbers start next frames later within =
    (omega arith, below_higher (start + (next - start)) frames (groups numbers start (next - start) (group_count numbers (next - start))) (omega arith) (below_groups numbers start (next - start) (group_count numbers (next - start))))

below_starts : (numbers : Numbers) (interval frames : ℕ) (keys : List ℕ) → 1 ≤ interval → (count start : ℕ) → AllBelow frames (flat_map (gop_at numbers interval frames keys) (starts_from interval frames keys count start))
below_starts numbers interval frames keys some zero start = tt
below_starts numbers interval frames keys some (suc count) start = elim (cases_lt start frames) [
  | inl more ↦
      let next = start_after interval frames keys start in
      subst (λ (starts : List ℕ). AllBelow frames (flat_map (gop_at numbers interval frames keys) starts)) (sym (starts_from-one interval frames keys count start more))
      (below-append frames (gop_at numbers interval frames keys start) (flat_map (gop_at numbers interval frames keys) (starts_from interval frames keys count next))
      (below_gop numbers start next frames (start_after-later interval frames keys start some more) (start_after-within interval frames keys start))
      (below_starts numbers interval frames keys some count next))
  | inr done ↦
      subst (λ (starts : List ℕ). AllBelow frames (flat_map (gop_at numbers interval frames keys) starts)) (sym (starts_from-done interval frames keys (suc count) start done)) tt
]

-- a plan codes accepted frames alone
pub plan-below : (numbers : Numbers) (interval frames : ℕ) (keys : List ℕ) → 1 ≤ interval → (k frame : ℕ) (kind : FrameType) (refs : List ℕ) (refresh : ℕ) (shown : Bool) → slice_get (plan numbers interval frames keys) k ≡ Some (Code frame kind refs refresh shown) → frame < frames
plan-below numbers interval frames keys some k frame kind refs refresh shown is =
    below_at frames (plan numbers interval frames keys) k frame kind refs refresh shown (below_starts numbers interval frames keys some frames 0) is
