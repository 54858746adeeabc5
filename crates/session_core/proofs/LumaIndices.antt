-- The luma indices with which frames were coded, among the entries for good.
use Rattle.std.proofs.Common.{◌≡◌, ℕ, Bool, true, false, cond, ◌||◌, List, [], ◌∷◌, ◌++◌, map, Option, Some, None, option_map, refl, sym, ap, ◌∙◌}
use Rattle.std.specs.List.{find}
use Rattle.std.specs.Option.{option_map_or, option_or}
use Rattle.std.proofs.lemmas.Bool.{false≢true}
use Rattle.std.proofs.lemmas.List.Folds.{find-append}
use Rattle.pyramid.specs.Display.{codes}
use Rattle.session_log.specs.declared.entry.LogEntry.{LogEntry}
use Rattle.session_core.specs.Sessions.{coded_qp}
use Rattle.session_core.specs.Turns.{luma_index}
use Rattle.session_core.proofs.PlanFronts.{has_code}

-- the entry that codes a frame
abbrev pub coded_entry : List LogEntry → ℕ → Option LogEntry
coded_entry entries number = find (λ (entry : LogEntry). codes number entry.command) entries

-- the index with which a frame was coded, and none where it isn't coded
abbrev pub qp_of : List LogEntry → ℕ → Option ℕ
qp_of entries number = option_map (λ (entry : LogEntry). luma_index entry.quant) (coded_entry entries number)

or-none : {A : Type 0} (o : Option A) → option_or o None ≡ o
or-none None = refl
or-none (Some x) = refl

pushed : (entries : List LogEntry) (entry : LogEntry) (number : ℕ) (t : Bool) → codes number entry.command ≡ t →
    coded_entry (entries ++ entry ∷ []) number ≡ option_or (coded_entry entries number) (cond t (Some entry) None)
pushed entries entry number t is =
    find-append (λ (one : LogEntry). codes number one.command) entries (entry ∷ [])
    ∙ ap (λ (b : Bool). option_or (coded_entry entries number) (cond b (Some entry) None)) is

not-found : (entries : List LogEntry) (number : ℕ) → has_code (map (λ (entry : LogEntry). entry.command) entries) number ≡ false → coded_entry entries number ≡ None
not-found [] number h = refl
not-found (first ∷ entries) number h = by_test (codes number first.command) h (not-found entries number)
  where
    by_test : (t : Bool) → (t || has_code (map (λ (entry : LogEntry). entry.command) entries) number) ≡ false →
        (has_code (map (λ (entry : LogEntry). entry.command) entries) number ≡ false → coded_entry entries number ≡ None) →
        cond t (Some first) (coded_entry entries number) ≡ None
    by_test true e later = absurd (false≢true (sym e))
    by_test false e later = later e

found : (entries : List LogEntry) (number : ℕ) → has_code (map (λ (entry : LogEntry). entry.command) entries) number ≡ true →
    (entry : LogEntry) × (coded_entry entries number ≡ Some entry)
found [] number h = absurd (false≢true h)
found (first ∷ entries) number h = by_test (codes number first.command) h (found entries number)
  where
    by_test : (t : Bool) → (t || has_code (map (λ (entry : LogEntry). entry.command) entries) number) ≡ true →
        (has_code (map (λ (entry : LogEntry). entry.command) entries) number ≡ true → (entry : LogEntry) × (coded_entry entries number ≡ Some entry)) →
        (entry : LogEntry) × (cond t (Some first) (coded_entry entries number) ≡ Some entry)
    by_test true e later = (first, refl)
    by_test false e later = later e

-- one more entry leaves the indices of the frames that it doesn't code
pub qp_of-other : (entries : List LogEntry) (entry : LogEntry) (number : ℕ) → codes number entry.command ≡ false → qp_of (entries ++ entry ∷ []) number ≡ qp_of entries number
qp_of-other entries entry number h =
    ap (option_map (λ (one : LogEntry). luma_index one.quant)) (pushed entries entry number false h ∙ or-none (coded_entry entries number))

-- a frame that wasn't coded has the index that it is coded with
pub qp_of-last : (entries : List LogEntry) (entry : LogEntry) (number : ℕ) → has_code (map (λ (one : LogEntry). one.command) entries) number ≡ false →
    codes number entry.command ≡ true → qp_of (entries ++ entry ∷ []) number ≡ Some (luma_index entry.quant)
qp_of-last entries entry number not_yet h =
    ap (option_map (λ (one : LogEntry). luma_index one.quant))
    (pushed entries entry number true h ∙ ap (λ (o : Option LogEntry). option_or o (Some entry)) (not-found entries number not_yet))

pub qp_of-coded : (entries : List LogEntry) (number : ℕ) → has_code (map (λ (one : LogEntry). one.command) entries) number ≡ true → qp_of entries number ≡ Some (coded_qp entries number)
qp_of-coded entries number h =
    let there = found entries number h in
    ap (option_map (λ (one : LogEntry). luma_index one.quant)) there.1
    ∙ sym (ap (λ (o : Option LogEntry). Some (option_map_or (λ (one : LogEntry). luma_index one.quant) o 0)) there.1)

-- the index with which a frame was coded stays, whatever is coded later
pub coded_qp-push : (entries : List LogEntry) (entry : LogEntry) (number : ℕ) → has_code (map (λ (one : LogEntry). one.command) entries) number ≡ true →
    coded_qp (entries ++ entry ∷ []) number ≡ coded_qp entries number
coded_qp-push entries entry number h =
    let there = found entries number h in
    let index : Option LogEntry → ℕ = λ o. option_map_or (λ (one : LogEntry). luma_index one.quant) o 0 in
    ap index (find-append (λ (one : LogEntry). codes number one.command) entries (entry ∷ [])
    ∙ ap (λ (o : Option LogEntry). option_or o (coded_entry (entry ∷ []) number)) there.1)
    ∙ sym (ap index there.1)
