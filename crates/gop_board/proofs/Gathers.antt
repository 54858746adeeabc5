-- What is gathered from results, one after the other.
use Rattle.std.proofs.Common.{◌≡◌, ◌⊎◌, ℕ, zero, suc, ◌+◌, ◌<◌, cond, List, [], ◌∷◌, ◌++◌, length, Option, Some, None, is_none, refl, sym, ap, ◌∙◌, subst, inl, inr, append_assoc, append-nil, length-append, arith}
use Rattle.std.specs.Prelude.{⊤, flat_map, slice_get}
use Rattle.std.specs.List.{AllZip}
use Rattle.std.proofs.lemmas.Option.{none-some, same_Some}
use Rattle.session_core.specs.declared.packet.Packet.{Packet}
use Rattle.gop_board.specs.declared.gathered.Gathered.{Gathered}
use Rattle.gop_board.specs.declared.gathered.JobFault.{JobFault}
use Rattle.gop_board.specs.declared.job_result.JobResult.{JobResult}
use Rattle.gop_board.specs.declared.job_result.JobResult.TheVariants.{Packets, Fault, OutOfMemory}
use Rattle.gop_board.specs.Gathering.{IsWithResult, first_fault}
use Rattle.gop_board.specs.Packets.{numbered, numbered_from, packets_before_fault}
use Rattle.gop_board.proofs.PacketOrder.{numbered-append}

-- ---- packets numbered anew

pub length-numbered : {T : Type 0} (number : ℕ) (packets : List (Packet T ⊤)) → length (numbered_from number packets) ≡ length packets
length-numbered number [] = refl
length-numbered number (packet ∷ packets) = ap suc (length-numbered (number + 1) packets)

-- one more, with the number that comes next
pub renumber-push : {T : Type 0} (start more : List (Packet T ⊤)) (packet : Packet T ⊤) (next : ℕ) → next ≡ length (start ++ numbered_from (length start) more) →
    (start ++ numbered_from (length start) more) ++ (record packet { input_frameno = next }) ∷ [] ≡ start ++ numbered_from (length start) (more ++ packet ∷ [])
renumber-push {T} start more packet next is =
    let there : next ≡ length start + length more =
    is ∙ length-append start (numbered_from (length start) more) ∙ ap (λ (n : ℕ). length start + n) (length-numbered (length start) more) in
    append_assoc start (numbered_from (length start) more) ((record packet { input_frameno = next }) ∷ [])
    ∙ ap (λ (n : ℕ). start ++ (numbered_from (length start) more ++ (record packet { input_frameno = n }) ∷ [])) there
    ∙ ap (λ (l : List (Packet T ⊤)). start ++ l) (sym (numbered-append (length start) more (packet ∷ [])))

-- ---- the first fault of results

-- none of these ran out of memory
abbrev pub HasMemory : {T C : Type 0} → List (JobResult T C) → Type 0
HasMemory results = (place : ℕ) → slice_get results place ≡ Some OutOfMemory → ⊥

module _ {T C : Type 0} where
  none-push : (number : ℕ) (results : List (JobResult T C)) (more : JobResult T C) → first_fault number results ≡ None →
      first_fault number (results ++ more ∷ []) ≡ first_fault (number + length results) (more ∷ [])
  none-push number [] more none =
      let here : number ≡ number + 0 = omega arith in ap (λ (n : ℕ). first_fault n (more ∷ [])) here
  none-push number (Packets packets ∷ results) more none =
      let there : number + 1 + length results ≡ number + suc (length results) = omega arith in
      none-push (number + 1) results more none ∙ ap (λ (n : ℕ). first_fault n (more ∷ [])) there
  none-push number (Fault command coder ∷ results) more none = absurd (none-some _ (sym none))
  none-push number (OutOfMemory ∷ results) more none =
      let there : number + 1 + length results ≡ number + suc (length results) = omega arith in
      none-push (number + 1) results more none ∙ ap (λ (n : ℕ). first_fault n (more ∷ [])) there

  some-push : (number : ℕ) (results : List (JobResult T C)) (more : JobResult T C) (fault : JobFault C) → first_fault number results ≡ Some fault →
      first_fault number (results ++ more ∷ []) ≡ Some fault
  some-push number [] more fault is = absurd (none-some fault is)
  some-push number (Packets packets ∷ results) more fault is = some-push (number + 1) results more fault is
  some-push number (Fault command coder ∷ results) more fault is = is
  some-push number (OutOfMemory ∷ results) more fault is = some-push (number + 1) results more fault is

  -- the packets before it
  packets-push : (number : ℕ) (results : List (JobResult T C)) (packets : List (Packet T ⊤)) → first_fault number results ≡ None → HasMemory results →
      packets_before_fault (results ++ Packets packets ∷ []) ≡ packets_before_fault results ++ packets
  packets-push number [] packets none memory = append-nil packets
  packets-push number (Packets first ∷ results) packets none memory =
      ap (λ (l : List (Packet T ⊤)). first ++ l) (packets-push (number + 1) results packets none (λ place. memory (suc place)))
      ∙ sym (append_assoc first (packets_before_fault results) packets)
  packets-push number (Fault command coder ∷ results) packets none memory = absurd (none-some _ (sym none))
  packets-push number (OutOfMemory ∷ results) packets none memory = absurd (memory 0 refl)

  packets-stay : (number : ℕ) (results : List (JobResult T C)) (more : JobResult T C) (fault : JobFault C) → first_fault number results ≡ Some fault →
      packets_before_fault (results ++ more ∷ []) ≡ packets_before_fault results
  packets-stay number [] more fault is = absurd (none-some fault is)
  packets-stay number (Packets first ∷ results) more fault is =
      ap (λ (l : List (Packet T ⊤)). first ++ l) (packets-stay (number + 1) results more fault is)
  packets-stay number (Fault command coder ∷ results) more fault is = refl
  packets-stay number (OutOfMemory ∷ results) more fault is = refl

  fault-adds-none : (results : List (JobResult T C)) (command : ℕ) (coder : C) → packets_before_fault (results ++ Fault command coder ∷ []) ≡ packets_before_fault results
  fault-adds-none [] command coder = refl
  fault-adds-none (Packets first ∷ results) command coder = ap (λ (l : List (Packet T ⊤)). first ++ l) (fault-adds-none results command coder)
  fault-adds-none (Fault other other_coder ∷ results) command coder = refl
  fault-adds-none (OutOfMemory ∷ results) command coder = refl

-- ---- a list with one more

pub push-cases : {X : Type 0} (xs : List X) (x : X) (place : ℕ) (y : X) → slice_get (xs ++ x ∷ []) place ≡ Some y → (slice_get xs place ≡ Some y) ⊎ ((place ≡ length xs) × (x ≡ y))
push-cases [] x zero y is = inr (refl, same_Some x y is)
push-cases [] x (suc place) y is = absurd (none-some y is)
push-cases (first ∷ xs) x zero y is = inl is
push-cases (first ∷ xs) x (suc place) y is = elim (push-cases xs x place y is) [ inl there ↦ inl there | inr last ↦ inr (ap suc last.0, last.1) ]

-- ---- what is gathered so far

-- from the results of the first so many jobs
pub record IsGathering {T C : Type 0} (Its : ℕ → JobResult T C → Type 0) (jobs : ℕ) (gathered : Gathered T C) : Type 0 where
  pub results : List (JobResult T C)
  pub count : length results ≡ jobs
  pub each : (place : ℕ) (result : JobResult T C) → slice_get results place ≡ Some result → Its place result
  pub memory : HasMemory results
  pub packets : gathered.packets ≡ numbered (packets_before_fault results)
  pub fault : gathered.fault ≡ first_fault 0 results

pub gathering-none : {T C : Type 0} (Its : ℕ → JobResult T C → Type 0) (gathered : Gathered T C) → gathered ≡ record { packets = []; fault = None } → IsGathering Its 0 gathered
gathering-none {T} {C} Its gathered is = record {
  results = [];
  count = refl;
  each = λ place result there. absurd (none-some result there);
  memory = λ place there. absurd (none-some _ there);
  packets = ap (λ (g : Gathered T C). g.packets) is;
  fault = ap (λ (g : Gathered T C). g.fault) is;
}

module _ {T C : Type 0} (Its : ℕ → JobResult T C → Type 0) (jobs : ℕ) (before after : Gathered T C) (g : IsGathering Its jobs before) where
  each-more : (found : JobResult T C) → Its jobs found → (place : ℕ) (result : JobResult T C) → slice_get (g.results ++ found ∷ []) place ≡ Some result → Its place result
  each-more found its place result there = elim (push-cases g.results found place result there) [
    | inl earlier ↦ g.each place result earlier
    | inr last ↦ subst (λ (n : ℕ). Its n result) (sym (last.0 ∙ g.count)) (subst (λ (r : JobResult T C). Its jobs r) last.1 its)
  ]

  memory-more : (found : JobResult T C) → (found ≡ OutOfMemory → ⊥) → HasMemory (g.results ++ found ∷ [])
  memory-more found has place there = elim (push-cases g.results found place OutOfMemory there) [
    | inl earlier ↦ g.memory place earlier
    | inr last ↦ has last.1
  ]

  count-more : (found : JobResult T C) → length (g.results ++ found ∷ []) ≡ jobs + 1
  count-more found = length-append g.results (found ∷ []) ∙ ap (λ (n : ℕ). n + 1) g.count

  -- no fault so far: packets are added
  added : (packets : List (Packet T ⊤)) → first_fault 0 g.results ≡ None →
      before.packets ++ numbered_from (length before.packets) packets ≡ numbered (packets_before_fault (g.results ++ Packets packets ∷ []))
  added packets none =
      ap (λ (l : List (Packet T ⊤)). l ++ numbered_from (length l) packets) g.packets
      ∙ ap (λ (n : ℕ). numbered (packets_before_fault g.results) ++ numbered_from n packets) many
      ∙ sym (numbered-append 0 (packets_before_fault g.results) packets)
      ∙ ap (λ (l : List (Packet T ⊤)). numbered l) (sym (packets-push 0 g.results packets none g.memory))
    where
      many : length (numbered (packets_before_fault g.results)) ≡ 0 + length (packets_before_fault g.results)
      many = omega (arith, length-numbered 0 (packets_before_fault g.results))

  not-out : (packets : List (Packet T ⊤)) → ◌≡◌ {A = JobResult T C} (Packets packets) OutOfMemory → ⊥
  not-out packets same = cc

  fault-not-out : (command : ℕ) (coder : C) → ◌≡◌ {A = JobResult T C} (Fault command coder) OutOfMemory → ⊥
  fault-not-out command coder same = cc

  packets-more : (packets : List (Packet T ⊤)) → Its jobs (Packets packets) → (fault : Option (JobFault C)) → before.fault ≡ fault →
      after ≡ cond (is_none fault) (record before { packets = before.packets ++ numbered_from (length before.packets) packets }) before →
      IsGathering Its (jobs + 1) after
  packets-more packets its None is next = record {
    results = g.results ++ Packets packets ∷ [];
    count = count-more (Packets packets);
    each = each-more (Packets packets) its;
    memory = memory-more (Packets packets) (not-out packets);
    packets = ap (λ (a : Gathered T C). a.packets) next ∙ added packets (sym g.fault ∙ is);
    fault = ap (λ (a : Gathered T C). a.fault) next ∙ is ∙ sym (none-push 0 g.results (Packets packets) (sym g.fault ∙ is));
  }
  packets-more packets its (Some met) is next = record {
    results = g.results ++ Packets packets ∷ [];
    count = count-more (Packets packets);
    each = each-more (Packets packets) its;
    memory = memory-more (Packets packets) (not-out packets);
    packets = ap (λ (a : Gathered T C). a.packets) next ∙ g.packets
        ∙ ap (λ (l : List (Packet T ⊤)). numbered l) (sym (packets-stay 0 g.results (Packets packets) met (sym g.fault ∙ is)));
    fault = ap (λ (a : Gathered T C). a.fault) next ∙ is ∙ sym (some-push 0 g.results (Packets packets) met (sym g.fault ∙ is));
  }

  fault-more : (command : ℕ) (coder : C) → Its jobs (Fault command coder) → (fault : Option (JobFault C)) → before.fault ≡ fault →
      after ≡ cond (is_none fault) (record before { fault = Some (record { job = jobs; command = command; coder = coder }) }) before →
      IsGathering Its (jobs + 1) after
  fault-more command coder its None is next = record {
    results = g.results ++ Fault command coder ∷ [];
    count = count-more (Fault command coder);
    each = each-more (Fault command coder) its;
    memory = memory-more (Fault command coder) (fault-not-out command coder);
    packets = ap (λ (a : Gathered T C). a.packets) next ∙ g.packets
        ∙ ap (λ (l : List (Packet T ⊤)). numbered l) (sym (fault-adds-none g.results command coder));
    fault = ap (λ (a : Gathered T C). a.fault) next
        ∙ ap (λ (n : ℕ). first_fault {T = T} {C = C} n (Fault command coder ∷ [])) (omega (arith, g.count))
        ∙ sym (none-push 0 g.results (Fault command coder) (sym g.fault ∙ is));
  }
  fault-more command coder its (Some met) is next = record {
    results = g.results ++ Fault command coder ∷ [];
    count = count-more (Fault command coder);
    each = each-more (Fault command coder) its;
    memory = memory-more (Fault command coder) (fault-not-out command coder);
    packets = ap (λ (a : Gathered T C). a.packets) next ∙ g.packets
        ∙ ap (λ (l : List (Packet T ⊤)). numbered l) (sym (fault-adds-none g.results command coder));
    fault = ap (λ (a : Gathered T C). a.fault) next ∙ is ∙ sym (some-push 0 g.results (Fault command coder) met (sym g.fault ∙ is));
  }

  pub gathering-more : (found : JobResult T C) → Its jobs found → IsWithResult jobs found before after → IsGathering Its (jobs + 1) after
  gathering-more (Packets packets) its with_it = packets-more packets its before.fault refl with_it
  gathering-more (Fault command coder) its with_it = fault-more command coder its before.fault refl with_it
  gathering-more OutOfMemory its with_it = absurd with_it

-- ---- what is gathered from all

-- the packets of each result, where all have some
abbrev pub parts_of : {T C : Type 0} → List (JobResult T C) → List (List (Packet T ⊤))
parts_of [] = []
parts_of (Packets packets ∷ results) = packets ∷ parts_of results
parts_of (Fault command coder ∷ results) = parts_of results
parts_of (OutOfMemory ∷ results) = parts_of results

module _ {T C : Type 0} where
  pub parts-join : (number : ℕ) (results : List (JobResult T C)) → first_fault number results ≡ None → HasMemory results →
      packets_before_fault results ≡ flat_map (λ part. part) (parts_of results)
  parts-join number [] none memory = refl
  parts-join number (Packets packets ∷ results) none memory =
      ap (λ (l : List (Packet T ⊤)). packets ++ l) (parts-join (number + 1) results none (λ place. memory (suc place)))
  parts-join number (Fault command coder ∷ results) none memory = absurd (none-some _ (sym none))
  parts-join number (OutOfMemory ∷ results) none memory = absurd (memory 0 refl)

  -- where the first fault stands, and what stands before it
  pub record IsFirst (results : List (JobResult T C)) (number : ℕ) (fault : JobFault C) : Type 0 where
    pub place : ℕ
    pub job : fault.job ≡ number + place
    pub there : slice_get results place ≡ Some (Fault fault.command fault.coder)
    pub least : (before : ℕ) → before < place → (packets : List (Packet T ⊤)) × (slice_get results before ≡ Some (Packets packets))

  one-later : (packets : List (Packet T ⊤)) (results : List (JobResult T C)) (number : ℕ) (fault : JobFault C) → IsFirst results (number + 1) fault → IsFirst (Packets packets ∷ results) number fault
  one-later packets results number fault first = record {
    place = suc first.place;
    job = omega (arith, first.job);
    there = first.there;
    least = before-it;
  }
    where
      before-it : (before : ℕ) → before < suc first.place → (found : List (Packet T ⊤)) × (slice_get (Packets packets ∷ results) before ≡ Some (Packets found))
      before-it zero less = (packets, refl)
      before-it (suc before) less = first.least before (omega (arith, less))

  pub first-at : (number : ℕ) (results : List (JobResult T C)) (fault : JobFault C) → HasMemory results → first_fault number results ≡ Some fault → IsFirst results number fault
  first-at number [] fault memory is = absurd (none-some fault is)
  first-at number (Packets packets ∷ results) fault memory is =
      one-later packets results number fault (first-at (number + 1) results fault (λ place. memory (suc place)) is)
  first-at number (Fault command coder ∷ results) fault memory is =
      let same : ◌≡◌ {A = JobFault C} (record { job = number; command = command; coder = coder }) fault = same_Some _ fault is in record {
        place = 0;
        job = (let here : number ≡ number + 0 = omega arith in ap (λ (f : JobFault C). f.job) (sym same) ∙ here);
        there = (let at : JobFault C → Option (JobResult T C) = λ f. Some (Fault f.command f.coder) in ap at same);
        least = λ before less. absurd (omega (arith, less));
      }
  first-at number (OutOfMemory ∷ results) fault memory is = absurd (memory 0 refl)

-- ---- two lists, place by place

pub zip-of : {X Y : Type 0} (R : X → Y → Type 0) (xs : List X) (ys : List Y) → length ys ≡ length xs →
    ((place : ℕ) (y : Y) → slice_get ys place ≡ Some y → (x : X) × (slice_get xs place ≡ Some x) × R x y) → AllZip R xs ys
zip-of R [] [] same each = tt
zip-of R [] (y ∷ ys) same each = absurd (omega (arith, same))
zip-of R (x ∷ xs) [] same each = absurd (omega (arith, same))
zip-of {X} R (x ∷ xs) (y ∷ ys) same each =
    let first = each 0 y refl in
    let rest : length ys ≡ length xs = omega (arith, same) in (
      subst (λ (one : X). R one y) (sym (same_Some x first.0 first.1)) first.2,
      zip-of R xs ys rest (λ place. each (suc place)),
    )

pub zip-at : {X Y : Type 0} (R : X → Y → Type 0) (xs : List X) (ys : List Y) (place : ℕ) (y : Y) → AllZip R xs ys → slice_get ys place ≡ Some y →
    (x : X) × (slice_get xs place ≡ Some x) × R x y
zip-at R [] [] place y all is = absurd (none-some y is)
zip-at R [] (first ∷ ys) place y all is = absurd all
zip-at R (x ∷ xs) [] place y all is = absurd all
zip-at {X} {Y} R (x ∷ xs) (first ∷ ys) zero y all is = (x, refl, subst (λ (one : Y). R x one) (same_Some first y is) all.0)
zip-at R (x ∷ xs) (first ∷ ys) (suc place) y all is = zip-at R xs ys place y all.1 is
