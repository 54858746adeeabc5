-- The rule of the job queue: each move of a pass keeps it, and what a pass learns from it.
use Rattle.std.proofs.Common.{◌≡◌, ◌≢◌, ℕ, zero, suc, ◌+◌, ◌≤◌, ◌<◌, true, true≢false, eqb, List, [], ◌∷◌, ◌++◌, length, set, sym, refl, ap, ◌∙◌, subst, inl, inr, ⊎_elim, append_assoc, arith}
use Rattle.std.specs.List.{Contains, sum_by, range_with_len}
use Rattle.std.proofs.lemmas.Bool.{cases_lt}
use Rattle.std.proofs.lemmas.Bool.Decides.{nat_tests}
use Rattle.std.proofs.lemmas.List.{length-append}
use Rattle.std.proofs.lemmas.List.Elements.{All-weaker, All-contains_itself}
use Rattle.std.proofs.lemmas.List.Sums.{sum_by-cons, sum_by-append, sum_by_push, get_or-le-sum_by}
use mathlib.Core.Option.{some, some-ne-none}
use lib.ListN.{get_elem?}
use Rattle.crossbeam_queue.specs.Fifo.{Pushes, Pops, Forks, Merges, Learns}
use Rattle.crossbeam_queue.proofs.Lists.{at_set, at_snoc}
use Rattle.gop_board.proofs.Counts.{one_if}
use Rattle.gop_board.specs.declared.job_queue.Part.{Part}
use Rattle.gop_board.specs.Handing.{IsAlone, IsGiven, IsHeld, IsPart, InOrder, Only, first_part, given, joined_with, other_part, popped_one, pushed_one, spent_part, times}

-- ---- 0, 1, .. in order

range-more : (a n : ℕ) → range_with_len a (suc n) ≡ range_with_len a n ++ (a + n) ∷ []
range-more a zero = let here : a ≡ a + 0 = omega arith in ap (λ (k : ℕ). k ∷ []) here
range-more a (suc n) =
    let last : (a + 1) + n ≡ a + suc n = omega arith in
    ap (λ (l : List ℕ). a ∷ l) (range-more (a + 1) n ∙ ap (λ (k : ℕ). range_with_len (a + 1) n ++ k ∷ []) last)

-- what begins it, and what stands behind that
range-front : (a n : ℕ) (xs ys : List ℕ) → xs ++ ys ≡ range_with_len a n → xs ≡ range_with_len a (length xs)
range-front a n [] ys same = refl
range-front a zero (x ∷ xs) ys same = absurd (cc)
range-front a (suc n) (x ∷ xs) ys same =
    let head : x ≡ a = cc in
    let rest : xs ++ ys ≡ range_with_len (a + 1) n = cc in
    ap (λ (k : ℕ). k ∷ xs) head ∙ ap (λ (l : List ℕ). a ∷ l) (range-front (a + 1) n xs ys rest)

range-next : (a n : ℕ) (xs : List ℕ) (y : ℕ) (ys : List ℕ) → xs ++ y ∷ ys ≡ range_with_len a n → y ≡ a + length xs
range-next a zero [] y ys same = absurd (cc)
range-next a (suc n) [] y ys same = let head : y ≡ a = cc in omega arith
range-next a zero (x ∷ xs) y ys same = absurd (cc)
range-next a (suc n) (x ∷ xs) y ys same =
    let rest : xs ++ y ∷ ys ≡ range_with_len (a + 1) n = cc in
    let there = range-next (a + 1) n xs y ys rest in
    omega arith

-- ---- how often a number is there

times-cons : (f x : ℕ) (xs : List ℕ) → times f (x ∷ xs) ≡ one_if (eqb x f) + times f xs
times-cons f x xs = sum_by-cons (λ (y : ℕ). one_if (eqb y f)) x xs

times-append : (f : ℕ) (xs ys : List ℕ) → times f (xs ++ ys) ≡ times f xs + times f ys
times-append f xs ys = sum_by-append (λ (y : ℕ). one_if (eqb y f)) xs ys

is-one : (f x : ℕ) → x ≡ f → one_if (eqb x f) ≡ 1
is-one f x h = grind (arith, nat_tests)

is-less : (f x : ℕ) → x < f → one_if (eqb x f) ≡ 0
is-less f x h = grind (arith, nat_tests)

is-more : (f x : ℕ) → f < x → one_if (eqb x f) ≡ 0
is-more f x h = grind (arith, nat_tests)

times-before : (f a n : ℕ) → f < a → times f (range_with_len a n) ≡ 0
times-before f a zero h = refl
times-before f a (suc n) h =
    omega (arith, times-cons f a (range_with_len (a + 1) n), is-more f a h, times-before f (a + 1) n (omega arith))

times-behind : (f a n : ℕ) → a + n ≤ f → times f (range_with_len a n) ≡ 0
times-behind f a zero h = refl
times-behind f a (suc n) h =
    omega (arith, times-cons f a (range_with_len (a + 1) n), is-less f a (omega arith), times-behind f (a + 1) n (omega arith))

times-few : (f a n : ℕ) → times f (range_with_len a n) ≤ 1
times-few f a zero = omega arith
times-few f a (suc n) =
    let step = times-cons f a (range_with_len (a + 1) n) in
    elim (cases_lt a f) [
      | inl less ↦ omega (arith, step, is-less f a less, times-few f (a + 1) n)
      | inr from ↦ elim (cases_lt f a) [
        | inl more ↦ omega (arith, step, is-more f a more, times-few f (a + 1) n)
        | inr upto ↦
            let same : a ≡ f = omega arith in
            omega (arith, step, is-one f a same, times-before f (a + 1) n (omega arith))
      ]
    ]

within-range : (f a n : ℕ) → 1 ≤ times f (range_with_len a n) → f < a + n
within-range f a n there = elim (cases_lt f (a + n)) [
  | inl less ↦ less
  | inr behind ↦ absurd (omega (arith, times-behind f a n behind))
]

times-some : (xs : List ℕ) (x : ℕ) → Contains xs x → 1 ≤ times x xs
times-some xs x there =
    let here = get_or-le-sum_by (λ (y : ℕ). one_if (eqb y x)) xs there.0 x there.1 in
    omega (arith, here, is-one x _ there.2)

-- ---- sums over passes

abbrev weight : ℕ → Part → ℕ
weight number part = times number (given part)

weight-joined : (number : ℕ) (v u : Part) → weight number (joined_with v u) ≡ weight number v + weight number u
weight-joined number v u =
    omega (
      arith,
      times-append number v.popped (v.joined ++ u.popped ++ u.joined),
      times-append number (v.joined ++ u.popped) u.joined,
      times-append number v.joined u.popped,
      times-append number v.popped v.joined,
      times-append number u.popped u.joined,
    )

total-set : (number : ℕ) (parts : List Part) (seat : ℕ) (v w : Part) → get_elem? parts seat ≡ some v →
    sum_by (weight number) (set parts seat w) + weight number v ≡ sum_by (weight number) parts + weight number w
total-set number [] seat v w at = absurd (some-ne-none v (sym at))
total-set number (x ∷ xs) zero v w at =
    let same : x ≡ v = cc in
    omega (arith, sum_by-cons (weight number) w xs, sum_by-cons (weight number) x xs, ap (weight number) same)
total-set number (x ∷ xs) (suc seat) v w at =
    omega (arith, total-set number xs seat v w at, sum_by-cons (weight number) x (set xs seat w), sum_by-cons (weight number) x xs)

weight-within : (number : ℕ) (parts : List Part) (seat : ℕ) (v : Part) → get_elem? parts seat ≡ some v →
    weight number v ≤ sum_by (weight number) parts
weight-within number parts seat v at =
    let none : weight number spent_part ≡ 0 = refl in
    omega (arith, total-set number parts seat v spent_part at, none)

-- ---- one pass changed

each-set : (F : ℕ → Part → Type 0) (parts : List Part) (seat : ℕ) (w : Part) → F seat w →
    ((j : ℕ) (u : Part) → j ≢ seat → get_elem? parts j ≡ some u → F j u) →
    (j : ℕ) (u : Part) → get_elem? (set parts seat w) j ≡ some u → F j u
each-set F parts seat w mine others j u at =
    ⊎_elim (λ (x : (j ≡ seat) × (w ≡ u)). subst (λ (y : ℕ × Part). F y.0 y.1) (λ i. (sym x.0 i, x.1 i)) mine)
    (λ (x : (j ≢ seat) × (get_elem? parts j ≡ some u)). others j u x.0 x.1) (at_set parts seat j w u at)

only-set : (parts : List Part) (at : ℕ) (v w : Part) → get_elem? parts at ≡ some v → (w.live ≡ true → v.live ≡ true) →
    (seat : ℕ) → Only parts seat → Only (set parts at w) seat
only-set parts at v w here lives seat only other view there live =
    ⊎_elim (λ (x : (other ≡ at) × (w ≡ view)). x.0 ∙ only at v here (lives (ap (λ (p : Part). p.live) x.1 ∙ live)))
    (λ (x : (other ≢ at) × (get_elem? parts other ≡ some view)). only other view x.1 live) (at_set parts at other w view there)

gone : {P : Type 0} → spent_part.live ≡ true → P
gone live = absurd (true≢false (sym live))

pushes-not : {P : Type 0} (jobs : ℕ) (u : Part) → other_part jobs ≡ u → u.pushes ≡ true → P
pushes-not jobs u is may = absurd (true≢false (sym (ap (λ (p : Part). p.pushes) is ∙ may)))

-- ---- the moves

at-one : (a b : Part) (j : ℕ) → get_elem? (a ∷ []) j ≡ some b → (j ≡ 0) × (a ≡ b)
at-one a b zero at = let same : a ≡ b = cc in (refl, same)
at-one a b (suc j) at = absurd (some-ne-none b (sym at))

pub begins : InOrder [] (first_part 0 ∷ [])
begins =
    let parts : List Part = first_part 0 ∷ [] in
    let fits : IsPart [] [] 0 0 parts 0 (first_part 0) = record {
      jobs_of = refl;
      one = λ pushes. refl;
      all = λ pushes. refl;
      took = λ alone. refl;
      only = λ alone other view at live. (at-one (first_part 0) view other at).0;
    } in
    record {
      out = [];
      jobs = 0;
      pusher = 0;
      order = refl;
      within = omega arith;
      once = λ number. refl;
      each = λ seat part at live.
          let x = at-one (first_part 0) part seat at in
          subst (λ (y : ℕ × Part). IsPart [] [] 0 0 parts y.0 y.1) (λ i. (sym x.0 i, x.1 i)) fits;
    }

pub pushes : (n seat : ℕ) (v : Part) (x : ℕ) → v.live ≡ true → v.pushes ≡ true → v.pushed ≡ x → v.pushed < v.jobs →
    Pushes InOrder n seat v x (λ w. w ≡ pushed_one v)
pushes n seat v x live may is more items parts room h at =
    let w : Part = pushed_one v in
    let mine = h.each seat v at live in
    let count = mine.all may in
    let longer = length-append items (x ∷ []) in
    let next : suc (length h.out + length items) ≡ length h.out + length (items ++ x ∷ []) = omega (arith, longer) in
    let last : 0 + (length h.out + length items) ≡ x = omega (arith, count) in (
      w,
      record {
        out = h.out;
        jobs = h.jobs;
        pusher = h.pusher;
        order =
            sym (append_assoc h.out items (x ∷ []))
            ∙ ap (λ (l : List ℕ). l ++ x ∷ []) h.order
            ∙ ap (λ (k : ℕ). range_with_len 0 (length h.out + length items) ++ k ∷ []) (sym last)
            ∙ sym (range-more 0 (length h.out + length items))
            ∙ ap (λ (k : ℕ). range_with_len 0 k) next;
        within = omega (arith, longer, count, mine.jobs_of);
        once = λ number. let same = total-set number parts seat v w at in let was = h.once number in omega arith;
        each =
            each-set (λ j u. u.live ≡ true → IsPart h.out (items ++ x ∷ []) h.jobs h.pusher (set parts seat w) j u) parts seat w
            (λ _. record {
              jobs_of = mine.jobs_of;
              one = mine.one;
              all = λ _. omega (arith, longer, count);
              took = λ alone. mine.took (record { pushes = alone.pushes; whole = alone.whole });
              only = λ alone. only-set parts seat v w at (λ l. l) seat (mine.only (record { pushes = alone.pushes; whole = alone.whole }));
            })
            (λ j u apart e l.
            let old = h.each j u e l in
            record {
              jobs_of = old.jobs_of;
              one = old.one;
              all = λ p. absurd (apart (old.one p ∙ sym (mine.one may)));
              took = old.took;
              only = λ alone. only-set parts seat v w at (λ l. l) j (old.only alone);
            });
      },
      refl,
    )

pub pops : (seat : ℕ) (v : Part) → v.live ≡ true → Pops InOrder seat v (λ x w. (w ≡ popped_one v x) × IsGiven v.jobs v x)
pops seat v live x items parts h at =
    let w : Part = popped_one v x in
    let mine = h.each seat v at live in
    let out : List ℕ = h.out ++ x ∷ [] in
    let longer = length-append h.out (x ∷ []) in
    let count : length h.out + length (x ∷ items) ≡ length out + length items = omega (arith, longer) in
    let next : x ≡ 0 + length h.out = range-next 0 (length h.out + length (x ∷ items)) h.out x items h.order in
    let came : h.out ≡ range_with_len 0 (length h.out) = range-front 0 (length h.out + length (x ∷ items)) h.out (x ∷ items) h.order in (
      w,
      record {
        out = out;
        jobs = h.jobs;
        pusher = h.pusher;
        order = append_assoc h.out (x ∷ []) items ∙ h.order ∙ ap (λ (k : ℕ). range_with_len 0 k) count;
        within = let was = h.within in omega (arith, longer);
        once = λ number.
            omega (
              arith,
              total-set number parts seat v w at,
              h.once number,
              times-append number h.out (x ∷ []),
              times-append number (v.popped ++ x ∷ []) v.joined,
              times-append number v.popped (x ∷ []),
              times-append number v.popped v.joined,
            );
        each =
            each-set (λ j u. u.live ≡ true → IsPart out items h.jobs h.pusher (set parts seat w) j u) parts seat w
            (λ _. record {
              jobs_of = mine.jobs_of;
              one = mine.one;
              all = λ p. mine.all p ∙ count;
              took = λ alone. ap (λ (l : List ℕ). l ++ x ∷ []) (mine.took (record { pushes = alone.pushes; whole = alone.whole }));
              only = λ alone. only-set parts seat v w at (λ l. l) seat (mine.only (record { pushes = alone.pushes; whole = alone.whole }));
            })
            (λ j u apart e l.
            let old = h.each j u e l in
            record {
              jobs_of = old.jobs_of;
              one = old.one;
              all = λ p. old.all p ∙ count;
              took = λ alone. absurd (apart (sym (old.only alone seat v at live)));
              only = λ alone. absurd (apart (sym (old.only alone seat v at live)));
            });
      },
      (
        refl,
        record {
          below = let was = h.within in omega (arith, mine.jobs_of);
          rises =
              All-weaker (Contains v.popped) (λ earlier. earlier < x)
              (λ earlier there.
              let here = times-some v.popped earlier there in
              let some : 1 ≤ times earlier (range_with_len 0 (length h.out)) =
              subst (λ (l : List ℕ). 1 ≤ times earlier l) came
              (omega (arith, here, times-append earlier v.popped v.joined, weight-within earlier parts seat v at, h.once earlier)) in
              omega (arith, within-range earlier 0 (length h.out) some))
              v.popped (All-contains_itself v.popped);
          put = λ p. let all = mine.all p in let one : length (x ∷ items) ≡ suc (length items) = refl in omega (arith, next);
          next = λ alone. let same = ap (λ (l : List ℕ). length l) (mine.took alone) in omega (arith, next);
        },
      ),
    )

pub tells : (seat jobs : ℕ) (v : Part) → v ≡ first_part 0 → Forks InOrder seat v (first_part jobs) spent_part
tells seat jobs v is items parts h at =
    let l : Part = first_part jobs in
    let vs : List Part = set parts seat l in
    let mine = h.each seat v at (ap (λ (p : Part). p.live) is) in
    let may : v.pushes ≡ true = ap (λ (p : Part). p.pushes) is in
    let alone : IsAlone v = record { pushes = may; whole = ap (λ (p : Part). p.was_split) is } in
    let none : 0 ≡ length h.out + length items = sym (ap (λ (p : Part). p.pushed) is) ∙ mine.all may in
    let only : Only (vs ++ spent_part ∷ []) seat = λ other view there live.
    ⊎_elim (λ (x : get_elem? vs other ≡ some view). only-set parts seat v l at (λ _. ap (λ (p : Part). p.live) is) seat (mine.only alone) other view x live)
    (λ (x : spent_part ≡ view). gone (ap (λ (p : Part). p.live) x ∙ live)) (at_snoc vs spent_part view other there) in
    let F : ℕ → Part → Type 0 = λ j u. u.live ≡ true → IsPart h.out items jobs h.pusher (vs ++ spent_part ∷ []) j u in
    let each : (j : ℕ) (u : Part) → get_elem? vs j ≡ some u → F j u =
    each-set F parts seat l
    (λ _. record {
      jobs_of = refl;
      one = λ _. mine.one may;
      all = λ _. none;
      took = λ _. sym (ap (λ (p : Part). p.popped) is) ∙ mine.took alone;
      only = λ _. only;
    })
    (λ j u apart e live. absurd (apart (mine.only alone j u e live))) in
    record {
      out = h.out;
      jobs = jobs;
      pusher = h.pusher;
      order = h.order;
      within = omega arith;
      once = λ number.
          let was : weight number v ≡ 0 = ap (weight number) is in
          let now : weight number l ≡ 0 = refl in
          let nothing : weight number spent_part ≡ 0 = refl in
          omega (arith, total-set number parts seat v l at, sum_by_push (weight number) vs spent_part, h.once number);
      each = λ j u e live.
          ⊎_elim (λ (x : get_elem? vs j ≡ some u). each j u x live)
          (λ (x : spent_part ≡ u). gone (ap (λ (p : Part). p.live) x ∙ live)) (at_snoc vs spent_part u j e);
    }

pub forks : (seat : ℕ) (v : Part) → v.live ≡ true → Forks InOrder seat v (record v { was_split = true }) (other_part v.jobs)
forks seat v live items parts h at =
    let l : Part = record v { was_split = true } in
    let r : Part = other_part v.jobs in
    let vs : List Part = set parts seat l in
    let mine = h.each seat v at live in
    let F : ℕ → Part → Type 0 = λ j u. u.live ≡ true → IsPart h.out items h.jobs h.pusher (vs ++ r ∷ []) j u in
    let each : (j : ℕ) (u : Part) → get_elem? vs j ≡ some u → F j u =
    each-set F parts seat l
    (λ _. record {
      jobs_of = mine.jobs_of;
      one = mine.one;
      all = mine.all;
      took = λ alone. absurd (true≢false alone.whole);
      only = λ alone. absurd (true≢false alone.whole);
    })
    (λ j u apart e lives.
    let old = h.each j u e lives in
    record {
      jobs_of = old.jobs_of;
      one = old.one;
      all = old.all;
      took = old.took;
      only = λ alone. absurd (apart (sym (old.only alone seat v at live)));
    }) in
    record {
      out = h.out;
      jobs = h.jobs;
      pusher = h.pusher;
      order = h.order;
      within = h.within;
      once = λ number.
          let nothing : weight number r ≡ 0 = refl in
          omega (arith, total-set number parts seat v l at, sum_by_push (weight number) vs r, h.once number);
      each = λ j u e lives.
          ⊎_elim (λ (x : get_elem? vs j ≡ some u). each j u x lives)
          (λ (x : r ≡ u).
          record {
            jobs_of = sym (ap (λ (y : Part). y.jobs) x) ∙ mine.jobs_of;
            one = λ may. pushes-not v.jobs u x may;
            all = λ may. pushes-not v.jobs u x may;
            took = λ alone. pushes-not v.jobs u x alone.pushes;
            only = λ alone. pushes-not v.jobs u x alone.pushes;
          })
          (at_snoc vs r u j e);
    }

pub merges : (seat : ℕ) (v : Part) (other : ℕ) (u : Part) → v.live ≡ true → u.live ≡ true → Merges InOrder seat v other u (joined_with v u) spent_part
merges seat v other u live lives items parts h at two at' =
    let both : Part = joined_with v u in
    let vs : List Part = set parts seat both in
    let mine = h.each seat v at live in
    let leaves : (j : ℕ) → Only parts j → Only (set vs other spent_part) j =
    λ j only. only-set vs other u spent_part at' gone j (only-set parts seat v both at (λ l. l) j only) in
    let F : ℕ → Part → Type 0 = λ j y. y.live ≡ true → IsPart h.out items h.jobs h.pusher (set vs other spent_part) j y in
    let each : (j : ℕ) (y : Part) → get_elem? vs j ≡ some y → F j y =
    each-set F parts seat both
    (λ _. record {
      jobs_of = mine.jobs_of;
      one = mine.one;
      all = mine.all;
      took = λ alone. mine.took (record { pushes = alone.pushes; whole = alone.whole });
      only = λ alone. leaves seat (mine.only (record { pushes = alone.pushes; whole = alone.whole }));
    })
    (λ j y apart e l.
    let old = h.each j y e l in
    record {
      jobs_of = old.jobs_of;
      one = old.one;
      all = old.all;
      took = old.took;
      only = λ alone. leaves j (old.only alone);
    }) in
    record {
      out = h.out;
      jobs = h.jobs;
      pusher = h.pusher;
      order = h.order;
      within = h.within;
      once = λ number.
          let nothing : weight number spent_part ≡ 0 = refl in
          omega (
            arith,
            total-set number parts seat v both at,
            total-set number vs other u spent_part at',
            h.once number,
            nothing,
            weight-joined number v u,
          );
      each = each-set F vs other spent_part gone (λ j y apart e. each j y e);
    }

-- ---- what is learned

pub few : (seat : ℕ) (v : Part) → v.live ≡ true → v.pushes ≡ true → Learns InOrder seat v (λ items. length items ≤ v.pushed)
few seat v live may items parts h at = let count = (h.each seat v at live).all may in omega arith

pub held : (seat : ℕ) (v : Part) → v.live ≡ true → Learns InOrder seat v (IsHeld v.jobs v)
held seat v live items parts h at =
    let mine = h.each seat v at live in
    record {
      out = h.out;
      order = h.order;
      within = let was = h.within in omega (arith, mine.jobs_of);
      once = λ number. omega (arith, weight-within number parts seat v at, h.once number);
      all = mine.all;
      took = mine.took;
    }

-- no number was given twice
pub held-once : (jobs : ℕ) (part : Part) (items : List ℕ) → IsHeld jobs part items → (number : ℕ) → times number (given part) ≤ 1
held-once jobs part items h number =
    let all : times number (h.out ++ items) ≡ times number (range_with_len 0 (length h.out + length items)) = ap (times number) h.order in
    omega (arith, h.once number, times-append number h.out items, all, times-few number 0 (length h.out + length items))
