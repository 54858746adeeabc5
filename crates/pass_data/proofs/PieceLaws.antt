-- Bytes taken at once, as though one after the other.
use Rattle.std.proofs.Common.{◌≡◌, ℕ, zero, suc, ◌+◌, ◌-◌, ◌<◌, ◌≤◌, min, nat_lt, Bool, true, false, cond, not, ◌||◌, List, [], ◌∷◌, ◌++◌, length, take, drop, length-append, length-take, length-drop, append_assoc, refl, sym, ◌∙◌, ap, subst, arith, ℤ, pos, int_lt, is_some, inl, inr, ◌⊎◌, add-zero, zero-add}
use Rattle.std.proofs.lemmas.List.{append-nil, take_all}
use Rattle.std.proofs.lemmas.Bool.{cases_lt}
use Rattle.std.proofs.lemmas.Bool.Decides.{nat_tests}
use Rattle.std.specs.Prelude.{Option, Some, None, Ok, Err}
use Rattle.pass_data.specs.declared.error.PassDataError.{PassDataError}
use Rattle.pass_data.specs.declared.given.Header.{Header}
use Rattle.pass_data.specs.Given.{Given, Outcome, goal, goal_by, needed, needed_by, taken, with_packet_bytes, with_summary_bytes}
use Rattle.pass_data.specs.Pieces.{wants, with_whole, with_byte, Progress, further, then_given, given_bytes, part, answer, answer_by}

-- ---- progress

further_zero : (p : Progress) → further 0 p ≡ p
further_zero p = ap (λ n. record { given = p.given; taken = n; refused = p.refused }) (zero-add p.taken)

further_more : (m n : ℕ) (p : Progress) → further m (further n p) ≡ further (m + n) p
further_more m n p =
    let e : m + (n + p.taken) ≡ (m + n) + p.taken = omega arith in
    ap (λ k. record { given = p.given; taken = k; refused = p.refused }) e

then_further : (n m : ℕ) (rest : Given → Progress) (g : Given) (e : Option PassDataError)
    → further n (then_given m rest g e) ≡ then_given (n + m) rest g e
then_further n m rest g None = further_more n m (rest g)
then_further n m rest g (Some e) = refl

-- ---- one byte

abbrev with_held : List ℕ → Given → Given
with_held held g = record g { bytes = held }

pub one_wanted : (d c : ℤ) (b : ℕ) (bs : List ℕ) (g : Given) → wants d c g ≡ true
    → given_bytes d c (b ∷ bs) g ≡ then_given 1 (given_bytes d c bs) (with_byte b g).given (with_byte b g).refused
unfolding given_bytes
one_wanted d c b bs g h =
    ap (λ w. cond w (then_given 1 (given_bytes d c bs) (with_byte b g).given (with_byte b g).refused) (record { given = g; taken = 0; refused = None })) h

pub none_wanted : (d c : ℤ) (bs : List ℕ) (g : Given) → wants d c g ≡ false → given_bytes d c bs g ≡ record { given = g; taken = 0; refused = None }
unfolding given_bytes
none_wanted d c [] g h = refl
none_wanted d c (b ∷ bs) g h =
    ap (λ w. cond w (then_given 1 (given_bytes d c bs) (with_byte b g).given (with_byte b g).refused) (record { given = g; taken = 0; refused = None })) h

pub none_given : (d c : ℤ) (g : Given) → given_bytes d c [] g ≡ record { given = g; taken = 0; refused = None }
unfolding given_bytes
none_given d c g = refl

pub test_true : (a b : ℕ) → a < b → nat_lt a b ≡ true
test_true a b h = grind (arith, nat_tests)

pub test_false : (a b : ℕ) → b ≤ a → nat_lt a b ≡ false
test_false a b h = grind (arith, nat_tests)

pub byte_kept : (b : ℕ) (g : Given) → length (g.bytes ++ b ∷ []) < goal g → with_byte b g ≡ taken (with_held (g.bytes ++ b ∷ []) g)
unfolding with_byte
byte_kept b g h =
    ap (λ w. cond w (taken (with_held (g.bytes ++ b ∷ []) g)) (with_whole (g.bytes ++ b ∷ []) g)) (test_true (length (g.bytes ++ b ∷ [])) (goal g) h)

pub byte_last : (b : ℕ) (g : Given) → goal g ≤ length (g.bytes ++ b ∷ []) → with_byte b g ≡ with_whole (g.bytes ++ b ∷ []) g
unfolding with_byte
byte_last b g h =
    ap (λ w. cond w (taken (with_held (g.bytes ++ b ∷ []) g)) (with_whole (g.bytes ++ b ∷ []) g)) (test_false (length (g.bytes ++ b ∷ [])) (goal g) h)

needed_held : (d c : ℤ) (xs : List ℕ) (g : Given) (h : Option Header) → needed_by h d c (with_held xs g) ≡ needed_by h d c g
needed_held d c xs g None = refl
needed_held d c xs g (Some h) = refl

wants_held : (d c : ℤ) (xs : List ℕ) (g : Given) → wants d c g ≡ true → wants d c (with_held xs g) ≡ true
unfolding needed
wants_held d c xs g h = ap (λ n. not (is_some g.header) || int_lt (pos 0) n) (needed_held d c xs g g.header) ∙ h

pub one_longer : (xs : List ℕ) (b : ℕ) → length (xs ++ b ∷ []) ≡ suc (length xs)
one_longer xs b = omega (arith, length-append xs (b ∷ []))

-- a byte that doesn't end what is collected
one_kept : (d c : ℤ) (b : ℕ) (bs : List ℕ) (g : Given) → wants d c g ≡ true → suc (length g.bytes) < goal g
    → given_bytes d c (b ∷ bs) g ≡ further 1 (given_bytes d c bs (with_held (g.bytes ++ b ∷ []) g))
one_kept d c b bs g h short =
    let fits : length (g.bytes ++ b ∷ []) < goal g = rw (one_longer g.bytes b) short in
    one_wanted d c b bs g h ∙ ap (λ (o : Outcome). then_given 1 (given_bytes d c bs) o.given o.refused) (byte_kept b g fits)

-- ---- bytes that don't end it

pub kept_bytes : (d c : ℤ) (bs : List ℕ) (g : Given) → wants d c g ≡ true → length g.bytes + length bs < goal g
    → given_bytes d c bs g ≡ record { given = with_held (g.bytes ++ bs) g; taken = length bs; refused = None }
kept_bytes d c [] g h short =
    none_given d c g ∙ ap (λ (xs : List ℕ). record { given = with_held xs g; taken = 0; refused = None }) (sym (append-nil g.bytes))
kept_bytes d c (b ∷ bs) g h short =
    let one = one_longer g.bytes b in
    let rest = kept_bytes d c bs (with_held (g.bytes ++ b ∷ []) g) (wants_held d c (g.bytes ++ b ∷ []) g h) (omega arith) in
    one_kept d c b bs g h (omega arith)
    ∙ (ap (further 1) rest
    ∙ (ap (λ (xs : List ℕ). record { given = with_held xs g; taken = 1 + length bs; refused = None }) (append_assoc g.bytes (b ∷ []) bs)
    ∙ ap (λ n. record { given = with_held (g.bytes ++ b ∷ bs) g; taken = n; refused = None }) (omega arith)))

-- ---- bytes that end it, and further ones

pub whole_bytes : (d c : ℤ) (bs : List ℕ) (n : ℕ) (g : Given) → wants d c g ≡ true → length g.bytes + suc n ≡ goal g → suc n ≤ length bs
    → given_bytes d c bs g
    ≡ then_given (suc n) (given_bytes d c (drop (suc n) bs)) (with_whole (g.bytes ++ take (suc n) bs) g).given (with_whole (g.bytes ++ take (suc n) bs) g).refused
whole_bytes d c [] n g h ends there = absurd (omega arith)
whole_bytes d c (b ∷ bs) zero g h ends there =
    let one = one_longer g.bytes b in
    one_wanted d c b bs g h ∙ ap (λ (o : Outcome). then_given 1 (given_bytes d c bs) o.given o.refused) (byte_last b g (omega arith))
whole_bytes d c (b ∷ bs) (suc n) g h ends there =
    let one = one_longer g.bytes b in
    let rest = whole_bytes d c bs n (with_held (g.bytes ++ b ∷ []) g) (wants_held d c (g.bytes ++ b ∷ []) g h) (omega arith) (omega arith) in
    let o = with_whole ((g.bytes ++ b ∷ []) ++ take (suc n) bs) g in
    one_kept d c b bs g h (omega arith)
    ∙ (ap (further 1) rest
    ∙ (then_further 1 (suc n) (given_bytes d c (drop (suc n) bs)) o.given o.refused
    ∙ (ap (λ k. then_given k (given_bytes d c (drop (suc n) bs)) o.given o.refused) (omega arith)
    ∙ ap (λ (xs : List ℕ). then_given (suc (suc n)) (given_bytes d c (drop (suc n) bs)) (with_whole xs g).given (with_whole xs g).refused) (append_assoc g.bytes (b ∷ []) (take (suc n) bs)))))

-- ---- a part

abbrev pub progress_by : ℕ → Outcome → Progress
progress_by n o = record { given = o.given; taken = n; refused = o.refused }

abbrev pub choice : Bool → ℕ → List ℕ → Given → Progress
choice b n held g = cond b (record { given = with_held held g; taken = n; refused = None }) (progress_by n (with_whole held g))

abbrev pub part_by : ℕ → List ℕ → Given → Progress
part_by n bs g = choice (nat_lt (length (g.bytes ++ take n bs)) (goal g)) n (g.bytes ++ take n bs) g

pub part_is : (bs : List ℕ) (g : Given) → part bs g ≡ part_by (min (length bs) (goal g - length g.bytes)) bs g
unfolding part
part_is bs g = refl

part_kept : (bs : List ℕ) (g : Given) → length g.bytes + length bs < goal g
    → part bs g ≡ record { given = with_held (g.bytes ++ bs) g; taken = length bs; refused = None }
part_kept bs g short =
    let all : min (length bs) (goal g - length g.bytes) ≡ length bs = omega arith in
    let fits : length (g.bytes ++ bs) < goal g = omega (arith, length-append g.bytes bs) in
    let whole : part_by (length bs) bs g ≡ choice (nat_lt (length (g.bytes ++ bs)) (goal g)) (length bs) (g.bytes ++ bs) g =
    ap (λ (xs : List ℕ). choice (nat_lt (length (g.bytes ++ xs)) (goal g)) (length bs) (g.bytes ++ xs) g) (take_all (length bs) bs (omega arith)) in
    let short_is : choice (nat_lt (length (g.bytes ++ bs)) (goal g)) (length bs) (g.bytes ++ bs) g ≡ choice true (length bs) (g.bytes ++ bs) g =
    ap (λ w. choice w (length bs) (g.bytes ++ bs) g) (test_true (length (g.bytes ++ bs)) (goal g) fits) in
    let first : part bs g ≡ part_by (length bs) bs g = part_is bs g ∙ ap (λ n. part_by n bs g) all in
    first ∙ (whole ∙ short_is)

part_whole : (bs : List ℕ) (n : ℕ) (g : Given) → length g.bytes + n ≡ goal g → n ≤ length bs
    → part bs g ≡ progress_by n (with_whole (g.bytes ++ take n bs) g)
part_whole bs n g ends there =
    let all : min (length bs) (goal g - length g.bytes) ≡ n = omega arith in
    let whole : goal g ≤ length (g.bytes ++ take n bs) = omega (arith, length-append g.bytes (take n bs), length-take n bs) in
    let first : part bs g ≡ part_by n bs g = part_is bs g ∙ ap (λ k. part_by k bs g) all in
    first ∙ ap (λ w. choice w n (g.bytes ++ take n bs) g) (test_false (length (g.bytes ++ take n bs)) (goal g) whole)

abbrev through : ℤ → ℤ → List ℕ → Progress → Progress
through d c bs p = then_given p.taken (given_bytes d c (drop p.taken bs)) p.given p.refused

nothing_left : (xs : List ℕ) → drop (length xs) xs ≡ []
nothing_left [] = refl
nothing_left (x ∷ xs) = nothing_left xs

pub part_more : (d c : ℤ) (bs : List ℕ) (g : Given) → wants d c g ≡ true → length g.bytes < goal g → 0 < length bs
    → given_bytes d c bs g ≡ through d c bs (part bs g)
part_more d c bs g h unfinished some =
    elim (cases_lt (length bs) (goal g - length g.bytes)) [
      | inl short ↦ kept (omega arith)
      | inr enough ↦ whole (goal g - length g.bytes - 1) (omega arith) (omega arith)
    ] where
      kept : length g.bytes + length bs < goal g → given_bytes d c bs g ≡ through d c bs (part bs g)
      kept short =
          let p : Progress = record { given = with_held (g.bytes ++ bs) g; taken = length bs; refused = None } in
          let rest : given_bytes d c (drop (length bs) bs) p.given ≡ record { given = p.given; taken = 0; refused = None } =
          ap (λ (xs : List ℕ). given_bytes d c xs p.given) (nothing_left bs) ∙ none_given d c p.given in
          kept_bytes d c bs g h short
          ∙ sym (ap (through d c bs) (part_kept bs g short)
          ∙ (ap (further (length bs)) rest ∙ ap (λ n. record { given = p.given; taken = n; refused = None }) (add-zero (length bs))))

      whole : (n : ℕ) → length g.bytes + suc n ≡ goal g → suc n ≤ length bs → given_bytes d c bs g ≡ through d c bs (part bs g)
      whole n ends there = whole_bytes d c bs n g h ends there ∙ sym (ap (through d c bs) (part_whole bs (suc n) g ends there))

pub part_some : (bs : List ℕ) (g : Given) → length g.bytes < goal g → 0 < length bs → (part bs g).refused ≡ None → 0 < (part bs g).taken
part_some bs g unfinished some none =
    elim (cases_lt (length bs) (goal g - length g.bytes)) [
      | inl short ↦ rw (part_kept bs g (omega arith)) some
      | inr enough ↦ rw (part_whole bs (goal g - length g.bytes) g (omega arith) enough) (omega arith)
    ]

pub part_fits : (bs : List ℕ) (g : Given) → length g.bytes < goal g → (part bs g).taken ≤ length bs
part_fits bs g unfinished =
    elim (cases_lt (length bs) (goal g - length g.bytes)) [
      | inl short ↦ rw (part_kept bs g (omega arith)) (omega arith)
      | inr enough ↦ rw (part_whole bs (goal g - length g.bytes) g (omega arith) enough) enough
    ]

-- ---- what was answered

pub taken_answer : (p : Progress) (n : ℕ) → Ok n ≡ answer p → (p.taken ≡ n) × (p.refused ≡ None)
taken_answer p n e = by_refused p.refused refl where
  by_refused : (r : Option PassDataError) → p.refused ≡ r → (p.taken ≡ n) × (p.refused ≡ None)
  by_refused None is = (let same : Ok n ≡ answer_by p.taken None = e ∙ ap (answer_by p.taken) is in (cc), is)
  by_refused (Some x) is = let same : Ok n ≡ answer_by p.taken (Some x) = e ∙ ap (answer_by p.taken) is in cc

pub refused_answer : (p : Progress) (x : PassDataError) → Err x ≡ answer p → p.refused ≡ Some x
refused_answer p x e = by_refused p.refused refl where
  by_refused : (r : Option PassDataError) → p.refused ≡ r → p.refused ≡ Some x
  by_refused None is = let same : Err x ≡ answer_by p.taken None = e ∙ ap (answer_by p.taken) is in cc
  by_refused (Some y) is = let same : Err x ≡ answer_by p.taken (Some y) = e ∙ ap (answer_by p.taken) is in cc

drop_nil : (n : ℕ) → drop {A = ℕ} n [] ≡ []
drop_nil zero = refl
drop_nil (suc n) = refl

drop_drop : (t n : ℕ) (xs : List ℕ) → drop n (drop t xs) ≡ drop (t + n) xs
drop_drop zero n xs = ap (λ k. drop k xs) (sym (zero-add n))
drop_drop (suc t) n [] = drop_nil n ∙ sym (drop_nil (suc t + n))
drop_drop (suc t) n (x ∷ xs) =
    let e : suc (t + n) ≡ suc t + n = omega arith in
    drop_drop t n xs ∙ ap (λ k. drop k (x ∷ xs)) e

dropped : (xs : List ℕ) (i : ℕ) → length xs ≤ i → drop i xs ≡ []
dropped [] zero h = refl
dropped [] (suc i) h = refl
dropped (x ∷ xs) zero h = absurd (omega arith)
dropped (x ∷ xs) (suc i) h = dropped xs i (omega arith)

-- ---- from part to part

pub step_taken : (d c : ℤ) (bs : List ℕ) (t n : ℕ) (start g next : Given) → given_bytes d c bs start ≡ further t (given_bytes d c (drop t bs) g)
    → wants d c g ≡ true → length g.bytes < goal g → t < length bs → next ≡ (part (drop t bs) g).given → Ok n ≡ answer (part (drop t bs) g)
    → (given_bytes d c bs start ≡ further (t + n) (given_bytes d c (drop (t + n) bs) next)) × (t + n ≤ length bs) × (t < t + n)
step_taken d c bs t n start g next so_far h unfinished within is ok =
    let p = part (drop t bs) g in
    let left : 0 < length (drop t bs) = omega (arith, length-drop t bs) in
    let end = taken_answer p n ok in
    let fits : n ≤ length (drop t bs) = subst (λ k. k ≤ length (drop t bs)) end.0 (part_fits (drop t bs) g unfinished) in
    let some : 0 < n = subst (λ k. 0 < k) end.0 (part_some (drop t bs) g unfinished left end.1) in
    let more : given_bytes d c (drop t bs) g ≡ further n (given_bytes d c (drop n (drop t bs)) next) =
    part_more d c (drop t bs) g h unfinished left
    ∙ (ap (λ k. then_given k (given_bytes d c (drop k (drop t bs))) p.given p.refused) end.0
    ∙ (ap (then_given n (given_bytes d c (drop n (drop t bs))) p.given) end.1
    ∙ ap (λ (x : Given). further n (given_bytes d c (drop n (drop t bs)) x)) (sym is))) in (
      so_far ∙ (ap (further t) more ∙ (further_more t n _ ∙ ap (λ (xs : List ℕ). further (t + n) (given_bytes d c xs next)) (drop_drop t n bs))),
      omega (arith, length-drop t bs),
      omega arith,
    )

pub step_refused : (d c : ℤ) (bs : List ℕ) (t : ℕ) (e : PassDataError) (start g next : Given) → given_bytes d c bs start ≡ further t (given_bytes d c (drop t bs) g)
    → wants d c g ≡ true → length g.bytes < goal g → t < length bs → next ≡ (part (drop t bs) g).given → Err e ≡ answer (part (drop t bs) g)
    → (next ≡ (given_bytes d c bs start).given) × (Err e ≡ answer (given_bytes d c bs start))
step_refused d c bs t e start g next so_far h unfinished within is err =
    let p = part (drop t bs) g in
    let left : 0 < length (drop t bs) = omega (arith, length-drop t bs) in
    let end = refused_answer p e err in
    let all : given_bytes d c bs start ≡ record { given = p.given; taken = t + p.taken; refused = Some e } =
    so_far ∙ (ap (further t) (part_more d c (drop t bs) g h unfinished left)
    ∙ ap (λ r. further t (then_given p.taken (given_bytes d c (drop p.taken (drop t bs))) p.given r)) end) in
    (is ∙ sym (ap (λ (q : Progress). q.given) all), sym (ap answer all))

pub step_ended : (d c : ℤ) (bs : List ℕ) (t : ℕ) (start g : Given) → given_bytes d c bs start ≡ further t (given_bytes d c (drop t bs) g)
    → (length bs ≤ t) ⊎ (wants d c g ≡ false) → (g ≡ (given_bytes d c bs start).given) × (Ok t ≡ answer (given_bytes d c bs start))
step_ended d c bs t start g so_far ended =
    let all : given_bytes d c bs start ≡ record { given = g; taken = t; refused = None } =
    so_far ∙ (ap (further t) (rest ended) ∙ ap (λ n. record { given = g; taken = n; refused = None }) (add-zero t)) in
    (sym (ap (λ (q : Progress). q.given) all), sym (ap answer all)) where
      rest : (length bs ≤ t) ⊎ (wants d c g ≡ false) → given_bytes d c (drop t bs) g ≡ record { given = g; taken = 0; refused = None }
      rest (inl over) = ap (λ (xs : List ℕ). given_bytes d c xs g) (dropped bs t over) ∙ none_given d c g
      rest (inr unwanted) = none_wanted d c (drop t bs) g unwanted

pub begun : (d c : ℤ) (bs : List ℕ) (g : Given) → given_bytes d c bs g ≡ further 0 (given_bytes d c bs g)
begun d c bs g = sym (further_zero (given_bytes d c bs g))

-- ---- two pieces

abbrev onwards : ℤ → ℤ → List ℕ → List ℕ → Progress → Progress
onwards d c more bs p = further p.taken (given_bytes d c (drop p.taken bs ++ more) p.given)

stays : (d c : ℤ) (more bs : List ℕ) (g : Given) → given_bytes d c bs g ≡ record { given = g; taken = 0; refused = None }
    → given_bytes d c (bs ++ more) g ≡ onwards d c more bs (given_bytes d c bs g)
stays d c more bs g is = sym (ap (onwards d c more bs) is ∙ further_zero (given_bytes d c (bs ++ more) g))

pub by_bool : {P : Type 0} (b : Bool) → (b ≡ true → P) → (b ≡ false → P) → P
by_bool true f g = f refl
by_bool false f g = g refl

by_option : {P : Type 0} (o : Option PassDataError) → (o ≡ None → P) → ((e : PassDataError) → o ≡ Some e → P) → P
by_option None f g = f refl
by_option (Some e) f g = g e refl

never : (e : PassDataError) → None ≡ Some e → ⊥
never e h = cc

one_on : (d c : ℤ) (b : ℕ) (bs more : List ℕ) (q : Progress) → further 1 (onwards d c more bs q) ≡ onwards d c more (b ∷ bs) (further 1 q)
one_on d c b bs more q =
    let one : 1 + q.taken ≡ suc q.taken = omega arith in
    further_more 1 q.taken _ ∙ ap (λ n. further (1 + q.taken) (given_bytes d c (drop n (b ∷ bs) ++ more) q.given)) (sym one)

pub pieces_joined : (d c : ℤ) (bs more : List ℕ) (g : Given) → (given_bytes d c bs g).refused ≡ None
    → given_bytes d c (bs ++ more) g ≡ onwards d c more bs (given_bytes d c bs g)
pieces_joined d c [] more g none = stays d c more [] g (none_given d c g)
pieces_joined d c (b ∷ bs) more g none =
    by_bool (wants d c g)
    (λ h.
    let o = with_byte b g in
    let all : given_bytes d c (b ∷ bs) g ≡ then_given 1 (given_bytes d c bs) o.given o.refused = one_wanted d c b bs g h in
    by_option o.refused
    (λ fine.
    let on : given_bytes d c (b ∷ bs) g ≡ further 1 (given_bytes d c bs o.given) = all ∙ ap (then_given 1 (given_bytes d c bs) o.given) fine in
    let inner : (given_bytes d c bs o.given).refused ≡ None = sym (ap (λ (p : Progress). p.refused) on) ∙ none in
    one_wanted d c b (bs ++ more) g h
    ∙ (ap (then_given 1 (given_bytes d c (bs ++ more)) o.given) fine
    ∙ (ap (further 1) (pieces_joined d c bs more o.given inner)
    ∙ (one_on d c b bs more (given_bytes d c bs o.given) ∙ sym (ap (onwards d c more (b ∷ bs)) on)))))
    (λ e bad. absurd (never e (sym none ∙ (ap (λ (p : Progress). p.refused) all ∙ ap (λ x. (then_given 1 (given_bytes d c bs) o.given x).refused) bad)))))
    (λ h. stays d c more (b ∷ bs) g (none_wanted d c (b ∷ bs) g h))

-- ---- a summary

pub summary_bytes : (d c : ℤ) (bs : List ℕ) (n : ℕ) (g : Given) → g.header ≡ None → length g.bytes + suc n ≡ 68 → suc n ≤ length bs
    → given_bytes d c bs g
    ≡ then_given (suc n) (given_bytes d c (drop (suc n) bs)) (with_summary_bytes (g.bytes ++ take (suc n) bs) (with_held [] g)).given
    (with_summary_bytes (g.bytes ++ take (suc n) bs) (with_held [] g)).refused
summary_bytes d c bs n g absent ends there =
    let none : is_some g.header ≡ false = ap is_some absent in
    let goal_is : goal g ≡ 68 = ap goal_by none in
    let wanted : wants d c g ≡ true = ap (λ b. not b || int_lt (pos 0) (needed d c g)) none in
    let summary : with_whole (g.bytes ++ take (suc n) bs) g ≡ with_summary_bytes (g.bytes ++ take (suc n) bs) (with_held [] g) =
    ap (λ b. cond b (with_packet_bytes (g.bytes ++ take (suc n) bs) (with_held [] g)) (with_summary_bytes (g.bytes ++ take (suc n) bs) (with_held [] g))) none in
    whole_bytes d c bs n g wanted (ends ∙ sym goal_is) there
    ∙ ap (λ (o : Outcome). then_given (suc n) (given_bytes d c (drop (suc n) bs)) o.given o.refused) summary

pub part_of_summary : (d c : ℤ) (bs : List ℕ) (g : Given) → g.header ≡ None → length g.bytes + length bs < 68
    → given_bytes d c bs g ≡ record { given = with_held (g.bytes ++ bs) g; taken = length bs; refused = None }
part_of_summary d c bs g absent short =
    let none : is_some g.header ≡ false = ap is_some absent in
    let goal_is : goal g ≡ 68 = ap goal_by none in
    let wanted : wants d c g ≡ true = ap (λ b. not b || int_lt (pos 0) (needed d c g)) none in
    kept_bytes d c bs g wanted (omega arith)
