-- Numbers written and read back, and the bytes of a summary put together.
use Rattle.std.proofs.Common.{◌≡◌, ℕ, ◌+◌, ◌<◌, ◌^◌, ℤ, pos, List, [], ◌∷◌, ◌++◌, length, take, slice_index_or, ◌↔◌, FitsSigned, w32, w64, of_z, refl, sym, ◌∙◌, ap, subst, arith}
use Rattle.std.specs.List.{flat_map}
use Rattle.std.specs.Int.{to_le_bytes, Width, from_le_bytes, cast_signed}
use Rattle.std.proofs.lemmas.Int.{ints, to_z-of_z}
use Rattle.std.proofs.lemmas.List.{flat_map_more, take_more}
use Rattle.std.proofs.lemmas.Nat.{from_le_bytes-to_le_bytes_4, from_le_bytes-to_le_bytes_8}
use Rattle.pass_stats.specs.Bytes.{u32_at, i32_at, i64_at, i32_bytes, i64_bytes}
use Rattle.pass_stats.specs.Grammar.{IsSummary, frame_total}
use Rattle.pass_stats.specs.declared.summary.RCSummary.{RCSummary}
use Rattle.pass_stats.specs.Summary.{Summary, Spells, counts_at, exponents_at, sums_at}

of_z-lt_32 : (z : ℤ) → FitsSigned w32 z → of_z w32 z < 2 ^ 32
of_z-lt_32 z h = omega (arith, ints)

of_z-lt_64 : (z : ℤ) → FitsSigned w64 z → of_z w64 z < 2 ^ 64
of_z-lt_64 z h = omega (arith, ints)

pub read-i32_bytes : (z : ℤ) → FitsSigned w32 z → cast_signed w32 (from_le_bytes w32 (i32_bytes z)) ≡ z
unfolding i32_bytes
read-i32_bytes z h = ap (cast_signed w32) (from_le_bytes-to_le_bytes_4 (of_z w32 z) (of_z-lt_32 z h)) ∙ to_z-of_z w32 z h

pub read-i64_bytes : (z : ℤ) → FitsSigned w64 z → cast_signed w64 (from_le_bytes w64 (i64_bytes z)) ≡ z
unfolding i64_bytes
read-i64_bytes z h = ap (cast_signed w64) (from_le_bytes-to_le_bytes_8 (of_z w64 z) (of_z-lt_64 z h)) ∙ to_z-of_z w64 z h

five : (xs : List ℤ) → length xs ≡ 5 → xs ≡ slice_index_or xs 0 (pos 0) ∷ slice_index_or xs 1 (pos 0) ∷ slice_index_or xs 2 (pos 0) ∷ slice_index_or xs 3 (pos 0) ∷ slice_index_or xs 4 (pos 0) ∷ []
five [] h = absurd (omega arith)
five (a ∷ []) h = absurd (omega arith)
five (a ∷ b ∷ []) h = absurd (omega arith)
five (a ∷ b ∷ c ∷ []) h = absurd (omega arith)
five (a ∷ b ∷ c ∷ d ∷ []) h = absurd (omega arith)
five (a ∷ b ∷ c ∷ d ∷ e ∷ []) h = refl
five (a ∷ b ∷ c ∷ d ∷ e ∷ f ∷ xs) h = absurd (omega arith)

four : (xs : List ℤ) → length xs ≡ 4 → xs ≡ slice_index_or xs 0 (pos 0) ∷ slice_index_or xs 1 (pos 0) ∷ slice_index_or xs 2 (pos 0) ∷ slice_index_or xs 3 (pos 0) ∷ []
four [] h = absurd (omega arith)
four (a ∷ []) h = absurd (omega arith)
four (a ∷ b ∷ []) h = absurd (omega arith)
four (a ∷ b ∷ c ∷ []) h = absurd (omega arith)
four (a ∷ b ∷ c ∷ d ∷ []) h = refl
four (a ∷ b ∷ c ∷ d ∷ e ∷ xs) h = absurd (omega arith)

four_bytes : (xs : List ℕ) → length xs ≡ 4 → xs ≡ slice_index_or xs 0 0 ∷ slice_index_or xs 1 0 ∷ slice_index_or xs 2 0 ∷ slice_index_or xs 3 0 ∷ []
four_bytes [] h = absurd (omega arith)
four_bytes (a ∷ []) h = absurd (omega arith)
four_bytes (a ∷ b ∷ []) h = absurd (omega arith)
four_bytes (a ∷ b ∷ c ∷ []) h = absurd (omega arith)
four_bytes (a ∷ b ∷ c ∷ d ∷ []) h = refl
four_bytes (a ∷ b ∷ c ∷ d ∷ e ∷ xs) h = absurd (omega arith)

-- the bytes of these values, one field after another
abbrev pub summary_bytes : ℤ → List ℤ → List ℕ → List ℤ → List ℕ
summary_bytes ntus nframes exp scale_sum =
    [] ++ to_le_bytes w32 0x5032_4156 ++ to_le_bytes w32 1 ++ i32_bytes ntus ++ flat_map i32_bytes nframes ++ exp ++ flat_map i64_bytes scale_sum

counts-summary_bytes : (ntus a b c d e : ℤ) (p q r s : ℕ) (sums : List ℤ) → FitsSigned w32 a → FitsSigned w32 b → FitsSigned w32 c → FitsSigned w32 d → FitsSigned w32 e → counts_at (summary_bytes ntus (a ∷ b ∷ c ∷ d ∷ e ∷ []) (p ∷ q ∷ r ∷ s ∷ []) sums) ≡ a ∷ b ∷ c ∷ d ∷ e ∷ []
unfolding counts_at i32_at i32_bytes
counts-summary_bytes ntus a b c d e p q r s sums ha hb hc hd he =
    rw (read-i32_bytes a ha, read-i32_bytes b hb, read-i32_bytes c hc, read-i32_bytes d hd, read-i32_bytes e he)

sums-summary_bytes : (ntus a b c d e : ℤ) (p q r s : ℕ) (t u v w : ℤ) → FitsSigned w64 t → FitsSigned w64 u → FitsSigned w64 v → FitsSigned w64 w → sums_at (summary_bytes ntus (a ∷ b ∷ c ∷ d ∷ e ∷ []) (p ∷ q ∷ r ∷ s ∷ []) (t ∷ u ∷ v ∷ w ∷ [])) ≡ t ∷ u ∷ v ∷ w ∷ []
unfolding sums_at i64_at i32_bytes i64_bytes
sums-summary_bytes ntus a b c d e p q r s t u v w ht hu hv hw =
    rw (read-i64_bytes t ht, read-i64_bytes u hu, read-i64_bytes v hv, read-i64_bytes w hw)

Spells-elements : (ntus a b c d e : ℤ) (p q r s : ℕ) (t u v w : ℤ) → FitsSigned w32 ntus → FitsSigned w32 a → FitsSigned w32 b → FitsSigned w32 c → FitsSigned w32 d → FitsSigned w32 e → FitsSigned w64 t → FitsSigned w64 u → FitsSigned w64 v → FitsSigned w64 w
    → Spells (summary_bytes ntus (a ∷ b ∷ c ∷ d ∷ e ∷ []) (p ∷ q ∷ r ∷ s ∷ []) (t ∷ u ∷ v ∷ w ∷ [])) ntus (a ∷ b ∷ c ∷ d ∷ e ∷ []) (p ∷ q ∷ r ∷ s ∷ []) (t ∷ u ∷ v ∷ w ∷ [])
unfolding u32_at i32_at exponents_at i32_bytes i64_bytes
Spells-elements ntus a b c d e p q r s t u v w hn ha hb hc hd he ht hu hv hw = record {
  size = refl;
  magic = refl;
  version = refl;
  ntus_is = sym (read-i32_bytes ntus hn);
  nframes_is = sym (counts-summary_bytes ntus a b c d e p q r s (t ∷ u ∷ v ∷ w ∷ []) ha hb hc hd he);
  exp_is = refl;
  scale_sum_is = sym (sums-summary_bytes ntus a b c d e p q r s t u v w ht hu hv hw);
}

-- the first n numbers of the list fit its type
abbrev Fit : Width → ℕ → List ℤ → Type 0
Fit w n xs = (k : ℕ) → k < n → FitsSigned w (slice_index_or xs k (pos 0))

pub Spells-summary_bytes : (ntus : ℤ) (nframes : List ℤ) (exp : List ℕ) (scale_sum : List ℤ) → FitsSigned w32 ntus → length nframes ≡ 5 → Fit w32 5 nframes → length exp ≡ 4 → length scale_sum ≡ 4 → Fit w64 4 scale_sum → Spells (summary_bytes ntus nframes exp scale_sum) ntus nframes exp scale_sum
Spells-summary_bytes ntus nframes exp scale_sum hn len5 fit32 len4 len4' fit64 =
    let c : List ℤ = slice_index_or nframes 0 (pos 0) ∷ slice_index_or nframes 1 (pos 0) ∷ slice_index_or nframes 2 (pos 0) ∷ slice_index_or nframes 3 (pos 0) ∷ slice_index_or nframes 4 (pos 0) ∷ [] in
    let e : List ℕ = slice_index_or exp 0 0 ∷ slice_index_or exp 1 0 ∷ slice_index_or exp 2 0 ∷ slice_index_or exp 3 0 ∷ [] in
    let s : List ℤ = slice_index_or scale_sum 0 (pos 0) ∷ slice_index_or scale_sum 1 (pos 0) ∷ slice_index_or scale_sum 2 (pos 0) ∷ slice_index_or scale_sum 3 (pos 0) ∷ [] in
    let all : Spells (summary_bytes ntus c e s) ntus c e s =
    Spells-elements ntus _ _ _ _ _ _ _ _ _ _ _ _ _ hn (fit32 0 (omega arith)) (fit32 1 (omega arith)) (fit32 2 (omega arith)) (fit32 3 (omega arith)) (fit32 4 (omega arith)) (fit64 0 (omega arith)) (fit64 1 (omega arith)) (fit64 2 (omega arith)) (fit64 3 (omega arith)) in
    let by_counts : Spells (summary_bytes ntus nframes e s) ntus nframes e s =
    subst (λ (x : List ℤ). Spells (summary_bytes ntus x e s) ntus x e s) (sym (five nframes len5)) all in
    let by_exps : Spells (summary_bytes ntus nframes exp s) ntus nframes exp s =
    subst (λ (x : List ℕ). Spells (summary_bytes ntus nframes x s) ntus nframes x s) (sym (four_bytes exp len4)) by_counts in
    subst (λ (x : List ℤ). Spells (summary_bytes ntus nframes exp x) ntus nframes exp x) (sym (four scale_sum len4')) by_exps

-- bytes spell one list of values
pub Spells-values : (bytes : List ℕ) (n n' : ℤ) (c c' : List ℤ) (e e' : List ℕ) (s s' : List ℤ) → Spells bytes n c e s → Spells bytes n' c' e' s' → (n' ≡ n) × (c' ≡ c) × (e' ≡ e) × (s' ≡ s)
Spells-values bytes n n' c c' e e' s s' h h' =
    (h'.ntus_is ∙ sym h.ntus_is, h'.nframes_is ∙ sym h.nframes_is, h'.exp_is ∙ sym h.exp_is, h'.scale_sum_is ∙ sym h.scale_sum_is)

-- bytes are a summary exactly where their values may be one
pub Spells-in_grammar : (bytes : List ℕ) (n : ℤ) (c : List ℤ) (e : List ℕ) (s : List ℤ) → Spells bytes n c e s → ((r : RCSummary) × Summary bytes r) ↔ IsSummary n c e s (frame_total c)
Spells-in_grammar bytes n c e s h = (
  λ p. (let r = p.0 in
      let v = Spells-values bytes n r.ntus c r.nframes e r.exp s r.scale_sum h p.1 in
      let total : r.total ≡ frame_total c = r.grammar.total_is ∙ ap frame_total v.1 in
      rw (sym v.0, sym total, sym v.1, sym v.2, sym v.3) r.grammar),
  λ g. (record { ntus = n; nframes = c; exp = e; scale_sum = s; total = frame_total c; grammar = g }, h),
)

-- one more piece
pub flat_map-take_more : (f : ℤ → List ℕ) (bs : List ℕ) (xs : List ℤ) (k : ℕ) → k < length xs → bs ++ flat_map f (take (k + 1) xs) ≡ (bs ++ flat_map f (take k xs)) ++ f (slice_index_or xs k (pos 0))
flat_map-take_more f bs xs k h = rw (take_more xs k (pos 0) h) (sym (flat_map_more f bs (take k xs) (slice_index_or xs k (pos 0))))
