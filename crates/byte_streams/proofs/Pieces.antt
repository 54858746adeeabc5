-- Pieces of a source's bytes, and of a text.
use Rattle.std.proofs.Common.{◌≡◌, ℕ, ◌+◌, ◌-◌, ◌<◌, ◌≤◌, List, [], ◌++◌, length, take, drop, min, Option, None, Some, sym, ap, append-nil, arith}
use Rattle.std.specs.Io.KnownBytes.{Appends, Consumes, IsAtEnd}
use Rattle.std.proofs.KnownBytes.{Appends-trans}
use Rattle.std.proofs.Math.ListN.{drop_of_length-le}
use Rattle.std.proofs.Math.Seq.{take-append_seam, drop-append_seam}
use Rattle.std.proofs.lemmas.List.{take-append-drop, take-append-le, drop-take, length-take-le, length-append}
use Rattle.byte_streams.specs.Streams.{GrowsByPart, TakesAtMost, IsTooLong, ReadsAll}

pub front_copied : (n : ℕ) (rest copied buf : List ℕ) → copied ≡ take n rest → n ≤ length rest → take n (copied ++ buf) ≡ take n rest
front_copied n rest copied buf e h =
    let long : length (take n rest) ≡ n = length-take-le n rest h in
    rw e (rw long at (take-append_seam (take n rest) buf))

pub at_end : (t n m : ℕ) (bytes : List ℕ) → n ≡ min (length bytes - t) m → n ≡ 0 → 0 < m → drop (t + n) bytes ≡ []
at_end t n m bytes least none some = drop_of_length-le bytes {i = t + n} (omega arith)

-- ---- reads

pub takes : (most : ℕ) (a b : Option (List ℕ)) (bs : List ℕ) → Consumes a b bs → length bs ≤ most → TakesAtMost most a b
takes most None b bs p h = tt
takes most (Some x) None bs p h = absurd p
takes most (Some x) (Some y) bs p h =
    let same : length x - length y ≡ length bs = omega (arith, ap length p, length-append bs y) in
    (omega arith, rw (same, p) (sym (drop-append_seam bs y)))

pub all_read : (limit : ℕ) (a b : Option (List ℕ)) (bs : List ℕ) → Consumes a b bs → IsAtEnd b → length bs ≤ limit →
    ReadsAll limit a b (λ all. all ≡ bs)
all_read limit None b bs p e h = tt
all_read limit (Some x) None bs p e h = absurd p
all_read limit (Some x) (Some y) bs p e h =
    let same : x ≡ bs = rw (e, append-nil bs) at p in
    (ap Some e, rw same h, same)

pub over : (limit : ℕ) (a b : Option (List ℕ)) (bs : List ℕ) → Consumes a b bs → length bs ≡ limit + 1 → IsTooLong limit a b
over limit None b bs p h = tt
over limit (Some x) None bs p h = absurd p
over limit (Some x) (Some y) bs p h =
    let rest : drop (length bs) x ≡ y = rw p (drop-append_seam bs y) in
    (omega (arith, ap length p, length-append bs y), sym (rw h at rest))

-- ---- writes

pub part_written : (a b : Option (List ℕ)) (n : ℕ) (text : List ℕ) → Appends a b (take n text) → n ≤ length text → GrowsByPart a b text
part_written None b n text p h = tt
part_written (Some x) None n text p h = absurd p
part_written (Some x) (Some y) n text p h =
    let same : length y - length x ≡ n = omega (arith, ap length p, length-append x (take n text), length-take-le n text h) in
    rw same p

shorter : (w n : ℕ) (text : List ℕ) → w + n ≤ length text → take w (take (w + n) text) ≡ take w text
shorter w n text h =
    let long : length (take (w + n) text) ≡ w + n = length-take-le (w + n) text h in
    let front = take-append-le w (take (w + n) text) (drop (w + n) text) (omega arith) in
    sym (rw (take-append-drop (w + n) text) at front)

two_fronts : (w n : ℕ) (text : List ℕ) → w + n ≤ length text → take (w + n) text ≡ take w text ++ take n (drop w text)
two_fronts w n text h =
    let cut = take-append-drop w (take (w + n) text) in
    sym (rw (shorter w n text h, drop-take w n text) at cut)

pub more_written : (a b c : Option (List ℕ)) (w n : ℕ) (text piece : List ℕ) → piece ≡ drop w text → w + n ≤ length text → Appends a b (take w text) →
    Appends b c (take n piece) → Appends a c (take (w + n) text)
more_written a b c w n text piece e h p q =
    rw (two_fronts w n text h) (Appends-trans a b c (take w text) (take n (drop w text)) p (rw e at q))
