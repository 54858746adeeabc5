-- A number that is read digit by digit.
use Rattle.std.proofs.Common.{◌≡◌, ℕ, ◌+◌, ◌*◌, ◌^◌, ◌<◌, ◌≤◌, Bool, true, false, cond, ◌&&◌, ltb, List, length, get_or, take, Option, Some, None, refl, sym, arith}
use Rattle.std.specs.Char.{digit_value, is_ascii_digit}
use Rattle.std.specs.List.{list_all}
use Rattle.std.specs.Str.Parse.{digits_value}
use Rattle.std.proofs.Math.Seq.{take-length}
use Rattle.std.proofs.lemmas.Bool.{le-ltb}
use Rattle.std.proofs.lemmas.Bool.Decides.{nat_tests}
use Rattle.std.proofs.lemmas.Int.Digits.{digits_value_more}
use Rattle.std.proofs.lemmas.List.Folds.{list_all_more, list_all_at}
use Rattle.std.proofs.lemmas.Str.Parse.{digits_value-take-le}
use Rattle.script_lines.specs.DecimalNumbers.{digits_of}

-- the number with one more digit
abbrev pub next_digit : ℕ → ℕ → Option ℕ
next_digit value byte =
    cond (is_ascii_digit byte && ltb (value * 10 + digit_value byte) (2 ^ 64)) (Some (value * 10 + digit_value byte)) None

both : (a b : Bool) (x t : ℕ) → cond (a && b) (Some x) None ≡ Some t → (a ≡ true) × (x ≡ t) × (b ≡ true)
both true true x t e = (refl, cc, refl)
both true false x t e = cc
both false b x t e = cc

neither : (a b : Bool) (x : ℕ) → cond (a && b) (Some x) None ≡ None → a ≡ true → b ≡ false
neither true true x e h = cc
neither true false x e h = refl
neither false b x e h = cc

none_first : (a b : Bool) (x : ℕ) → a ≡ false → cond (a && b) (Some x) None ≡ None
none_first a b x e = rw e

none_second : (a b : Bool) (x : ℕ) → b ≡ false → cond (a && b) (Some x) None ≡ None
none_second true b x e = rw e
none_second false b x e = refl

below : (a b : ℕ) → ltb a b ≡ true → a < b
below a b e = grind (arith, nat_tests)

pub digits_more : (text : List ℕ) (i value next : ℕ) → i < length text → list_all is_ascii_digit (take i text) ≡ true →
    value ≡ digits_value 10 (take i text) → next_digit value (get_or text i 0) ≡ Some next →
    (list_all is_ascii_digit (take (i + 1) text) ≡ true) × (next ≡ digits_value 10 (take (i + 1) text)) × (next < 2 ^ 64)
digits_more text i value next lt all is e =
    let p = both _ _ _ next e in
    (rw (list_all_more is_ascii_digit text i 0 lt, all) p.0, rw (digits_value_more 10 text i lt, ← is) (sym p.1), rw (← p.1) (below _ _ p.2))

too_big : (text : List ℕ) (i value : ℕ) → i < length text → value ≡ digits_value 10 (take i text) →
    ltb (value * 10 + digit_value (get_or text i 0)) (2 ^ 64) ≡ false → ltb (digits_value 10 text) (2 ^ 64) ≡ false
too_big text i value lt is e =
    let big : 2 ^ 64 ≤ value * 10 + digit_value (get_or text i 0) = grind (arith, nat_tests) in
    let more : digits_value 10 (take (i + 1) text) ≡ value * 10 + digit_value (get_or text i 0) =
    rw is (digits_value_more 10 text i lt) in
    let whole : digits_value 10 (take (i + 1) text) ≤ digits_value 10 text = digits_value-take-le 10 text (i + 1) (omega arith) in
    le-ltb (digits_value 10 text) (2 ^ 64) (omega arith)

stop_by : (text : List ℕ) (i value : ℕ) (b : Bool) → is_ascii_digit (get_or text i 0) ≡ b → i < length text →
    value ≡ digits_value 10 (take i text) → next_digit value (get_or text i 0) ≡ None → digits_of text ≡ None
unfolding digits_of
stop_by text i value false d lt is e = none_first _ _ _ (list_all_at is_ascii_digit text i 0 lt d)
stop_by text i value true d lt is e = none_second _ _ _ (too_big text i value lt is (neither _ _ _ e d))

-- a digit that can't be added leaves no number
pub digits_stop : (text : List ℕ) (i value : ℕ) → i < length text → value ≡ digits_value 10 (take i text) →
    next_digit value (get_or text i 0) ≡ None → digits_of text ≡ None
digits_stop text i value lt is e = stop_by text i value _ refl lt is e

done_by : (a b : Bool) (x : ℕ) → a ≡ true → b ≡ true → Some x ≡ cond (a && b) (Some x) None
done_by a b x p q = rw (p, q)

pub digits_done : (text : List ℕ) (value : ℕ) → list_all is_ascii_digit (take (length text) text) ≡ true →
    value ≡ digits_value 10 (take (length text) text) → value < 2 ^ 64 → Some value ≡ digits_of text
unfolding digits_of
digits_done text value all is small =
    let whole = take-length text in
    let same : value ≡ digits_value 10 text = rw whole at is in
    let fits : ltb (digits_value 10 text) (2 ^ 64) ≡ true =
    let less : digits_value 10 text < 2 ^ 64 = rw (← same) small in grind (arith, nat_tests) in
    rw same (done_by (list_all is_ascii_digit text) (ltb (digits_value 10 text) (2 ^ 64)) (digits_value 10 text) (rw whole at all) fits)
