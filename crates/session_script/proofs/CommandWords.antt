-- The words of the command line.
use Rattle.std.proofs.Common.{◌≡◌, List, [], ◌∷◌, length, get_or, map, sym, ap, string_bytes, arith}
use Rattle.std.specs.Prelude.{String}
use Rattle.std.specs.declared.alloc.Global.{Global}

pub one_word : (words : List (String Global)) (word : String Global) → length words ≡ 1 → word ≡ get_or words 0 word →
    map string_bytes words ≡ string_bytes word ∷ []
one_word [] word one is = absurd (omega arith)
one_word (x ∷ []) word one is = ap (λ w. string_bytes w ∷ []) (sym is)
one_word (x ∷ y ∷ words) word one is = absurd (omega arith)
