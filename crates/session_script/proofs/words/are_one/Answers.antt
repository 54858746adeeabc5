use Rattle.std.proofs.Common.{◌≡◌, [], ◌∷◌, map, sym, ap, ◌∙◌, string_bytes, length, arith}
use Rattle.std.specs.Str.{bytes_eq}
use Rattle.std.proofs.lemmas.Slice.Eq.{bytes_eq-Decides}
use Rattle.session_script.proofs.CommandWords.{one_word}
use Rattle.session_script.proofs.words.are_one.Goals as goal

pub returns-then-words-eq1 : goal.returns-then-words-eq1
returns-then-words-eq1 c =
    let first = c.index-words-0.result in
    let wanted = c.args.word.now in
    let one : length c.args.words.now ≡ 1 = omega arith in
    let words : map string_bytes c.args.words.now ≡ string_bytes first ∷ [] = one_word c.args.words.now first one c.index-words-0.is in
    let eq : c.eq.result ≡ bytes_eq c.as_str.result.now wanted = c.eq.ensures in
    let decides = bytes_eq-Decides c.as_str.result.now wanted in
    let seen : c.as_str.result.now ≡ string_bytes first = c.as_str.ensures.value in (
      λ yes. words ∙ ap (λ w. w ∷ []) (sym seen ∙ decides.0 (sym eq ∙ yes)),
      λ e. let same : string_bytes first ≡ wanted = cc in eq ∙ decides.1 (seen ∙ same),
    )
