use Rattle.std.proofs.Common.{◌≡◌, length, w32, refl, sym, ◌∙◌, rules}
use Rattle.std.proofs.lemmas.Int.{to_z-of_z}
use Rattle.pass_stats.specs.Summary.{Spells}
use Rattle.pass_stats.proofs.Written.{Spells-summary_bytes, Spells-in_grammar, Spells-values, summary_bytes}
use Rattle.pass_stats.proofs.Spelling.{Spells-bytes}
use Rattle.pass_stats.proofs.write.write_summary.Goals as goal

written : (c : goal.After-append_sums) → c.append_sums.new.bytes.items ≡ summary_bytes c.args.ntus c.args.nframes c.args.exp c.args.scale_sum
written c =
    rw (c.append_sums.ensures.items, c.append-3.ensures.items, c.append_counts.ensures.items, c.append_i32.ensures.items, c.append-2.ensures.items, c.append.ensures.items, c.new-bytes.ensures, c.to_le_bytes.ensures, c.to_le_bytes-2.ensures, to_z-of_z w32 c.args.ntus c.ranges.ntus) refl

spelled : (c : goal.After-append_sums) → Spells c.append_sums.new.bytes.items c.args.ntus c.args.nframes c.args.exp c.args.scale_sum
spelled c =
    let five : length c.args.nframes ≡ 5 = search rules in
    let four_exps : length c.args.exp ≡ 4 = search rules in
    let four_sums : length c.args.scale_sum ≡ 4 = search rules in
    rw (written c) (Spells-summary_bytes c.args.ntus c.args.nframes c.args.exp c.args.scale_sum c.ranges.ntus five c.append_counts.ensures.fit four_exps four_sums c.append_sums.ensures.fit)

pub returns-clause-spelled : goal.returns-clause-spelled
returns-clause-spelled c = spelled c

pub returns-clause-in_grammar : goal.returns-clause-in_grammar
returns-clause-in_grammar c = Spells-in_grammar _ _ _ _ _ (spelled c)

pub returns-clause-one_value : goal.returns-clause-one_value
returns-clause-one_value c n counts exps sums h = Spells-values _ _ _ _ _ _ _ _ _ (spelled c) h

pub returns-clause-one_spelling : goal.returns-clause-one_spelling
returns-clause-one_spelling c bytes are h = Spells-bytes bytes _ _ _ _ are h ∙ sym (written c)
