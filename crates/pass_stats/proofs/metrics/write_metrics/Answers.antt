use Rattle.std.proofs.Common.{◌≡◌, ◌+◌, [], ◌++◌, FitsSigned, w32, refl, sym, ◌∙◌, rules}
use Rattle.std.specs.Int.{to_le_bytes}
use Rattle.std.proofs.lemmas.Int.{to_z-of_z}
use Rattle.pass_stats.specs.Bytes.{i32_bytes}
use Rattle.pass_stats.specs.Metric.{Metric}
use Rattle.pass_stats.proofs.MetricFacts.{Metric-shown, Metric-hidden, Metric-unique}
use Rattle.pass_stats.proofs.Spelling.{Metric-spelling, Metric-word_shown, Metric-word_hidden}
use Rattle.pass_stats.proofs.metrics.write_metrics.Goals as goal
use Rattle.pass_stats.proofs.metrics.write_metrics.Goals.{then-m, else-m}

fits : (c : goal.After-append_i32) → FitsSigned w32 c.args.m.now.log_scale_q24
fits c = search rules

bytes : (c : goal.After-append_i32) → c.append_i32.new.bytes.items ≡ [] ++ to_le_bytes w32 (c.if-m.flag + c.args.m.now.fti) ++ i32_bytes c.args.m.now.log_scale_q24
bytes c =
    rw (c.append_i32.ensures.items, c.append.ensures.items, c.new-bytes.ensures, c.to_le_bytes.ensures, c.from.ensures, to_z-of_z w32 c.args.m.now.log_scale_q24 (fits c)) refl

written : (c : goal.After-append_i32) → Metric c.append_i32.new.bytes.items c.args.m.now
written c =
    let m = c.args.m.now in
    rw (bytes c) (elim c.if-m.branch [
      | then-m w ↦ Metric-shown m c.if-m.flag w.flag-is w.if-m.true c.requires (fits c)
      | else-m w ↦ Metric-hidden m c.if-m.flag w.flag-is w.if-m.false c.requires (fits c)
    ])

pub returns-clause-written : goal.returns-clause-written
returns-clause-written c = written c

pub returns-clause-one_value : goal.returns-clause-one_value
returns-clause-one_value c other h = Metric-unique _ c.args.m.now other (written c) h

pub returns-clause-one_spelling : goal.returns-clause-one_spelling
returns-clause-one_spelling c xs are h =
    let m = c.args.m.now in
    elim c.if-m.branch [
      | then-m w ↦ Metric-spelling xs m c.if-m.flag are h (Metric-word_shown xs m c.if-m.flag are h w.flag-is w.if-m.true) ∙ sym (bytes c)
      | else-m w ↦ Metric-spelling xs m c.if-m.flag are h (Metric-word_hidden xs m c.if-m.flag h w.flag-is w.if-m.false) ∙ sym (bytes c)
    ]
