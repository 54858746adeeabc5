use Rattle.session_log.specs.Passes.{no_passes}
use Rattle.session_core.specs.PassStates.{IsBegun}
use Rattle.session_core.proofs.Beginning.{begun-delay, begun-first, begun-none}
use Rattle.session_core.proofs.state.SessionState.with_first_pass.Goals as goal

pub returns-then-emits-clause-delay : goal.returns-then-emits-clause-delay
returns-then-emits-clause-delay g c =
    let enc = c.args.enc.now in
    let tables = c.args.tables.now in
    let fresh : IsBegun enc tables no_passes c.new-state.result = record {
      opens = c.new-state.ensures.moment;
      kept = c.new-state.ensures.kept;
      tables_are = c.new-state.ensures.tables;
      passes_are = c.new-state.ensures.passes;
    } in
    begun-delay enc tables c.args.emits c.begin_first_pass.new.self
    (begun-first enc tables c.args.emits c.new-state.result c.begin_first_pass.new.self fresh c.if-emits.true c.begin_first_pass.ensures.others
    c.begin_first_pass.ensures.kept c.begin_first_pass.ensures.tables c.begin_first_pass.ensures.passes)

pub returns-else-emits-clause-delay : goal.returns-else-emits-clause-delay
returns-else-emits-clause-delay g c =
    let enc = c.args.enc.now in
    let tables = c.args.tables.now in
    begun-delay enc tables c.args.emits c.new-state.result (begun-none enc tables c.args.emits c.new-state.result (record {
      opens = c.new-state.ensures.moment;
      kept = c.new-state.ensures.kept;
      tables_are = c.new-state.ensures.tables;
      passes_are = c.new-state.ensures.passes;
    }) c.if-emits.false)
