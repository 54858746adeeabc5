use Rattle.scripted.specs.ScriptedTables.{steps_of_eight}
use Rattle.scripted.proofs.GoodTables.{never_bad, steps_good}
use Rattle.scripted.proofs.tables.scripted_tables.Goals as goal

pub unreachable-requires : goal.unreachable-requires
unreachable-requires c =
    never_bad c.steps_of_eight.result c.steps_of_eight-2.result steps_of_eight c.in-Err.field-0.place steps_good c.steps_of_eight.ensures c.steps_of_eight-2.ensures
    (rw c.in-Err.is at c.new.ensures)
