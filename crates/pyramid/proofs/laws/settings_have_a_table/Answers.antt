use Rattle.pyramid.proofs.PublicLaws.{settings_have_a_table, settings_switch_in_order}
use Rattle.pyramid.proofs.laws.settings_have_a_table.Goals as goal

pub returns-clause-table : goal.returns-clause-table
returns-clause-table c = settings_have_a_table

pub returns-clause-switches : goal.returns-clause-switches
returns-clause-switches c = settings_switch_in_order
