-- What contracts see of a core's fields.
use Rattle.gop_board.specs.declared.core_state.CoreState.TheInside.{Inside}
use Rattle.gop_board.specs.Core.{Core}

abbrev pub core_of : Inside → Core
core_of fields = record {
  jobs = fields.jobs;
  submitted = fields.submitted;
  queued = fields.queued.items;
  held = fields.held.items;
  deposited = fields.deposited.items;
  collected = fields.collected;
}
