-- What contracts see of a pass's fields, and what they keep.
use Rattle.std.specs.Prelude.{◌≡◌, true, []}
use Rattle.crossbeam_queue.specs.Passes.{view}
use Rattle.gop_board.specs.declared.job_queue.JobPass.TheInside.{Inside}
use Rattle.gop_board.specs.Handing.{Passing}

abbrev pub passing_of : Inside → Passing
passing_of fields = record {
  queue = record { id = fields.pass.table_id; jobs = (view fields.pass).jobs };
  part = view fields.pass;
  misses = fields.misses;
}

-- it holds no place of the queue's row, isn't gone, and its pushes were counted
pub record IsKept (fields : Inside) : Type 0 where
  pub free : fields.pass.me.1 ≡ []
  pub live : (view fields.pass).live ≡ true
  pub counted : (view fields.pass).pushed ≡ fields.pushed
