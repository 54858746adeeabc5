use Rattle.gop_channel.proofs.worker.GopWorker.run.Goals as goal

pub returns-clause-drives : goal.returns-clause-drives
returns-clause-drives g c = rw (← c.self.view_is) c.drive_gops.ensures.drives
