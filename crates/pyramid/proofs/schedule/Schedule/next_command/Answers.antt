use Rattle.std.proofs.Common.{sym, ◌∙◌}
use Rattle.pyramid.specs.Places.{settled_commands}
use Rattle.pyramid.proofs.ScheduleSteps.{next-is, next-none}
use Rattle.pyramid.proofs.schedule.Schedule.next_command.Goals as goal

pub returns-in-Some : goal.returns-in-Some
returns-in-Some c = λ numbers interval frames flushed keys commands is.
    let s = c.args.self.now in
    next-is s.places.items (settled_commands numbers interval frames flushed keys) commands c.in-Some.place (sym c.in-Some.is ∙ c.first.ensures) s.ready is.commands_are

pub returns-in-None : goal.returns-in-None
returns-in-None c = λ numbers interval frames flushed keys commands is.
    next-none c.args.self.now.places.items (settled_commands numbers interval frames flushed keys) commands (sym c.in-None.is ∙ c.first.ensures) is.commands_are
