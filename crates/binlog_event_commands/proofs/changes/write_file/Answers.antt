use Rattle.std.proofs.Common.{inr}
use Rattle.binlog_event_commands.proofs.changes.write_file.Goals as goal

pub returns-in-Ok : goal.returns-in-Ok
returns-in-Ok g c = inr (c.begin.new.self, rw c.in-Ok.is at c.begin.ensures.ok, c.show_file.ensures)
