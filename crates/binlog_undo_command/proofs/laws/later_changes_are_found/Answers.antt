use Rattle.binlog_cli.specs.TableWords.{texts_given}
use Rattle.std.proofs.Common.{codes}
use Rattle.binlog_undo_command.proofs.LaterFound.{are_later}
use Rattle.binlog_undo_command.proofs.laws.later_changes_are_found.Goals as goal

pub returns : goal.returns
returns g c = λ logs found bytes scanned changes are small looks. (
  looks.rules,
  looks.stated,
  are_later (g.L.Logs.bytes logs) bytes (g.L.Logs.has_frames logs) g.L.Sought.Frames.is_at looks.rules are small scanned (texts_given found (codes "later")) looks.none changes looks.fresh looks.finds,
)
