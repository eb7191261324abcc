use Rattle.std.proofs.Common.{drop}
use Rattle.binlog_change_lines.specs.declared.change_filter.ChangeFilter.{ChangeFilter}
use Rattle.binlog_cli.specs.declared.exit_status.Outcome.{Outcome}
use Rattle.binlog_cli.specs.declared.exit_status.Status.TheVariants.{Fine}
use Rattle.binlog_event_commands.specs.Changes.{ChangesFrom}
use Rattle.binlog_event_commands.proofs.changes.write_files.Given as goal

-- Whatever is written of the files that are left, with those so far it is what is written of all.
abbrev pub invariant-loop-place : goal.invariant-loop-place
invariant-loop-place g l = (result : Outcome) (new : ChangeFilter g.row.W.Denot)
    → ChangesFrom g.W.Write.contents l.reading.is_verified l.reading.is_followed (λ name. name.now) (λ name. g.S.Inputs.bytes l.inputs name.now) l.asked l.place (drop l.place l.names) l.status l.lines result new
    → ChangesFrom g.W.Write.contents l.reading.is_verified l.reading.is_followed (λ name. name.now) (λ name. g.S.Inputs.bytes l.inputs name.now) l.asked 0 l.names Fine l.fn.lines result new
