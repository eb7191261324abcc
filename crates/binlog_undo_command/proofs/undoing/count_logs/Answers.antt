use Rattle.std.proofs.Common.{List, subst}
use Rattle.std.proofs.lemmas.Result.{err_from_is_err_and}
use Rattle.std.specs.Io.KnownBytes.{Appends}
use Rattle.binlog_undo_command.specs.Undoing.{counts_line}
use Rattle.binlog_undo_command.specs.declared.scanning.ScannedLog.{ScannedLog}
use Rattle.binlog_undo_command.proofs.undoing.count_logs.Goals as goal

pub returns-in_err-scanned-clause-usage : goal.returns-in_err-scanned-clause-usage
returns-in_err-scanned-clause-usage g c =
    let p = err_from_is_err_and c.from_residual.result c.from_residual.ensures.1 in
    rw (p.1, p.2) c.in_err-scanned.ensures.usage

pub returns-in-Ok-clause-counts : goal.returns-in-Ok-clause-counts
returns-in-Ok-clause-counts g c =
    subst (λ (logs : List ScannedLog). Appends (g.W.Write.contents c.args.writer.now) (g.W.Write.contents c.write_counts.new.writer) (counts_line logs)) c.as_slice.ensures.value c.in-Ok.ensures
