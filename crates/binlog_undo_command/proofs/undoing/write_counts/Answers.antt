use Rattle.std.proofs.Common.{◌-◌, ◌^◌, min}
use Rattle.std.proofs.KnownBytes.{Appends-kept}
use Rattle.std.specs.Io.KnownBytes.{Appends}
use Rattle.binlog_undo_command.specs.Undoing.{transactions_in, changes_in, counts_line}
use Rattle.binlog_undo_command.proofs.Counts.{line_appended, on_any}
use Rattle.binlog_undo_command.proofs.undoing.write_counts.Goals as goal

pub returns : goal.returns
returns g c =
    let line = rw (c.transactions_in-transactions.ensures, c.changes_in-changes.ensures) at c.in_ok-writeln.ensures.bytes in
    on_any c.flush.result (Appends (g.W.Write.contents c.args.writer.now) (g.W.Write.contents c.flush.new.self) (counts_line c.args.scanned.now))
    (Appends-kept (g.W.Write.contents c.args.writer.now) (g.W.Write.contents c.writeln.new.self) (g.W.Write.contents c.flush.new.self) (counts_line c.args.scanned.now)
    (line_appended (g.W.Write.contents c.args.writer.now) (g.W.Write.contents c.writeln.new.self) (min (transactions_in c.args.scanned.now) (2 ^ 64 - 1)) (min (changes_in c.args.scanned.now) (2 ^ 64 - 1)) line)
    c.flush.ensures.bytes)
