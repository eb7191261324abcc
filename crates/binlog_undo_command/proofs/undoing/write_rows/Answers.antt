use Rattle.std.proofs.Common.{◌++◌, Option, List, ℕ}
use Rattle.std.proofs.KnownBytes.{Appends-kept}
use Rattle.std.specs.Prelude.{flat_map}
use Rattle.change_statistics.proofs.WrittenTexts.{appends_both}
use Rattle.change_statistics.specs.RowText.{rows_line}
use Rattle.binlog_undo_command.specs.Undoing.{counts_line}
use Rattle.binlog_undo_command.proofs.Counts.{on_any}
use Rattle.binlog_undo_command.proofs.undoing.write_rows.Goals as goal

pub returns : goal.returns
returns g c =
    let counts = counts_line c.args.scanned.now in
    let rows = flat_map rows_line c.args.stats.now.tables.entries in
    on_any c.flush.result _
    (Appends-kept (g.W.Write.contents c.args.writer.now) (g.W.Write.contents c.write_table_lines.new.writer) (g.W.Write.contents c.flush.new.self) (counts ++ rows)
    (appends_both _ _ _ counts rows c.in_ok-write_counts.ensures c.in_ok-write_table_lines.ensures) c.flush.ensures.bytes)
