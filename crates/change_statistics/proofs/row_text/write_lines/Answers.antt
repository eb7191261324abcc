use Rattle.std.proofs.Common.{◌<◌, length, arith}
use Rattle.change_statistics.specs.RowText.{rows_line}
use Rattle.change_statistics.proofs.WrittenLists.{row_written}
use Rattle.change_statistics.proofs.row_text.write_lines.Goals as goal

pub tables-preserved : goal.tables-preserved
tables-preserved g c =
    let within : c.tables.index < length c.args.stats.now.tables.entries = omega arith in
    row_written rows_line c.args.stats.now.tables.entries c.tables.index _ _ _ within c.tables.invariant c.in_ok-write_line.ensures
