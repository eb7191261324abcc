use Rattle.std.proofs.Common.{List, OnOk, length, arith, subst}
use Rattle.std.proofs.lemmas.List.{take_all}
use Rattle.std.specs.Io.KnownBytes.{Appends}
use Rattle.std.specs.Prelude.{flat_map}
use Rattle.change_statistics.specs.declared.table_counts.TableCounts.{TableCounts}
use Rattle.change_statistics.specs.declared.table_name.TableName.{TableName}
use Rattle.change_statistics.specs.RowText.{rows_line}
use Rattle.change_statistics.proofs.row_text.write_table_rows.Goals as goal

pub returns : goal.returns
returns g c =
    let lines = rw c.len.ensures.len at c.write_lines.ensures in
    let entries : List (TableName × TableCounts) = c.args.stats.now.tables.entries in
    subst (λ (all : List (TableName × TableCounts)). OnOk c.write_lines.result (Appends (g.W.Write.contents c.args.output.now) (g.W.Write.contents c.write_lines.new.output) (flat_map rows_line all)))
    (take_all (length entries) entries (omega arith)) lines
