use Rattle.std.proofs.Common.{take}
use Rattle.std.specs.Prelude.{flat_map}
use Rattle.std.specs.Io.KnownBytes.{Appends}
use Rattle.change_statistics.specs.RowText.{rows_line}
use Rattle.change_statistics.proofs.row_text.write_lines.Given as goal

abbrev pub invariant-tables : goal.invariant-tables
invariant-tables g l = Appends (g.W.Write.contents l.fn.output) (g.W.Write.contents l.output) (flat_map rows_line (take l.index l.stats.tables.entries))
