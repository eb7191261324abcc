use Rattle.std.proofs.Common.{take}
use Rattle.std.specs.Prelude.{flat_map}
use Rattle.std.specs.Io.KnownBytes.{Appends}
use Rattle.binlog_summaries.specs.TableJson.{table_line}
use Rattle.binlog_summaries.proofs.table_json.write_lines.Given as goal

abbrev pub invariant-tables : goal.invariant-tables
invariant-tables g l = Appends (g.W.Write.contents l.fn.output) (g.W.Write.contents l.output) (flat_map table_line (take l.index l.stats.tables.entries))
