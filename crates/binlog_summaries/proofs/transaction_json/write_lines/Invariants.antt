use Rattle.std.proofs.Common.{take}
use Rattle.std.specs.Prelude.{flat_map}
use Rattle.std.specs.Io.KnownBytes.{Appends}
use Rattle.binlog_summaries.specs.TransactionJson.{transaction_line}
use Rattle.binlog_summaries.proofs.transaction_json.write_lines.Given as goal

abbrev pub invariant-transactions : goal.invariant-transactions
invariant-transactions g l = Appends (g.W.Write.contents l.fn.output) (g.W.Write.contents l.output) (flat_map transaction_line (take l.transaction-index l.transactions))
