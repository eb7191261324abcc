use Rattle.std.proofs.Common.{◌≡◌}
use Rattle.binlog_json_lines.specs.Options.{options_of}
use Rattle.binlog_items.proofs.Lines.{AreWritten}
use Rattle.binlog_items.proofs.json.write_items_by.Given as goal

abbrev pub invariant-loop-item : goal.invariant-loop-item
invariant-loop-item l = record {
  log : l.finder.log.now ≡ l.log;
  counted : l.count ≡ l.item-index;
  written : AreWritten (options_of l.options) l.log l.items l.table_maps l.index l.fn.text l.text l.count l.len;
}
