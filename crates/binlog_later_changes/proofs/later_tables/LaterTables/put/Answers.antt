use Rattle.std.proofs.Common.{refl}
use Rattle.change_statistics.proofs.NamedTables.{updates_name}
use Rattle.binlog_later_changes.proofs.later_tables.LaterTables.put.Goals as goal

pub returns : goal.returns
returns c = record {
  names = updates_name c.args.self.now.tables c.insert.new.self c.args.name c.args.is_found c.in_ok-insert.ensures.updates;
  undone = refl;
  any = refl;
  found = refl;
}
