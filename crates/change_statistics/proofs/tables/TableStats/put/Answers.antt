use Rattle.std.proofs.Common.{◌+◌, cond, Option, ap, refl, ◌∙◌}
use Rattle.std.specs.Prelude.{is_some, length}
use Rattle.change_statistics.specs.declared.table_counts.TableCounts.{TableCounts}
use Rattle.change_statistics.proofs.NamedTables.{updates_name}
use Rattle.change_statistics.proofs.tables.TableStats.put.Goals as goal

pub returns-clause-ok : goal.returns-clause-ok
returns-clause-ok c = record {
  tables = updates_name c.args.self.now.tables c.insert.new.self c.args.name c.args.counts c.in_ok-insert.ensures.updates;
  number = c.in_ok-insert.ensures.len ∙ ap (λ (o : Option TableCounts). length c.args.self.now.tables.entries + cond (is_some o) 0 1) c.in_ok-insert.ensures.old;
  transactions = refl;
  unknown = refl;
  is_full = refl;
}
