use Rattle.std.proofs.Common.{◌≡◌, ◌∙◌, List, ap}
use Rattle.indexmap.specs.IndexMap.{insert_entry}
use Rattle.change_statistics.specs.Facts.{Name}
use Rattle.change_statistics.specs.Names.{name_of, name_eq}
use Rattle.change_statistics.specs.SeenTables.{SeenTables, named_entries}
use Rattle.change_statistics.specs.declared.event_counts.EventCounts.{EventCounts}
use Rattle.change_statistics.proofs.CountedTables.{named_inserted}
use Rattle.change_statistics.proofs.transaction_tables.TransactionTables.put.Goals as goal

pub returns-clause-ok : goal.returns-clause-ok
returns-clause-ok c =
    let entries : named_entries c.insert.new.self.entries ≡ insert_entry name_eq (named_entries c.self.inside.counts.entries) (name_of c.args.name) c.args.counts =
    ap named_entries c.in_ok-insert.ensures.entries ∙ named_inserted c.args.name c.args.counts c.self.inside.counts.entries in
    let seen : record { entries = named_entries c.insert.new.self.entries; is_full = c.self.inside.is_full }
    ≡ record { entries = insert_entry name_eq (named_entries c.self.inside.counts.entries) (name_of c.args.name) c.args.counts; is_full = c.self.inside.is_full } =
    ap (λ (l : List (Name × EventCounts)). record { entries = l; is_full = c.self.inside.is_full }) entries in
    seen ∙ ap (λ (old : SeenTables). record old { entries = insert_entry name_eq old.entries (name_of c.args.name) c.args.counts }) c.self.view_is
