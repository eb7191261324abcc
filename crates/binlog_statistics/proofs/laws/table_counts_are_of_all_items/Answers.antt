use Rattle.change_statistics.specs.Tables.{Adds, AddsAll}
use Rattle.change_statistics.specs.WholeTables.{AreTableStats}
use Rattle.change_statistics.proofs.HeldTables.{all_counted}
use Rattle.binlog_statistics.proofs.CountedItems.{counts_all, all_are}
use Rattle.binlog_statistics.proofs.laws.table_counts_are_of_all_items.Goals as goal

pub returns : goal.returns
returns c = λ maps items old new empty visited room.
    all_are (λ facts stats. AddsAll facts old.stats stats) AreTableStats new.stats new.stats (λ facts added. all_counted facts old.stats new.stats empty added room) maps items (counts_all Adds maps 0 items old new visited)
