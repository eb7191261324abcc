use Rattle.change_statistics.specs.Tables.{Adds, AddsAll}
use Rattle.change_statistics.specs.WholeTables.{AreTableStats}
use Rattle.change_statistics.proofs.HeldTables.{all_counted}
use Rattle.binlog_statistics.proofs.CountedItems.{counts_taken, taken_are}
use Rattle.binlog_statistics.proofs.laws.filtered_table_counts_are_of_taken_items.Goals as goal

pub returns : goal.returns
returns c = λ maps items old new empty visited room.
    taken_are (λ facts stats. AddsAll facts old.visitor.stats stats) AreTableStats new.visitor.stats new.visitor.stats (λ facts added. all_counted facts old.visitor.stats new.visitor.stats empty added room)
    old.filter maps old.place.position old.state items (counts_taken Adds maps 0 items old new visited)
