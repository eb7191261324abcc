use Rattle.change_statistics.specs.Tables.{Adds, AddsAll}
use Rattle.change_statistics.specs.WholeTables.{AreTableStats}
use Rattle.change_statistics.proofs.HeldTables.{all_counted}
use Rattle.binlog_statistics.proofs.CountedParts.{counts_spliced, spliced_are}
use Rattle.binlog_statistics.proofs.laws.spliced_table_counts_are_of_all_items.Goals as goal

pub returns : goal.returns
returns c = λ maps items old new empty visited room.
    spliced_are (λ facts stats. AddsAll facts old.visitor.stats stats) AreTableStats new.visitor.stats new.visitor.stats
    (λ facts added. all_counted facts old.visitor.stats new.visitor.stats empty added room)
    old.limit maps items (counts_spliced Adds maps 0 items old new visited)
