use Rattle.binlog_statistics_command.proofs.WrittenRows.{written_of}
use Rattle.binlog_statistics_command.proofs.table_statistics.write_rows.Goals as goal

pub returns-in-Ok-clause-writes : goal.returns-in-Ok-clause-writes
returns-in-Ok-clause-writes g c =
    written_of _ _ c.write_sorted.result
    (λ writes. (
      c.sort_by_bytes.new.self,
      record { all = c.sort_by_bytes.ensures.all; sorted = c.in-Ok.ensures.sorted; stable = c.sort_by_bytes.ensures.stable; others = c.sort_by_bytes.ensures.others },
      writes,
    ))
    c.write_sorted.ensures

pub returns-in-Ok-clause-keeps : goal.returns-in-Ok-clause-keeps
returns-in-Ok-clause-keeps g c = record { all = c.sort_by_bytes.ensures.all; others = c.sort_by_bytes.ensures.others }

pub returns-in-Err-clause-keeps : goal.returns-in-Err-clause-keeps
returns-in-Err-clause-keeps g c = record { all = c.sort_by_bytes.ensures.all; others = c.sort_by_bytes.ensures.others }
