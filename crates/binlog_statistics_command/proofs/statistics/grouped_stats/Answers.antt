use Rattle.std.proofs.Common.{◌∙◌, ap}
use Rattle.std.specs.Int.NonZero.{non_zero_u32_get}
use Rattle.binlog_statistics_command.proofs.WrittenRows.{if_ok}
use Rattle.binlog_statistics_command.proofs.statistics.grouped_stats.Goals as goal

pub returns-in-Types-clause-ok : goal.returns-in-Types-clause-ok
returns-in-Types-clause-ok g c = rw c.in-Types.is (rw c.new.ensures at c.count.ensures.ok)

pub returns-in-Tables-clause-ok : goal.returns-in-Tables-clause-ok
returns-in-Tables-clause-ok g c =
    let counted = c.new-in-Tables in
    let counter = c.new-counter in
    rw c.in-Tables.is (if_ok _ _ c.count-in-Tables.result (λ ended writes. (counted.result, counted.ensures, (counter.result, counter.ensures, writes))) c.count-in-Tables.ensures.ok)

pub returns-in-Some-clause-ok : goal.returns-in-Some-clause-ok
returns-in-Some-clause-ok g c =
    let counted = c.new-in-Intervals-2 in
    let counter = c.new-counter-in-Intervals in
    rw c.in-Intervals.is (if_ok _ _ c.count-in-Intervals.result
    (λ ended writes. (counted.result, counted.ensures.none, ap non_zero_u32_get counted.ensures.seconds ∙ c.in-Some.ensures, (counter.result, counter.ensures, writes)))
    c.count-in-Intervals.ensures.ok)

pub returns-in-Transactions-clause-ok : goal.returns-in-Transactions-clause-ok
returns-in-Transactions-clause-ok g c =
    let counter = c.new-counter-in-Transactions in
    rw c.in-Transactions.is (if_ok _ _ c.count-in-Transactions.result (λ ended writes. (counter.result, rw c.unwrap_or-limit.ensures at counter.ensures, writes))
    c.count-in-Transactions.ensures.ok)
