use Rattle.change_statistics.proofs.WrittenTexts.{on_ok, appends_both}
use Rattle.binlog_summaries.proofs.interval_text.write_head.Goals as goal

pub returns : goal.returns
returns g c =
    let intervals = rw c.len.ensures.len at c.in_ok-write_number.ensures in
    let seconds = rw c.get.ensures.value at c.write_number-2.ensures in
    on_ok c.write_number-2.result (λ line. appends_both _ _ _ _ _ intervals line) seconds
