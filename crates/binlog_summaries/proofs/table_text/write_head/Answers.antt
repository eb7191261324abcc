use Rattle.change_statistics.proofs.WrittenTexts.{on_ok, appends_both}
use Rattle.binlog_summaries.proofs.table_text.write_head.Goals as goal

pub returns : goal.returns
returns g c =
    let tables = rw c.len.ensures.len at c.in_ok-write_number.ensures in
    on_ok c.write_unknown.result (λ unknown. appends_both _ _ _ _ _ (appends_both _ _ _ _ _ tables c.in_ok-write_number-2.ensures) unknown) c.write_unknown.ensures
