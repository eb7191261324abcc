use Rattle.change_statistics.proofs.WrittenTexts.{on_ok, appends_both}
use Rattle.binlog_summaries.proofs.transaction_text.write_table.Goals as goal

pub returns : goal.returns
returns g c = on_ok c.writeln.result (λ end. appends_both _ _ _ _ _ (appends_both _ _ _ _ _ c.in_ok-write_names.ensures c.in_ok-write_counts.ensures) end) c.writeln.ensures.bytes
