use Rattle.std.proofs.Common.{append_assoc}
use Rattle.change_statistics.proofs.WrittenTexts.{on_ok, appends_same}
use Rattle.binlog_summaries.proofs.table_text.write_counts.Goals as goal

pub returns : goal.returns
returns g c = on_ok c.write.result (λ appended. appends_same _ _ _ _ (simp append_assoc) appended) c.write.ensures.bytes
