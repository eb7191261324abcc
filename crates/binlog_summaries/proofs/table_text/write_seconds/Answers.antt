use Rattle.std.proofs.Common.{append_assoc}
use Rattle.change_statistics.proofs.WrittenTexts.{on_ok}
use Rattle.binlog_summaries.proofs.table_text.write_seconds.Goals as goal

pub returns : goal.returns
returns g c = on_ok c.write.result (λ appended. record { text = _; is = (_, c.datetime_of-time.ensures, simp append_assoc); appended = appended }) c.write.ensures.bytes
