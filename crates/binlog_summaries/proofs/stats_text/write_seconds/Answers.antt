use Rattle.std.proofs.Common.{append_assoc}
use Rattle.change_statistics.proofs.WrittenTexts.{on_ok}
use Rattle.binlog_summaries.proofs.stats_text.write_seconds.Goals as goal

pub returns : goal.returns
returns g c = on_ok c.writeln.result (λ appended. record { text = _; is = (_, c.datetime_of-time.ensures, simp append_assoc); appended = appended }) c.writeln.ensures.bytes
