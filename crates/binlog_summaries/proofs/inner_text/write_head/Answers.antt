use Rattle.std.proofs.Common.{append_assoc}
use Rattle.change_statistics.proofs.WrittenTexts.{on_ok, appends_same}
use Rattle.binlog_summaries.proofs.inner_text.write_head.Goals as goal

pub returns : goal.returns
returns g c = on_ok c.writeln.result (λ appended. appends_same _ _ _ _ (simp append_assoc) appended) (rw (c.all_events-events.ensures, c.all_bytes-bytes.ensures) at c.writeln.ensures.bytes)
