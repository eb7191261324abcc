use Rattle.std.proofs.Common.{append_assoc}
use Rattle.change_statistics.proofs.WrittenTexts.{on_ok, appends_both, appends_same}
use Rattle.binlog_summaries.proofs.stats_text.write_largest_event.Goals as goal

pub returns : goal.returns
returns g c =
    let head = c.in_ok-write.ensures.bytes in
    let name = c.in_ok-write_type.ensures in
    on_ok c.writeln.result (λ end. appends_same _ _ _ _ (simp append_assoc) (appends_both _ _ _ _ _ (appends_both _ _ _ _ _ head name) end)) c.writeln.ensures.bytes
