use Rattle.std.proofs.Common.{◌++◌, refl}
use Rattle.change_statistics.proofs.WrittenTexts.{on_ok, appends_both}
use Rattle.binlog_summaries.specs.IntervalText.{counts_text}
use Rattle.binlog_summaries.proofs.interval_text.write_line.Goals as goal

pub returns : goal.returns
returns g c =
    let start = c.in_ok-write_start.ensures in
    on_ok c.write_counts.result
    (λ counts. record { text = start.text ++ counts_text c.args.counts.now; is = (start.text, start.is, refl); appended = appends_both _ _ _ _ _ start.appended counts })
    c.write_counts.ensures
