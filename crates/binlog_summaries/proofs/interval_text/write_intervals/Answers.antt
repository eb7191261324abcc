use Rattle.std.proofs.Common.{◌++◌, refl}
use Rattle.change_statistics.proofs.WrittenTexts.{on_ok, appends_both}
use Rattle.binlog_summaries.specs.IntervalText.{intervals_head}
use Rattle.binlog_summaries.proofs.interval_text.write_intervals.Goals as goal

pub returns : goal.returns
returns g c =
    on_ok c.write_lines.result
    (λ lines. record { text = intervals_head c.args.stats.now ++ lines.text; is = (lines.text, lines.is, refl); appended = appends_both _ _ _ _ _ c.in_ok-write_head.ensures lines.appended })
    c.write_lines.ensures
