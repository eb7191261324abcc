use Rattle.std.proofs.Common.{◌++◌, refl}
use Rattle.change_statistics.proofs.WrittenTexts.{on_ok, appends_both}
use Rattle.binlog_summaries.specs.InnerTypes.{inner_text}
use Rattle.binlog_statistics_command.proofs.type_statistics.write_text.Goals as goal

pub returns : goal.returns
returns g c =
    let outside = c.in_ok-write_stats.ensures in
    on_ok c.write_inner_types.result
    (λ inside. record { text = outside.text ++ inner_text c.args.stats.now.inside; is = (outside.text, outside.is, refl); appended = appends_both _ _ _ _ _ outside.appended inside })
    c.write_inner_types.ensures
