use Rattle.change_statistics.proofs.WrittenTexts.{on_ok, appends_both}
use Rattle.binlog_statistics_command.proofs.type_statistics.write_lines.Goals as goal

pub returns : goal.returns
returns g c = on_ok c.write_inner_types_json.result (λ inside. appends_both _ _ _ _ _ c.in_ok-write_types_json.ensures inside) c.write_inner_types_json.ensures
