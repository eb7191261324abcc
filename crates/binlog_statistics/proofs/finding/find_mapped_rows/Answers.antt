use Rattle.std.proofs.Common.{refl}
use Rattle.binlog_events.specs.EventRefs.{view_of}
use Rattle.binlog_statistics.proofs.FoundRows.{mapped_found}
use Rattle.binlog_statistics.proofs.finding.find_mapped_rows.Goals as goal

pub returns-clause-ok : goal.returns-clause-ok
returns-clause-ok c =
    mapped_found c.args.table_map.now (view_of c.args.event.now) c.read_log_data-read.result c.read_rows-answer.result _ c.read_log_data-read.ensures refl c.read_rows-answer.ensures.ok
