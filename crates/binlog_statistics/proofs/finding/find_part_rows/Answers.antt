use Rattle.std.proofs.Common.{rules}
use Rattle.binlog_events.specs.EventRefs.{view_of}
use Rattle.binlog_payload_visits.specs.PartMaps.{maps_of}
use Rattle.binlog_statistics.proofs.FoundRows.{rows_found}
use Rattle.binlog_statistics.proofs.finding.find_part_rows.Goals as goal

pub returns-clause-ok : goal.returns-clause-ok
returns-clause-ok c =
    rows_found (maps_of c.args.maps.now) (view_of c.args.event.now) c.read_log_data-read.result c.read_rows-answer.result (search rules) c.read_log_data-read.ensures
    _ c.inside_map-map.ensures c.read_rows-answer.ensures.ok
