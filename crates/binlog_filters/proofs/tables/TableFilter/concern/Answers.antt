use Rattle.binlog_file.specs.EventRefs.{view_of}
use Rattle.binlog_file.specs.State.{state_of}
use Rattle.binlog_filters.proofs.Concerned.{concerned}
use Rattle.binlog_filters.proofs.tables.TableFilter.concern.Goals as goal

pub returns-clause-ok : goal.returns-clause-ok
returns-clause-ok c =
    concerned c.args.self.now c.args.is_for_copy (state_of c.args.reader.now).table_maps (view_of c.args.event.now) c.read_log_data-read.result c.read_concern-answer.result c.read_log_data-read.ensures
    c.read_concern-answer.ensures.ok
