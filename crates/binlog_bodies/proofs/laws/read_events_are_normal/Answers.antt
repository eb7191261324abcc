use Rattle.binlog_consts.specs.declared.event_type.EventType.TheVariants.{XID_EVENT}
use Rattle.binlog_event_format.specs.DescriptionRefs.{description_of}
use Rattle.binlog_event_format.specs.PostHeaders.{post_header}
use Rattle.binlog_bodies.specs.BeginLoadQuery.{begin_load_query}
use Rattle.binlog_bodies.specs.Incident.{incident}
use Rattle.binlog_bodies.specs.Intvar.{intvar}
use Rattle.binlog_bodies.specs.Rand.{rand}
use Rattle.binlog_bodies.specs.Rotate.{rotate}
use Rattle.binlog_bodies.specs.RowsQuery.{rows_query}
use Rattle.binlog_bodies.specs.Xid.{xid}
use Rattle.binlog_bodies.proofs.laws.read_events_are_normal.Goals as goal

pub returns-clause-rotate : goal.returns-clause-rotate
returns-clause-rotate c = λ ctx version s event r bytes read. rotate.settled s event r (rotate.keeps.sound s (event, r) bytes read).0

pub returns-clause-intvar : goal.returns-clause-intvar
returns-clause-intvar c = λ ctx version s event r bytes read. intvar.settled s event r (intvar.keeps.sound s (event, r) bytes read).0

pub returns-clause-rand : goal.returns-clause-rand
returns-clause-rand c = λ ctx version s event r bytes read. rand.settled s event r (rand.keeps.sound s (event, r) bytes read).0

pub returns-clause-xid : goal.returns-clause-xid
returns-clause-xid c = λ ctx version s event r bytes read.
    let form = xid (post_header (description_of ctx.fde) XID_EVENT) in
    form.settled s event r (form.keeps.sound s (event, r) bytes read).0

pub returns-clause-begin_load_query : goal.returns-clause-begin_load_query
returns-clause-begin_load_query c = λ ctx version s event r bytes read. begin_load_query.settled s event r (begin_load_query.keeps.sound s (event, r) bytes read).0

pub returns-clause-incident : goal.returns-clause-incident
returns-clause-incident c = λ ctx version s event r bytes read. incident.settled s event r (incident.keeps.sound s (event, r) bytes read).0

pub returns-clause-rows_query : goal.returns-clause-rows_query
returns-clause-rows_query c = λ ctx version s event r bytes read. rows_query.settled s event r (rows_query.keeps.sound s (event, r) bytes read).0
