-- Values whose fields are in the ranges of their Rust types.
use Rattle.std.specs.Prelude.{◌<◌, ◌^◌}
use Rattle.binlog_wire.specs.Fields.{IsBytes}
use Rattle.binlog_bodies.specs.declared.events.begin_load_query.BeginLoadQueryEvent.{BeginLoadQueryEvent}
use Rattle.binlog_bodies.specs.declared.events.incident.IncidentEvent.{IncidentEvent}
use Rattle.binlog_bodies.specs.declared.events.intvar.IntvarEvent.{IntvarEvent}
use Rattle.binlog_bodies.specs.declared.events.rand.RandEvent.{RandEvent}
use Rattle.binlog_bodies.specs.declared.events.rotate.RotateEvent.{RotateEvent}
use Rattle.binlog_bodies.specs.declared.events.rows_query.RowsQueryEvent.{RowsQueryEvent}
use Rattle.binlog_bodies.specs.declared.events.xid.XidEvent.{XidEvent}

-- The fields of a ROTATE event are in range.
pub record IsRotateInRange (e : RotateEvent) : Type 0 where
  pub position : e.position < 256 ^ 8
  pub name : IsBytes e.name

-- The fields of an INTVAR event are in range.
pub record IsIntvarInRange (e : IntvarEvent) : Type 0 where
  pub value : e.value < 256 ^ 8

-- The fields of a RAND event are in range.
pub record IsRandInRange (e : RandEvent) : Type 0 where
  pub seed1 : e.seed1.0 < 256 ^ 8
  pub seed2 : e.seed2.0 < 256 ^ 8

-- The fields of an XID event are in range.
pub record IsXidInRange (e : XidEvent) : Type 0 where
  pub xid : e.xid < 256 ^ 8

-- The fields of an INCIDENT event are in range.
pub record IsIncidentInRange (e : IncidentEvent) : Type 0 where
  pub incident_type : e.incident_type < 256 ^ 2
  pub message : IsBytes e.message

-- The fields of a ROWS_QUERY event are in range.
pub record IsRowsQueryInRange (e : RowsQueryEvent) : Type 0 where
  pub query : IsBytes e.query

-- The fields of a BEGIN_LOAD_QUERY event are in range.
pub record IsBeginLoadQueryInRange (e : BeginLoadQueryEvent) : Type 0 where
  pub file_id : e.file_id < 256 ^ 4
  pub block_data : IsBytes e.block_data
