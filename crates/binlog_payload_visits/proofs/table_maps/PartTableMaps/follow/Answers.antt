use Rattle.std.proofs.Common.{sym, ◌∙◌}
use Rattle.binlog_events.specs.EventRefs.{view_of}
use Rattle.binlog_payload_visits.specs.PartMaps.{maps_of}
use Rattle.binlog_payload_visits.proofs.PartMaps.{follows_map, follows_other}
use Rattle.binlog_payload_visits.proofs.table_maps.PartTableMaps.follow.Goals as goal

pub returns-then-is_table_map : goal.returns-then-is_table_map
returns-then-is_table_map c =
    follows_map c.keep.result (view_of c.args.event.now) (maps_of c.args.self.now) (maps_of c.keep.new.self) (sym c.is_table_map.ensures ∙ c.if-is_table_map.true) c.args.event.now.is_event.long c.keep.ensures

pub returns : goal.returns
returns c =
    follows_other (view_of c.args.event.now) (maps_of c.args.self.now) (sym c.is_rotate.ensures ∙ c.if-is_rotate.false) (sym c.is_table_map.ensures ∙ c.if-is_table_map.false)
