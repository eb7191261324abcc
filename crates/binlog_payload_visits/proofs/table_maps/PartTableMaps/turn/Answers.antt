use Rattle.std.proofs.Common.{Bool, cond, ap, sym, refl, ◌∙◌}
use Rattle.binlog_events.specs.EventRefs.{view_of}
use Rattle.binlog_file.specs.TableMapsInForce.{no_table_maps}
use Rattle.binlog_payload_visits.specs.PartMaps.{maps_of}
use Rattle.binlog_payload_visits.proofs.PartMaps.{follows_rotate, follows_refused, none_kept, not_zero}
use Rattle.binlog_payload_visits.proofs.table_maps.PartTableMaps.turn.Goals as goal

pub returns-in-Ok-eq0 : goal.returns-in-Ok-eq0
returns-in-Ok-eq0 c =
    let old = maps_of c.args.self.now in
    follows_rotate (view_of c.args.event.now) old old c.in-Ok-eq0.field-0 c.requires c.args.event.now.is_event.long (rw c.in-Ok-eq0.is at c.position.ensures) (rw c.in-Ok-eq0.field-0-test refl)

pub returns-in-Ok : goal.returns-in-Ok
returns-in-Ok c =
    let old = maps_of c.args.self.now in
    follows_rotate (view_of c.args.event.now) old (maps_of (record { newest = c.clear.new.self })) c.in-Ok.field-0 c.requires c.args.event.now.is_event.long (rw c.in-Ok.is at c.position.ensures)
    (none_kept (record { newest = c.clear.new.self }) c.clear.ensures.empty ∙ sym (ap (λ (b : Bool). cond b old no_table_maps) (not_zero c.in-Ok.field-0 c.in-Ok.field-0-test.1)))

pub returns-in-Err : goal.returns-in-Err
returns-in-Err c = follows_refused c.in-Err.error (view_of c.args.event.now) (maps_of c.args.self.now) c.requires c.in-Err.ensures
