-- The table maps in force inside a compressed transaction, and what an event of it does to them.
use Rattle.std.specs.Prelude.{◌≡◌, ℕ, List, Option, Some, None, Result, Ok, Err}
use Rattle.std.specs.Ordering.{nat_cmp}
use Rattle.std.specs.BTreeMap.{get}
use Rattle.binlog_wire.specs.declared.error.Error.{Error}
use Rattle.binlog_wire.specs.Reading.{Refuses}
use Rattle.binlog_bodies.specs.declared.events.rotate.RotateEvent.{RotateEvent}
use Rattle.binlog_rows.specs.declared.table_map_event.TableMapEvent.{TableMapEvent}
use Rattle.binlog_events.specs.Events.{EventView}
use Rattle.binlog_file.specs.Items.{checked_event}
use Rattle.binlog_file.specs.StateRefs.{HasTableMap}
use Rattle.binlog_file.specs.TableMapsInForce.{TableMaps, read_rotate, read_table_map, table_maps_behind, with_table_map}
use Rattle.binlog_payload_visits.specs.declared.table_maps.PartTableMaps.{PartTableMaps}

-- What contracts see of the table maps: the newest of each id.
abbrev pub maps_of : PartTableMaps → TableMaps
maps_of maps = λ id. get nat_cmp maps.newest id

-- What an event brings into force. An error in its place changes nothing.
abbrev pub Follows : Option Error → EventView → TableMaps → TableMaps → Type 0
Follows None event old new = (checked_event event ≡ Ok event) × (new ≡ table_maps_behind event.fde old event.frame)
Follows (Some e) event old new = (checked_event event ≡ Err e) × (new ≡ old)

-- The same, unless an allocation fails, which changes nothing.
abbrev pub FollowsPart : {E : Type 0} → Result (Option Error) E → EventView → TableMaps → TableMaps → Type 0
FollowsPart (Ok answer) event old new = Follows answer event old new
FollowsPart (Err failed) event old new = new ≡ old

-- The results of reading the data of an event as a table map.
abbrev pub ReadsMap : Result TableMapEvent Error → EventView → Type 0
ReadsMap (Ok map) event = HasTableMap event.fde event.frame map
ReadsMap (Err e) event = Refuses ⊥ e (read_table_map event.fde event.frame)

-- The results of keeping the table map of an event.
abbrev pub KeepsMap : {E : Type 0} → Result (Option Error) E → EventView → TableMaps → TableMaps → Type 0
KeepsMap (Ok None) event old new = (map : TableMapEvent) × HasTableMap event.fde event.frame map × (new ≡ with_table_map old map)
KeepsMap (Ok (Some e)) event old new = Refuses ⊥ e (read_table_map event.fde event.frame) × (new ≡ old)
KeepsMap (Err failed) event old new = new ≡ old

-- The results of reading the position of a ROTATE.
abbrev pub LooksAtPosition : Result ℕ Error → EventView → Type 0
LooksAtPosition (Ok position) event = (rotate : RotateEvent) × (rest : List ℕ) × (read_rotate event.fde.footer event.frame ≡ Ok (rotate, rest)) × (position ≡ rotate.position)
LooksAtPosition (Err e) event = Refuses ⊥ e (read_rotate event.fde.footer event.frame)
