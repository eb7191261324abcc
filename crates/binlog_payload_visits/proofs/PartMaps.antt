-- The table maps inside a compressed transaction, and what an event does to them.
use Rattle.std.proofs.Common.{◌≡◌, ℕ, Bool, true, false, cond, eqb, not, List, [], Option, Some, None, Result, Ok, Err, refl, sym, ap, subst, ◌∙◌, arith}
use Rattle.std.proofs.Math.Path.{fun_ext}
use Rattle.std.proofs.lemmas.Bool.Decides.{nat_tests}
use Rattle.std.specs.Ordering.{is_eq, nat_cmp}
use Rattle.std.specs.BTreeMap.{get, is_at}
use Rattle.std.specs.Map.{lookup}
use Rattle.binlog_wire.specs.declared.error.Error.{Error}
use Rattle.binlog_wire.specs.declared.error.Error.TheVariants.{EndOfBody, InvalidData, WrongEventType, Memory}
use Rattle.binlog_wire.specs.Reading.{Read, Gives, Refuses}
use Rattle.binlog_bodies.specs.declared.events.rotate.RotateEvent.{RotateEvent}
use Rattle.binlog_bodies.specs.Rotate.{rotate}
use Rattle.binlog_rows.specs.declared.table_map_event.TableMapEvent.{TableMapEvent}
use Rattle.binlog_rows.specs.TableMaps.{table_map}
use Rattle.binlog_consts.specs.declared.event_type.EventType.TheVariants.{TABLE_MAP_EVENT}
use Rattle.binlog_event_format.specs.PostHeaders.{post_header}
use Rattle.binlog_event_format.specs.declared.format_description.FormatDescriptionEvent.{FormatDescriptionEvent}
use Rattle.binlog_event_format.specs.Headers.{header_of}
use Rattle.binlog_events.specs.Events.{EventView}
use Rattle.binlog_events.specs.Parts.{is_rotate, is_table_map, is_too_short, data_of}
use Rattle.binlog_file.specs.Items.{unless_refused}
use Rattle.binlog_file.specs.TableMapsInForce.{TableMaps, id_of, no_table_maps, read_rotate, read_table_map, with_table_map}
use Rattle.binlog_payload_visits.specs.PartMaps.{Follows, FollowsPart, KeepsMap, LooksAtPosition, ReadsMap, maps_of}
use Rattle.binlog_payload_visits.specs.declared.table_maps.PartTableMaps.{PartTableMaps}

-- ---- the newest of each id

same_key : (k q : ℕ) → is_eq (nat_cmp k q) ≡ eqb q k
same_key k q = grind (arith, nat_tests)

pub none_kept : (maps : PartTableMaps) → maps.newest.entries ≡ [] → maps_of maps ≡ no_table_maps
none_kept maps e = fun_ext (λ id. ap (λ (es : List (ℕ × TableMapEvent)). lookup (is_at (nat_cmp id)) es) e)

pub others_kept : (old new : PartTableMaps) → new.newest.entries ≡ old.newest.entries → maps_of new ≡ maps_of old
others_kept old new e = fun_ext (λ id. ap (λ (es : List (ℕ × TableMapEvent)). lookup (is_at (nat_cmp id)) es) e)

pub one_kept : (old new : PartTableMaps) (map : TableMapEvent) → ((q : ℕ) → get nat_cmp new.newest q ≡ cond (is_eq (nat_cmp (id_of map) q)) (Some map) (get nat_cmp old.newest q))
    → maps_of new ≡ with_table_map (maps_of old) map
one_kept old new map updates = fun_ext (λ q. updates q ∙ ap (λ (b : Bool). cond b (Some map) (get nat_cmp old.newest q)) (same_key (id_of map) q))

-- ---- what an event does

map_is_no_rotate : (t : ℕ) → eqb t 19 ≡ true → eqb t 4 ≡ false
map_is_no_rotate t is = grind (arith, nat_tests)

rotate_is_no_map : (t : ℕ) → eqb t 4 ≡ true → eqb t 19 ≡ false
rotate_is_no_map t is = grind (arith, nat_tests)

refused_as : {V : Type 0} (event : EventView) (e : Error) (read : Read V) → Refuses ⊥ e read → unless_refused event read ≡ Err e
refused_as event EndOfBody read is = rw is refl
refused_as event (InvalidData why) read is = rw is refl
refused_as event (WrongEventType number) read is = rw is refl
refused_as event Memory read is = absurd is
refused_as event e read is = absurd is

-- A table map.
pub follows_map : {E : Type 0} (result : Result (Option Error) E) (event : EventView) (old new : TableMaps) → is_table_map event.frame ≡ true → is_too_short event.fde.footer event.frame ≡ false
    → KeepsMap result event old new → FollowsPart result event old new
follows_map (Ok None) event old new is long kept =
    let apart : is_rotate event.frame ≡ false = map_is_no_rotate (header_of event.frame).event_type is in
    let read : read_table_map event.fde event.frame ≡ Ok (kept.0, kept.1.0) = kept.1.1 in
    (rw (apart, is, read) refl, rw (apart, is, long, read) kept.2)
follows_map (Ok (Some e)) event old new is long kept =
    let apart : is_rotate event.frame ≡ false = map_is_no_rotate (header_of event.frame).event_type is in
    (rw (apart, is) (refused_as event e (read_table_map event.fde event.frame) kept.0), kept.1)
follows_map (Err failed) event old new is long kept = kept

turned_by : (a b : Bool) (old new : TableMaps) → a ≡ b → new ≡ cond a old no_table_maps → new ≡ cond (not b) no_table_maps old
turned_by true true old new same is = is
turned_by true false old new same is = absurd cc
turned_by false true old new same is = absurd cc
turned_by false false old new same is = is

-- A ROTATE, by its position.
pub follows_rotate : (event : EventView) (old new : TableMaps) (position : ℕ) → is_rotate event.frame ≡ true → is_too_short event.fde.footer event.frame ≡ false
    → LooksAtPosition (Ok position) event → new ≡ cond (eqb position 0) old no_table_maps → Follows None event old new
follows_rotate event old new position is long found turned =
    let apart : is_table_map event.frame ≡ false = rotate_is_no_map (header_of event.frame).event_type is in
    let read : read_rotate event.fde.footer event.frame ≡ Ok (found.0, found.1) = found.2 in
    (rw (is, read) refl, rw (is, long, read, apart) (turned_by (eqb position 0) (eqb found.0.position 0) old new (ap (λ (p : ℕ). eqb p 0) found.3) turned))

pub follows_refused : (e : Error) (event : EventView) (old : TableMaps) → is_rotate event.frame ≡ true → LooksAtPosition (Err e) event → Follows (Some e) event old old
follows_refused e event old is refused = (rw is (refused_as event e (read_rotate event.fde.footer event.frame) refused), refl)

-- Any other event.
pub follows_other : (event : EventView) (old : TableMaps) → is_rotate event.frame ≡ false → is_table_map event.frame ≡ false → Follows None event old old
follows_other event old rotates maps = (rw (rotates, maps) refl, rw (rotates, maps) refl)

-- ---- reading the data

pub position_found : (found : RotateEvent) (position : ℕ) (left text : List ℕ) (event : EventView) → text ≡ data_of event.fde.footer event.frame → Gives ⊥ left (Ok found) (rotate.reads text) → position ≡ found.position
    → LooksAtPosition (Ok position) event
unfolding read_rotate
position_found found position left text event same gives at = (found, left, ap rotate.reads (sym same) ∙ gives, at)

pub position_refused : (e : Error) (left text : List ℕ) (event : EventView) → text ≡ data_of event.fde.footer event.frame → Gives ⊥ left (Err e) (rotate.reads text) → LooksAtPosition (Err e) event
unfolding read_rotate
position_refused e left text event same gives = subst (λ (s : List ℕ). Refuses ⊥ e (rotate.reads s)) same gives

pub map_reads : (result : Result TableMapEvent Error) (left text : List ℕ) (d : FormatDescriptionEvent) (event : EventView) → d ≡ event.fde → text ≡ data_of event.fde.footer event.frame
    → Gives ⊥ left result ((table_map (post_header d TABLE_MAP_EVENT)).reads text) → ReadsMap result event
unfolding read_table_map
map_reads (Ok map) left text d event same is gives = (
  left,
  ap (λ (x : FormatDescriptionEvent). (table_map (post_header x TABLE_MAP_EVENT)).reads (data_of event.fde.footer event.frame)) (sym same)
      ∙ ap (λ (s : List ℕ). (table_map (post_header d TABLE_MAP_EVENT)).reads s) (sym is) ∙ gives,
)
map_reads (Err e) left text d event same is gives =
    subst (λ (x : FormatDescriptionEvent). Refuses ⊥ e ((table_map (post_header x TABLE_MAP_EVENT)).reads (data_of event.fde.footer event.frame))) same
    (subst (λ (s : List ℕ). Refuses ⊥ e ((table_map (post_header d TABLE_MAP_EVENT)).reads s)) is gives)

pub not_zero : (p : ℕ) → (p ≡ 0 → ⊥) → eqb p 0 ≡ false
not_zero p some = grind (arith, nat_tests)
