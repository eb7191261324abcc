-- What is read as a table map is the body of a table map.
use Rattle.std.proofs.Common.{◌≡◌, ℕ, Bool, true, false, cond, List, [], Option, Some, None, Result, Ok, Err, refl, sym, ap, subst, ◌∙◌}
use Rattle.binlog_consts.specs.declared.event_type.EventType.{EventType}
use Rattle.binlog_consts.specs.declared.event_type.EventType.TheVariants.{TABLE_MAP_EVENT}
use Rattle.binlog_consts.specs.declared.event_type.UnknownEventType.{UnknownEventType}
use Rattle.binlog_event_data.specs.BodiesByType.{body_of}
use Rattle.binlog_event_data.specs.EventBodies.{Body, typed, raw, empty, reads_in}
use Rattle.binlog_event_data.specs.ReadData.{ReadsAs}
use Rattle.binlog_event_data.specs.declared.event_data.EventData.{EventData}
use Rattle.binlog_event_data.specs.declared.event_data.EventData.TheVariants as mysql
use Rattle.binlog_event_format.specs.PostHeaders.{post_header}
use Rattle.binlog_event_format.specs.declared.footer.BinlogEventFooter.{BinlogEventFooter}
use Rattle.binlog_event_format.specs.declared.format_description.FormatDescriptionEvent.{FormatDescriptionEvent}
use Rattle.binlog_event_format.specs.Footers.{footer_of}
use Rattle.binlog_events.specs.Events.{EventView, event_at, event_of, ReadsEventData}
use Rattle.binlog_events.specs.Parts.{is_description, body, data_of}
use Rattle.binlog_rows.specs.TableMaps.{table_map}
use Rattle.binlog_rows.specs.declared.table_map_event.TableMapEvent.{TableMapEvent}
use Rattle.binlog_wire.specs.Reading.{Read, read_as}

-- The event data is made of a body that was read.
abbrev pub IsMadeIn : Body → List ℕ → EventData → Type 0
IsMadeIn (typed {V} format data_of) s event = (v : V) × (event ≡ data_of v) × (format.reads s ≡ Ok (v, []))
IsMadeIn (raw data_of) s event = Unit {0} × (event ≡ data_of s) × Unit {0}
IsMadeIn (empty value) s event = Unit {0} × (event ≡ value) × Unit {0}

-- The value of which another one was made.
pub value_read : {V E : Type 0} (f : V → E) (x : Read V) (event : E) → read_as f x ≡ Ok (event, []) → (v : V) × (event ≡ f v) × (x ≡ Ok (v, []))
value_read {V} {E} f (Ok x) event is =
    let both : ◌≡◌ {A = E × List ℕ} (f x.0, x.1) (event, []) = cc in
    let rest : x.1 ≡ [] = ap (λ (p : E × List ℕ). p.1) both in
    (x.0, sym (ap (λ (p : E × List ℕ). p.0) both), ap (λ (r : List ℕ). let y : V × List ℕ = (x.0, r) in Ok y) rest)
value_read f (Err why) event is = absurd cc

whole_value : (value event : EventData) → ◌≡◌ {A = Read EventData} (Ok (value, [])) (Ok (event, [])) → event ≡ value
whole_value value event is =
    let both : ◌≡◌ {A = EventData × List ℕ} (value, []) (event, []) = cc in
    sym (ap (λ (p : EventData × List ℕ). p.0) both)

pub made_in : (content : Body) (s : List ℕ) (event : EventData) → reads_in content s ≡ Ok (event, []) → IsMadeIn content s event
made_in (typed format data_of) s event is = value_read data_of (format.reads s) event is
made_in (raw data_of) s event is = (tt, whole_value (data_of s) event is, tt)
made_in (empty value) s event is = (tt, whole_value value event is, tt)

abbrev is_map : EventData → Bool
is_map (mysql.TableMapEvent map) = true
is_map _ = false

no_map : true ≡ false → ⊥
no_map is = cc

its_map : (map other : TableMapEvent) → mysql.TableMapEvent map ≡ mysql.TableMapEvent other → other ≡ map
its_map map other is = cc

by_type : (d : FormatDescriptionEvent) (s : List ℕ) (map : TableMapEvent) (type : EventType) → IsMadeIn (body_of type d) s (mysql.TableMapEvent map)
    → (table_map (post_header d TABLE_MAP_EVENT)).reads s ≡ Ok (map, [])
by_type d s map TABLE_MAP_EVENT h =
    h.2 ∙ ap (λ (m : TableMapEvent). let y : TableMapEvent × List ℕ = (m, []) in Ok y) (its_map map h.0 h.1)
by_type d s map type h = absurd (no_map (ap is_map h.1))

read_by : (d : FormatDescriptionEvent) (s : List ℕ) (map : TableMapEvent) (type : Result EventType UnknownEventType) → ReadsAs d s type (Ok (Some (mysql.TableMapEvent map)))
    → (table_map (post_header d TABLE_MAP_EVENT)).reads s ≡ Ok (map, [])
read_by d s map (Ok type) h = by_type d s map type (made_in (body_of type d) s (mysql.TableMapEvent map) h)
read_by d s map (Err unknown) h = absurd cc

-- ---- an event of a frame

pub event_is : (whole : Bool) (found event : EventView) → cond whole (Some found) None ≡ Some event → event ≡ found
event_is true found event is = cc
event_is false found event is = absurd cc

same_lengths : (description : Bool) (footer : BinlogEventFooter) (d : FormatDescriptionEvent)
    → (cond description (record d { footer = footer }) d).event_type_header_lengths ≡ d.event_type_header_lengths
same_lengths true footer d = refl
same_lengths false footer d = refl

-- The post-headers are those of the description in force.
pub same_post_header : (d : FormatDescriptionEvent) (frame : List ℕ) (event : EventView) (type : EventType) → event_at d frame ≡ Some event
    → post_header event.fde type ≡ post_header d type
same_post_header d frame event type at =
    let lengths : List ℕ → ℕ = λ l. post_header (record d { event_type_header_lengths = l }) type in
    ap lengths (ap (λ (e : EventView). e.fde.event_type_header_lengths) (event_is _ (event_of d frame) event at)
    ∙ same_lengths (is_description frame) (footer_of (body frame)) d)

-- The body of a table map that was read under a description is that of a table map under this description.
pub map_is_read : (d : FormatDescriptionEvent) (frame : List ℕ) (event : EventView) (map : TableMapEvent) → event_at d frame ≡ Some event
    → ReadsEventData event (Ok (Some (mysql.TableMapEvent map)))
    → (table_map (post_header d TABLE_MAP_EVENT)).reads (data_of event.fde.footer event.frame) ≡ Ok (map, [])
map_is_read d frame event map at h =
    let s : List ℕ = data_of event.fde.footer event.frame in
    sym (ap (λ (n : ℕ). (table_map n).reads s) (same_post_header d frame event TABLE_MAP_EVENT at)) ∙ read_by event.fde s map h.0 h.2
