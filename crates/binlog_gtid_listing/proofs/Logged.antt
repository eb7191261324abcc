-- What an item adds to the GTIDs of a log.
use Rattle.std.proofs.Common.{◌≡◌, inl, inr, ℕ, Bool, true, false, cond, ◌&&◌, List, [], ◌++◌, Option, Result, Ok, Err, is_err, refl, sym, ap, subst, ◌∙◌, arith}
use Rattle.std.specs.Io.KnownBytes.{Appends}
use Rattle.std.proofs.lemmas.Bool.Decides.{nat_tests}
use Rattle.std.proofs.KnownBytes.{Appends-nil}
use Rattle.binlog_wire.specs.declared.error.Error.{Error}
use Rattle.binlog_wire.specs.declared.error.Error.TheVariants.{Writer}
use Rattle.binlog_wire.specs.Errors.{is_environment_error}
use Rattle.binlog_event_format.specs.Headers.{header_of}
use Rattle.binlog_events.specs.Events.{EventView}
use Rattle.binlog_gtid_sets.specs.declared.gtid_group.GtidGroup.{GtidGroup}
use Rattle.binlog_ends.specs.Counts.{AppendsFront}
use Rattle.binlog_listing.specs.Listing.{error_line}
use Rattle.binlog_gtid_listing.specs.GtidItems.{is_gtid_type, gtids_in, gtid_line, is_refused, GrowsBy}
use Rattle.binlog_gtid_listing.specs.GtidListing.{TracksItem, tracked}
use Rattle.binlog_gtid_listing.proofs.Added.{adds_none}
use Rattle.binlog_mariadb.specs.declared.maria_gtid.MariaGtid.{MariaGtid}
use Rattle.binlog_mariadb.specs.declared.event_data.MariaEventData.{MariaEventData}
use Rattle.binlog_maria_gtids.specs.LastGtids.{KeepLast}
use Rattle.binlog_gtid_listing.specs.MariaItems.{is_maria_gtid_type, has_maria_gtids, maria_data_of, gtids_found, event_gtids, item_gtids, AddsMariaGtids}
use Rattle.binlog_gtid_listing.specs.LogItems.{maria_error_line, log_line, is_log_refused, log_gtids, log_tracked, TracksLogItem}
use Rattle.binlog_gtid_listing.proofs.MariaAdded.{keeps_none}

-- ---- GTIDs that are as before

same_log : (before after : List GtidGroup) (last : List MariaGtid) → after ≡ before → log_gtids after last ≡ log_gtids before last
same_log before after last same = ap (λ (groups : List GtidGroup). log_gtids groups last) same

same_last : (groups : List GtidGroup) (before after : List MariaGtid) → after ≡ before → log_gtids groups after ≡ log_gtids groups before
same_last groups before after same = ap (λ (last : List MariaGtid). log_gtids groups last) same

-- ---- an event of MySQL's

line_of_mysql : (index : ℕ) (event : EventView) → has_maria_gtids event ≡ false → gtid_line index (Ok event) ≡ log_line index (Ok event)
line_of_mysql index event other =
    sym (ap (λ (b : Bool). cond b (maria_error_line index (maria_data_of event)) (gtid_line index (Ok event))) other)

refused_of_mysql : (event : EventView) → has_maria_gtids event ≡ false → is_refused (Ok event) ≡ is_log_refused (Ok event)
refused_of_mysql event other = sym (ap (λ (b : Bool). cond b (is_err (maria_data_of event)) (is_refused (Ok event))) other)

kept_of_mysql : (event : EventView) (last : List MariaGtid) → has_maria_gtids event ≡ false → KeepLast (last ++ item_gtids (Ok event)) last
kept_of_mysql event last other =
    subst (λ (gs : List MariaGtid). KeepLast (last ++ gs) last) (sym (ap (λ (b : Bool). cond b (event_gtids event) []) other)) (keeps_none last)

-- What `track_event` does is what listing the event does.
pub mysql_event : (index : ℕ) (event : EventView) (before after : List GtidGroup) (last : List MariaGtid) (old new : Option (List ℕ)) (answer : Result Bool Error) → has_maria_gtids event ≡ false
    → TracksItem index (Ok event) (tracked before old) (tracked after new) answer
    → TracksLogItem index (Ok event) (log_tracked (log_gtids before last) old) (log_tracked (log_gtids after last) new) answer
mysql_event index event before after last old new (Ok e) other tracks =
    (tracks.0, kept_of_mysql event last other, subst (Appends old new) (line_of_mysql index event other) tracks.1, tracks.2 ∙ refused_of_mysql event other)
mysql_event index event before after last old new (Err error) other (kept, inl writer) =
    (same_log before after last kept, inl (writer.0, subst (AppendsFront old new) (line_of_mysql index event other) writer.1))
mysql_event index event before after last old new (Err error) other (kept, inr memory) = (same_log before after last kept, inr (memory.0, inl memory.1, memory.2))

-- ---- an event of MariaDB's

types_differ : (type : ℕ) (b : Bool) → (is_maria_gtid_type type && b) ≡ true → is_gtid_type type ≡ false
types_differ type true has = grind (arith, nat_tests)
types_differ type false has = absurd (grind (arith, nat_tests))

-- MySQL's set doesn't grow.
grows_none : (event : EventView) (groups : List GtidGroup) → has_maria_gtids event ≡ true → GrowsBy (gtids_in (Ok event)) groups groups
grows_none event groups has = (adds_none event groups (types_differ (header_of event.frame).event_type _ has)).1

line_of_maria : (index : ℕ) (event : EventView) → has_maria_gtids event ≡ true → maria_error_line index (maria_data_of event) ≡ log_line index (Ok event)
line_of_maria index event has =
    sym (ap (λ (b : Bool). cond b (maria_error_line index (maria_data_of event)) (gtid_line index (Ok event))) has)

refused_of_maria : (event : EventView) → has_maria_gtids event ≡ true → is_err (maria_data_of event) ≡ is_log_refused (Ok event)
refused_of_maria event has = sym (ap (λ (b : Bool). cond b (is_err (maria_data_of event)) (is_refused (Ok event))) has)

gtids_of_maria : (event : EventView) → has_maria_gtids event ≡ true → event_gtids event ≡ item_gtids (Ok event)
gtids_of_maria event has = sym (ap (λ (b : Bool). cond b (event_gtids event) []) has)

no_error : (index : ℕ) (found : Result (Option MariaEventData) Error) (out : Option (List ℕ)) → is_err found ≡ false → Appends out out (maria_error_line index found)
no_error index (Ok found) out fine = Appends-nil out
no_error index (Err error) out fine = absurd cc

-- Its GTIDs were added.
pub maria_added : (index : ℕ) (event : EventView) (groups : List GtidGroup) (before after : List MariaGtid) (out : Option (List ℕ)) → has_maria_gtids event ≡ true
    → AddsMariaGtids event before (Ok tt) after → TracksLogItem index (Ok event) (log_tracked (log_gtids groups before) out) (log_tracked (log_gtids groups after) out) (Ok false)
maria_added index event groups before after out has added = (
  grows_none event groups has,
  subst (λ (gs : List MariaGtid). KeepLast (before ++ gs) after) (gtids_of_maria event has) added.1,
  subst (Appends out out) (line_of_maria index event has) (no_error index (maria_data_of event) out added.0),
  sym added.0 ∙ refused_of_maria event has,
)

-- Memory ran out for them.
pub maria_memory : (index : ℕ) (event : EventView) (groups : List GtidGroup) (before after : List MariaGtid) (out : Option (List ℕ)) (e : Error) → has_maria_gtids event ≡ true
    → AddsMariaGtids event before (Err e) after → is_environment_error e ≡ true → TracksLogItem index (Ok event) (log_tracked (log_gtids groups before) out) (log_tracked (log_gtids groups after) out) (Err e)
maria_memory index event groups before after out e has (same, inl memory) outside = (same_last groups before after same, inr (memory, inr has, refl))
maria_memory index event groups before after out e has (same, inr why) outside = absurd (let inside : is_environment_error e ≡ false = why.1 in cc)

why_of : (event : EventView) (before after : List MariaGtid) (e : Error) → AddsMariaGtids event before (Err e) after → is_environment_error e ≡ false → maria_data_of event ≡ Err e
why_of event before after e (same, inl memory) inside = absurd (let outside : is_environment_error e ≡ true = ap is_environment_error memory in cc)
why_of event before after e (same, inr why) inside = why.0

-- Data that can't be read has no GTIDs.
kept_of_refused : (event : EventView) (before after : List MariaGtid) (e : Error) → has_maria_gtids event ≡ true → maria_data_of event ≡ Err e → after ≡ before
    → KeepLast (before ++ item_gtids (Ok event)) after
kept_of_refused event before after e has why same =
    let none : [] ≡ item_gtids (Ok event) = sym (ap (λ (found : Result (Option MariaEventData) Error). gtids_found (header_of event.frame).server_id found) why) ∙ gtids_of_maria event has in
    subst (λ (es : List MariaGtid). KeepLast (before ++ item_gtids (Ok event)) es) (sym same)
    (subst (λ (gs : List MariaGtid). KeepLast (before ++ gs) before) none (keeps_none before))

-- The line of the error is written.
pub maria_refused : (index : ℕ) (event : EventView) (groups : List GtidGroup) (before after : List MariaGtid) (old new : Option (List ℕ)) (e : Error) → has_maria_gtids event ≡ true
    → AddsMariaGtids event before (Err e) after → is_environment_error e ≡ false → Appends old new (error_line index e)
    → TracksLogItem index (Ok event) (log_tracked (log_gtids groups before) old) (log_tracked (log_gtids groups after) new) (Ok true)
maria_refused index event groups before after old new e has added inside wrote =
    let why = why_of event before after e added inside in
    let line : error_line index e ≡ log_line index (Ok event) = sym (ap (maria_error_line index) why) ∙ line_of_maria index event has in
    (grows_none event groups has, kept_of_refused event before after e has why added.0, subst (Appends old new) line wrote, sym (ap is_err why) ∙ refused_of_maria event has)

-- The writer failed in it.
pub maria_stops : (index : ℕ) (event : EventView) (groups : List GtidGroup) (before after : List MariaGtid) (old new : Option (List ℕ)) (e failure : Error) → has_maria_gtids event ≡ true
    → AddsMariaGtids event before (Err e) after → is_environment_error e ≡ false → (failure ≡ Writer) × AppendsFront old new (error_line index e)
    → TracksLogItem index (Ok event) (log_tracked (log_gtids groups before) old) (log_tracked (log_gtids groups after) new) (Err failure)
maria_stops index event groups before after old new e failure has added inside wrote =
    let why = why_of event before after e added inside in
    let line : error_line index e ≡ log_line index (Ok event) = sym (ap (maria_error_line index) why) ∙ line_of_maria index event has in
    (same_last groups before after added.0, inl (wrote.0, subst (AppendsFront old new) line wrote.1))

-- ---- an item that is an error

pub error_item : (index : ℕ) (error : Error) (groups : List GtidGroup) (last : List MariaGtid) (old new : Option (List ℕ)) → Appends old new (error_line index error)
    → TracksLogItem index (Err error) (log_tracked (log_gtids groups last) old) (log_tracked (log_gtids groups last) new) (Ok true)
error_item index error groups last old new wrote = (λ pair n. refl, keeps_none last, wrote, refl)

pub error_item_stops : (index : ℕ) (error failure : Error) (groups : List GtidGroup) (last : List MariaGtid) (old new : Option (List ℕ)) → (failure ≡ Writer) × AppendsFront old new (error_line index error)
    → TracksLogItem index (Err error) (log_tracked (log_gtids groups last) old) (log_tracked (log_gtids groups last) new) (Err failure)
error_item_stops index error failure groups last old new wrote = (refl, inl wrote)
