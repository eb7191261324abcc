-- A filter without conditions takes each event.
use Rattle.std.specs.Prelude.{◌&&◌, ◌||◌, ◌==◌, not, is_none, nat_le}
use Rattle.std.specs.Cmp.Derive.{both_true}
use Rattle.std.proofs.Common.{◌≡◌, inl, inr, ℕ, Bool, true, false, List, [], ◌∷◌, length, Option, Some, None, Result, Ok, Err, refl, sym, arith}
use Rattle.std.proofs.lemmas.Bool.{and_parts}
use Rattle.std.proofs.lemmas.Bool.Decides.{nat_tests}
use Rattle.binlog_wire.specs.declared.error.Error.{Error}
use Rattle.binlog_event_format.specs.Headers.{header_of}
use Rattle.binlog_file.specs.Events.{EventView}
use Rattle.binlog_file.specs.Parts.{is_description}
use Rattle.binlog_file.specs.TableMapsInForce.{TableMaps}
use Rattle.binlog_file.specs.declared.log_data.LogEventData.{LogEventData}
use Rattle.binlog_filters.specs.Taking.{ConcernsTables, FollowsEvent, TakesEvent, WantsEvent, begins_transaction, has_no_condition, is_any, is_before, is_excluded, is_in_positions, is_in_times, is_included, is_of_log, is_of_server, is_of_type, is_one, meets_conditions, wants_read}
use Rattle.binlog_filters.specs.declared.concern.Concern.TheVariants.{Taken}
use Rattle.binlog_filters.specs.declared.filter.Filter.{Filter}
use Rattle.binlog_filters.specs.declared.gtid_set.GtidSet.{GtidSet}
use Rattle.binlog_filters.specs.declared.state.FilterState.{FilterState}
use Rattle.binlog_filters.specs.declared.tables.TableFilter.{TableFilter}
use Rattle.binlog_filters.proofs.Readable.{readable}

-- ---- the conditions, one by one

of_any_table : (tables : Option TableFilter) (is_for_copy : Bool) (maps : TableMaps) (event : EventView) → is_none tables ≡ true → ConcernsTables tables is_for_copy maps event Taken
of_any_table None is_for_copy maps event none = refl
of_any_table (Some tables) is_for_copy maps event none = absurd cc

of_any_type : (types : List ℕ) (type : ℕ) → (length types == 0) ≡ true → is_any types type ≡ true
of_any_type [] type none = refl
of_any_type (x ∷ types) type none = absurd (grind (arith, nat_tests))

of_any_server : (asked : Option ℕ) (id : ℕ) → is_none asked ≡ true → is_one asked id ≡ true
of_any_server None id none = refl
of_any_server (Some asked) id none = absurd cc

in_any : (first n : ℕ) (stop : Option ℕ) → (first == 0) ≡ true → is_none stop ≡ true → (nat_le first n && is_before n stop) ≡ true
in_any first n None zero none =
    let low : nat_le first n ≡ true = grind (arith, nat_tests) in
    rw low refl
in_any first n (Some stop) zero none = absurd cc

anywhere : (filter : Filter) (start : Option ℕ) → (filter.start_position == 0) ≡ true → is_none filter.stop_position ≡ true → is_in_positions filter start ≡ true
anywhere filter None zero none = refl
anywhere filter (Some start) zero none = in_any filter.start_position start filter.stop_position zero none

-- ---- all of them

met_by : (of_log type server times positions : Bool) → type ≡ true → server ≡ true → times ≡ true → positions ≡ true → ((true || of_log) && (type && (server && (times && positions)))) ≡ true
met_by of_log true true true true type server times positions = refl
met_by of_log false server times positions type' server' times' positions' = absurd cc
met_by of_log true false times positions type' server' times' positions' = absurd cc
met_by of_log true true false positions type' server' times' positions' = absurd cc
met_by of_log true true true false type' server' times' positions' = absurd cc

-- What has no condition has none of each kind.
record Unasked (filter : Filter) : Type 0 where
  tables : is_none filter.tables ≡ true
  include_gtids : is_none filter.include_gtids ≡ true
  exclude_gtids : is_none filter.exclude_gtids ≡ true
  types : (length filter.types.items == 0) ≡ true
  server_id : is_none filter.server_id ≡ true
  stop_position : is_none filter.stop_position ≡ true
  stop_time : is_none filter.stop_time ≡ true
  start_position : (filter.start_position == 0) ≡ true
  start_time : (filter.start_time == 0) ≡ true

unasked : (filter : Filter) → has_no_condition filter ≡ true → Unasked filter
unasked filter none =
    let gtids = (and_parts (is_none filter.tables) _ none).1 in
    let excluded = (and_parts (is_none filter.include_gtids) _ gtids).1 in
    let header = (and_parts (is_none filter.exclude_gtids) _ excluded).1 in
    let server = (and_parts (length filter.types.items == 0) _ header).1 in
    let stops = (and_parts (is_none filter.server_id) _ server).1 in
    let stop_time = (and_parts (is_none filter.stop_position) _ stops).1 in
    let starts = (and_parts (is_none filter.stop_time) _ stop_time).1 in
    record {
      tables = (and_parts (is_none filter.tables) _ none).0;
      include_gtids = (and_parts (is_none filter.include_gtids) _ gtids).0;
      exclude_gtids = (and_parts (is_none filter.exclude_gtids) _ excluded).0;
      types = (and_parts (length filter.types.items == 0) _ header).0;
      server_id = (and_parts (is_none filter.server_id) _ server).0;
      stop_position = (and_parts (is_none filter.stop_position) _ stops).0;
      stop_time = (and_parts (is_none filter.stop_time) _ stop_time).0;
      start_position = (and_parts (filter.start_position == 0) _ starts).0;
      start_time = (and_parts (filter.start_position == 0) _ starts).1;
    }

meets_all : (filter : Filter) (start : Option ℕ) (event : EventView) → Unasked filter → meets_conditions filter start event true ≡ true
meets_all filter start event none =
    let header = header_of event.frame in
    met_by (is_of_log header.event_type) (is_of_type filter header.event_type) (is_of_server filter header.server_id) (is_in_times filter header.timestamp) (is_in_positions filter start)
    (of_any_type filter.types.items header.event_type none.types) (of_any_server filter.server_id header.server_id none.server_id)
    (in_any filter.start_time header.timestamp filter.stop_time none.start_time none.stop_time) (anywhere filter start none.start_position none.stop_position)

taken_by : (is_described meets : Bool) → meets ≡ true → true ≡ (is_described || (true && meets))
taken_by true meets met = refl
taken_by false true met = refl
taken_by false false met = absurd cc

-- ---- the transactions

included : (asked : Option GtidSet) (server_id : ℕ) (x : LogEventData) → is_none asked ≡ true → is_included asked server_id x ≡ true
included None server_id x none = refl
included (Some set) server_id x none = absurd cc

not_excluded : (asked : Option GtidSet) (server_id : ℕ) (x : LogEventData) → is_none asked ≡ true → not (is_excluded asked server_id x) ≡ true
not_excluded None server_id x none = refl
not_excluded (Some set) server_id x none = absurd cc

wants_any : (filter : Filter) (server_id : ℕ) (read : Result (Option LogEventData) Error) → Unasked filter → true ≡ wants_read filter server_id read
wants_any filter server_id (Ok (Some x)) none = sym (both_true (included filter.include_gtids server_id x none.include_gtids) (not_excluded filter.exclude_gtids server_id x none.exclude_gtids))
wants_any filter server_id (Ok None) none = sym none.include_gtids
wants_any filter server_id (Err error) none = sym none.include_gtids

wants_each : (filter : Filter) (event : EventView) → Unasked filter → WantsEvent filter event true
wants_each filter event none =
    let found = readable event in
    record { read = found.read; reads = found.reads; wanted = record { is_read = found.is_read; is = wants_any filter (header_of event.frame).server_id found.read none } }

follows_by : (filter : Filter) (event : EventView) (begins : Bool) → begins_transaction (header_of event.frame).event_type ≡ begins → Unasked filter → FollowsEvent filter true event (Ok true)
follows_by filter event false is none = inl (is, refl)
follows_by filter event true is none = inr (is, wants_each filter event none)

-- ---- an event

pub takes_each : (filter : Filter) (maps : TableMaps) (start : Option ℕ) (state : FilterState) (event : EventView) → (state.is_wanted && has_no_condition filter) ≡ true → TakesEvent filter maps start state event state true
takes_each filter maps start state event each =
    let wanted : state.is_wanted ≡ true = (and_parts state.is_wanted (has_no_condition filter) each).0 in
    let none = unasked filter (and_parts state.is_wanted (has_no_condition filter) each).1 in
    record {
      follows = rw wanted (follows_by filter event (begins_transaction (header_of event.frame).event_type) refl none);
      concern = Taken;
      concerns = of_any_table filter.tables filter.is_for_copy maps event none.tables;
      is = rw wanted (taken_by (filter.is_for_copy && is_description event.frame) (meets_conditions filter start event true) (meets_all filter start event none));
      statement = refl;
      left_out = refl;
    }
