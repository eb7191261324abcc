-- What a filter decides of an event with a payload.
use Rattle.std.specs.Prelude.{◌&&◌, ◌||◌, not}
use Rattle.std.proofs.Common.{◌≡◌, inl, inr, ℕ, Bool, true, false, eqb, Option, Some, None, Result, Ok, Err, refl, sym, ap, subst, ◌∙◌, arith}
use Rattle.std.proofs.lemmas.Bool.Decides.{nat_tests}
use Rattle.binlog_wire.specs.declared.error.Error.{Error}
use Rattle.binlog_event_format.specs.Headers.{header_of}
use Rattle.binlog_events.specs.Events.{EventView}
use Rattle.binlog_events.specs.Parts.{is_description}
use Rattle.binlog_file.specs.TableMapsInForce.{TableMaps}
use Rattle.binlog_file.specs.declared.log_data.LogEventData.{LogEventData}
use Rattle.binlog_filters.specs.Concerns.{is_concerned, is_in_statement, is_unknown}
use Rattle.binlog_filters.specs.Taking.{ConcernsTables, FollowsEvent, TakesEvent, counted_if, is_taken, meets_conditions, takes_begin, wants_read}
use Rattle.binlog_filters.specs.declared.concern.Concern.{Concern}
use Rattle.binlog_filters.specs.declared.concern.Concern.TheVariants.{Taken}
use Rattle.binlog_filters.specs.declared.filter.Filter.{Filter}
use Rattle.binlog_filters.specs.declared.state.FilterState.{FilterState}
use Rattle.binlog_filters.specs.declared.tables.TableFilter.{TableFilter}
use Rattle.binlog_payload_filters.specs.Payloads.{is_payload}
use Rattle.binlog_payload_filters.specs.Taking.{TakesBy, TakesIfMet, TakesPayload}

-- ---- a filter without conditions of tables

no_description_by : (t : ℕ) → eqb t 40 ≡ true → eqb t 15 ≡ false
no_description_by t is = grind (arith, nat_tests)

-- An event with a payload is no description.
pub no_description : (event : EventView) → is_payload event ≡ true → is_description event.frame ≡ false
no_description event is = no_description_by (header_of event.frame).event_type is

met_by : (copy described meets : Bool) → described ≡ false → ((copy && described) || (true && meets)) ≡ meets
met_by true described meets none = rw none refl
met_by false described meets none = refl

none_counted : (taken : Bool) (n : ℕ) → counted_if (not taken && false) n ≡ n
none_counted true n = refl
none_counted false n = refl

-- What such a filter decides: whether each of its conditions takes the event.
pub record Decides (filter : Filter) (start : Option ℕ) (was : FilterState) (event : EventView) (now : FilterState) (meets : Bool) : Type 0 where
  pub follows : FollowsEvent filter was.is_wanted event (Ok now.is_wanted)
  pub met : meets ≡ meets_conditions filter start event now.is_wanted
  pub statement : now.is_in_statement ≡ was.is_in_statement
  pub left_out : now.left_out ≡ was.left_out

decided : (filter : Filter) (maps : TableMaps) (start : Option ℕ) (was : FilterState) (event : EventView) (now : FilterState) (meets : Bool) → filter.tables ≡ None → is_payload event ≡ true
    → TakesEvent filter maps start was event now meets → Decides filter start was event now meets
decided filter maps start was event now meets none payload takes =
    let concern : takes.concern ≡ Taken = subst (λ (t : Option TableFilter). ConcernsTables t filter.is_for_copy maps event takes.concern) none takes.concerns in
    let met = meets_conditions filter start event now.is_wanted in
    record {
      follows = takes.follows;
      met = takes.is ∙ ap (λ (c : Concern). is_taken filter start event now.is_wanted (is_concerned filter.is_for_copy was.is_in_statement c || takes_begin filter event)) concern
          ∙ met_by filter.is_for_copy (is_description event.frame) met (no_description event payload);
      statement = takes.statement ∙ ap (λ (c : Concern). is_in_statement was.is_in_statement meets c) concern;
      left_out = takes.left_out ∙ ap (λ (c : Concern). counted_if (not meets && (is_unknown c && met)) was.left_out) concern ∙ none_counted meets was.left_out;
    }

-- The event is taken then by what is inside.
pub takes_payload : (filter : Filter) (tables : TableFilter) (limit : ℕ) (maps : TableMaps) (start : Option ℕ) (was : FilterState) (event : EventView) (now : FilterState) (meets taken : Bool) → filter.tables ≡ None
    → is_payload event ≡ true → TakesEvent filter maps start was event now meets → TakesIfMet meets limit tables event taken → TakesPayload filter tables limit start was event now taken
takes_payload filter tables limit maps start was event now meets taken none payload takes inside =
    let by = decided filter maps start was event now meets none payload takes in
    record {
      follows = by.follows;
      statement = by.statement;
      left_out = by.left_out;
      is = subst (λ (b : Bool). TakesIfMet b limit tables event taken) by.met inside;
    }

-- ---- the same filter with its conditions of tables

-- A filter without its conditions of tables.
abbrev pub without_tables : Filter → Filter
without_tables filter = record filter { tables = None }

wants_same : (filter : Filter) (server_id : ℕ) (read : Result (Option LogEventData) Error) → wants_read (without_tables filter) server_id read ≡ wants_read filter server_id read
wants_same filter server_id (Ok (Some x)) = refl
wants_same filter server_id (Ok None) = refl
wants_same filter server_id (Err error) = refl

follows_same : (filter : Filter) (was : Bool) (event : EventView) (now : Bool) → FollowsEvent (without_tables filter) was event (Ok now) → FollowsEvent filter was event (Ok now)
follows_same filter was event now (inl same) = inl same
follows_same filter was event now (inr (begins, wants)) = inr (
  begins,
  record {
    read = wants.read;
    reads = wants.reads;
    wanted = record { is_read = wants.wanted.is_read; is = wants.wanted.is ∙ wants_same filter (header_of event.frame).server_id wants.read };
  },
)

payload_same : (filter : Filter) (tables : TableFilter) (limit : ℕ) (start : Option ℕ) (was : FilterState) (event : EventView) (now : FilterState) (taken : Bool)
    → TakesPayload (without_tables filter) tables limit start was event now taken → TakesPayload filter tables limit start was event now taken
payload_same filter tables limit start was event now taken takes = record {
  follows = follows_same filter was.is_wanted event now.is_wanted takes.follows;
  statement = takes.statement;
  left_out = takes.left_out;
  is = takes.is;
}

-- An event with a payload is taken so by a filter with conditions of tables.
pub taken_inside : (filter : Filter) (tables : TableFilter) (limit : ℕ) (maps : TableMaps) (start : Option ℕ) (was : FilterState) (event : EventView) (now : FilterState) (taken : Bool)
    → filter.tables ≡ Some tables → is_payload event ≡ true → TakesPayload (without_tables filter) tables limit start was event now taken
    → TakesBy filter.tables (is_payload event) filter limit maps start was event now taken
taken_inside filter tables limit maps start was event now taken asked payload takes =
    let same = payload_same filter tables limit start was event now taken takes in
    subst (λ (t : Option TableFilter). TakesBy t (is_payload event) filter limit maps start was event now taken) (sym asked)
    (subst (λ (b : Bool). TakesBy (Some tables) b filter limit maps start was event now taken) (sym payload) same)

outside_by : (t : Option TableFilter) (b : Bool) (filter : Filter) (limit : ℕ) (maps : TableMaps) (start : Option ℕ) (was : FilterState) (event : EventView) (now : FilterState) (taken : Bool) → b ≡ false
    → TakesEvent filter maps start was event now taken → TakesBy t b filter limit maps start was event now taken
outside_by None b filter limit maps start was event now taken none takes = takes
outside_by (Some tables) true filter limit maps start was event now taken none takes = absurd cc
outside_by (Some tables) false filter limit maps start was event now taken none takes = takes

-- Any other event is taken as it is outside.
pub taken_outside : (filter : Filter) (limit : ℕ) (maps : TableMaps) (start : Option ℕ) (was : FilterState) (event : EventView) (now : FilterState) (taken : Bool) → is_payload event ≡ false
    → TakesEvent filter maps start was event now taken → TakesBy filter.tables (is_payload event) filter limit maps start was event now taken
taken_outside filter limit maps start was event now taken other takes = outside_by filter.tables (is_payload event) filter limit maps start was event now taken other takes

unasked_by : (t : Option TableFilter) (b : Bool) (filter : Filter) (limit : ℕ) (maps : TableMaps) (start : Option ℕ) (was : FilterState) (event : EventView) (now : FilterState) (taken : Bool) → t ≡ None
    → TakesEvent filter maps start was event now taken → TakesBy t b filter limit maps start was event now taken
unasked_by None b filter limit maps start was event now taken none takes = takes
unasked_by (Some tables) b filter limit maps start was event now taken none takes = absurd cc

-- And so is each event without conditions of tables.
pub taken_unasked : (filter : Filter) (limit : ℕ) (maps : TableMaps) (start : Option ℕ) (was : FilterState) (event : EventView) (now : FilterState) (taken : Bool) → filter.tables ≡ None
    → TakesEvent filter maps start was event now taken → TakesBy filter.tables (is_payload event) filter limit maps start was event now taken
taken_unasked filter limit maps start was event now taken none takes = unasked_by filter.tables (is_payload event) filter limit maps start was event now taken none takes

as_unasked : (t : Option TableFilter) (b : Bool) (filter : Filter) (limit : ℕ) (maps : TableMaps) (start : Option ℕ) (was : FilterState) (event : EventView) (now : FilterState) (taken : Bool) → t ≡ None
    → TakesBy t b filter limit maps start was event now taken → TakesEvent filter maps start was event now taken
as_unasked None b filter limit maps start was event now taken none takes = takes
as_unasked (Some tables) b filter limit maps start was event now taken none takes = absurd cc

-- The other way round.
pub unasked_taken : (filter : Filter) (limit : ℕ) (maps : TableMaps) (start : Option ℕ) (was : FilterState) (event : EventView) (now : FilterState) (taken : Bool) → filter.tables ≡ None
    → TakesBy filter.tables (is_payload event) filter limit maps start was event now taken → TakesEvent filter maps start was event now taken
unasked_taken filter limit maps start was event now taken none takes = as_unasked filter.tables (is_payload event) filter limit maps start was event now taken none takes
