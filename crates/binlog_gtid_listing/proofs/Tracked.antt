-- What the visits of a log's items write and add, and the listing of its GTIDs.
use Rattle.std.proofs.Common.{◌≡◌, ◌⊎◌, inl, inr, ℕ, ◌+◌, ◌^◌, ◌<◌, Bool, true, false, ◌||◌, List, [], ◌∷◌, ◌++◌, length, Option, Some, None, IfSome, Result, Ok, Err, is_err, refl, sym, ap, subst, ◌∙◌}
use Rattle.std.specs.List.{list_any}
use Rattle.std.specs.Io.KnownBytes.{Appends}
use Rattle.std.proofs.KnownBytes.{Appends-nil, Appends-trans}
use Rattle.binlog_ends.specs.Counts.{AppendsFront}
use Rattle.binlog_wire.specs.declared.error.Error.{Error}
use Rattle.binlog_wire.specs.declared.error.Error.TheVariants.{EndOfInput, InvalidFileHeader, Memory, Reader, Writer}
use Rattle.binlog_wire.specs.Errors.{is_environment_error}
use Rattle.binlog_event_data.specs.declared.event_data.EventData.{EventData}
use Rattle.binlog_events.specs.Events.{EventView}
use Rattle.binlog_file.specs.State.{Handles}
use Rattle.binlog_file.specs.TableMapsInForce.{TableMaps}
use Rattle.binlog_gtid_sets.specs.declared.gtid_group.GtidGroup.{GtidGroup}
use Rattle.binlog_gtid_sets.specs.GtidGroups.{Pair, is_tracked, AreGroups}
use Rattle.binlog_visits.specs.Places.{Place, first_place, LeavesLooked}
use Rattle.binlog_visits.specs.TableMaps.{maps_behind}
use Rattle.binlog_visits.specs.Visits.{VisitRelation, RefusalRelation, Visits, VisitsAll, VisitsFile, VisitsBytes, VisitsLog, IsNoFile}
use Rattle.binlog_visits.specs.LineVisits.{WritesNoItem}
use Rattle.binlog_visits.proofs.Listed.{all_written, all_noted, stopped}
use Rattle.binlog_listing.specs.Listing.{error_line}
use Rattle.binlog_gtid_listing.specs.GtidItems.{gtids_of, gtids_in, line_for, gtid_line, is_refused, adds, are_added, MayGrow, AddsGtids}
use Rattle.binlog_gtid_listing.specs.GroupLines.{WritesSomeGroups, WritesGroups}
use Rattle.binlog_gtid_listing.specs.GtidListing.{error_lines, ListsAllGtids, ListsSomeGtids, ListsGtidItems, ListsGtidsFile, ListsGtids, Tracking, TracksItem, tracked, ListsItemGtids}
use Rattle.binlog_gtid_listing.proofs.Writing.{front_later}

-- ---- one item

no_line : (index : ℕ) (found : Result (Option EventData) Error) (out : Option (List ℕ)) → is_err found ≡ false → Appends out out (line_for index found)
no_line index (Ok found) out fine = Appends-nil out
no_line index (Err error) out fine = absurd cc

-- an event added what it gives
pub event_added : (index : ℕ) (event : EventView) (before after : List GtidGroup) (out : Option (List ℕ)) → AddsGtids event before (Ok tt) after
    → TracksItem index (Ok event) (tracked before out) (tracked after out) (Ok false)
event_added index event before after out added = (added.1, no_line index (gtids_of event) out added.0, sym added.0)

-- memory ran out for it
pub event_memory : (index : ℕ) (event : EventView) (before after : List GtidGroup) (out : Option (List ℕ)) (e : Error) → AddsGtids event before (Err e) after
    → is_environment_error e ≡ true → TracksItem index (Ok event) (tracked before out) (tracked after out) (Err e)
event_memory index event before after out e (same, inl memory) outside = (same, inr (memory.0, memory.1, refl))
event_memory index event before after out e (same, inr why) outside = absurd (let inside : is_environment_error e ≡ false = why.1 in cc)

why_of : (event : EventView) (before after : List GtidGroup) (e : Error) → AddsGtids event before (Err e) after → is_environment_error e ≡ false → gtids_of event ≡ Err e
why_of event before after e (same, inl memory) inside = absurd (let outside : is_environment_error e ≡ true = ap is_environment_error memory.0 in cc)
why_of event before after e (same, inr why) inside = why.0

-- its line is written
pub event_refused : (index : ℕ) (event : EventView) (before after : List GtidGroup) (old new : Option (List ℕ)) (e : Error) → AddsGtids event before (Err e) after
    → is_environment_error e ≡ false → Appends old new (error_line index e) → TracksItem index (Ok event) (tracked before old) (tracked after new) (Ok true)
event_refused index event before after old new e added inside wrote =
    let why = why_of event before after e added inside in (
      λ pair n. ap (λ (gs : List GtidGroup). is_tracked gs pair n) added.0 ∙ ap (λ (f : Result (Option EventData) Error). adds f pair n || is_tracked before pair n) (sym why),
      subst (λ (f : Result (Option EventData) Error). Appends old new (line_for index f)) (sym why) wrote,
      sym (ap is_err why),
    )

-- the writer failed in its line
pub event_stops : (index : ℕ) (event : EventView) (before after : List GtidGroup) (old new : Option (List ℕ)) (e failure : Error) → AddsGtids event before (Err e) after
    → is_environment_error e ≡ false → (failure ≡ Writer) × AppendsFront old new (error_line index e) → TracksItem index (Ok event) (tracked before old) (tracked after new) (Err failure)
event_stops index event before after old new e failure added inside wrote =
    let why = why_of event before after e added inside in
    (added.0, inl (wrote.0, subst (λ (f : Result (Option EventData) Error). AppendsFront old new (line_for index f)) (sym why) wrote.1))

or_true : (b : Bool) → true ≡ (b || true)
or_true true = refl
or_true false = refl

-- The visit of an event.
pub event_listed : (index : ℕ) (item : Result EventView Error) (old new : Tracking) (had is : Bool) → TracksItem index item old new (Ok is) → ListsItemGtids index item old had new (had || is)
event_listed index item old new had is tracks = (tracks.0, tracks.1, ap (λ (b : Bool). had || b) tracks.2)

-- The visit of an error.
pub error_listed : (index : ℕ) (error : Error) (groups : List GtidGroup) (old new : Option (List ℕ)) (had : Bool) → Appends old new (error_line index error)
    → ListsItemGtids index (Err error) (tracked groups old) had (tracked groups new) true
error_listed index error groups old new had wrote = (λ pair n. refl, wrote, or_true had)

pub error_stops : (index : ℕ) (error failure : Error) (groups : List GtidGroup) (old new : Option (List ℕ)) → (failure ≡ Writer) × AppendsFront old new (error_line index error)
    → TracksItem index (Err error) (tracked groups old) (tracked groups new) (Err failure)
error_stops index error failure groups old new wrote = (refl, inl wrote)

-- ---- all items

or_or : (a b c : Bool) → (b || (a || c)) ≡ ((a || b) || c)
or_or true true c = refl
or_or true false c = refl
or_or false true c = refl
or_or false false c = refl

-- All items that are left are read: the lines of their errors are written, and the set has what they add.
record TracksAll (start : Place) (old new : Option (List ℕ)) (groups : List GtidGroup) (has_errors : Bool) : Type 0 where
  items : List (Result EventView Error)
  are : LeavesLooked start items
  written : Appends old new (error_lines items)
  errors : has_errors ≡ list_any is_refused items
  same : (pair : Pair) (n : ℕ) → is_tracked groups pair n ≡ are_added items pair n

-- ---- behind the items

-- a part of the lines, or a front, behind those of the items
groups_by : (items : List (Result EventView Error)) (lines : List ℕ) (old mid new : Option (List ℕ)) (error : Error) → Appends old mid (error_lines items)
    → ((true ≡ true) × (error ≡ Memory) × Appends mid new lines) ⊎ ((error ≡ Writer) × AppendsFront mid new lines)
    → ((error ≡ Memory) × Appends old new (error_lines items ++ lines)) ⊎ ((error ≡ Writer) × AppendsFront old new (error_lines items ++ lines))
groups_by items lines old mid new error first (inl memory) = inl (memory.1, Appends-trans old mid new _ _ first memory.2)
groups_by items lines old mid new error first (inr writer) = inr (writer.0, front_later _ lines old mid new first writer.1)

some_listed : (start : Place) (old mid new : Option (List ℕ)) (groups : List GtidGroup) (has_errors : Bool) (error : Error)
    → TracksAll start old mid groups has_errors → AreGroups groups → WritesSomeGroups groups mid error new → ListsSomeGtids error start old new
some_listed start old mid new groups has_errors error tracked are wrote = record {
  items = tracked.items;
  are = tracked.are;
  groups = groups;
  union = record { ascending = are; same = tracked.same };
  count = wrote.count;
  lines = wrote.lines;
  listed = wrote.listed;
  written = groups_by tracked.items wrote.lines old mid new error tracked.written wrote.written;
}

all_listed : (start : Place) (old mid new : Option (List ℕ)) (groups : List GtidGroup) (has_errors : Bool) → TracksAll start old mid groups has_errors → AreGroups groups → WritesGroups groups mid (Ok tt) new
    → ListsAllGtids start old new has_errors
all_listed start old mid new groups has_errors tracked are wrote = record {
  items = tracked.items;
  are = tracked.are;
  groups = groups;
  union = record { ascending = are; same = tracked.same };
  lines = wrote.0;
  listed = wrote.1;
  written = Appends-trans old mid new _ _ tracked.written wrote.2;
  errors = tracked.errors;
}

-- The result behind the lines of the groups.
abbrev pub answer_behind : Result (Unit {0}) Error → Bool → Result Bool Error
answer_behind (Ok done) has_errors = Ok has_errors
answer_behind (Err error) has_errors = Err error

no_memory : (A B : Type 0) (error : Error) → is_environment_error error ≡ false → ((error ≡ Memory) × A) ⊎ ((error ≡ Writer) × B) → ⊥
no_memory A B error inside (inl memory) = let outside : is_environment_error error ≡ true = ap is_environment_error memory.0 in cc
no_memory A B error inside (inr writer) = let outside : is_environment_error error ≡ true = ap is_environment_error writer.0 in cc

no_end : (start : Place) (old : Option (List ℕ)) (after : Place) (new : Option (List ℕ)) → ListsGtidItems start old (Err EndOfInput) after new → ⊥
no_end start old after new (inl before) = let outside : is_environment_error EndOfInput ≡ true = before.outside in cc
no_end start old after new (inr some) = no_memory _ _ EndOfInput refl some.written

no_header : (start : Place) (old : Option (List ℕ)) (after : Place) (new : Option (List ℕ)) → ListsGtidItems start old (Err InvalidFileHeader) after new → ⊥
no_header start old after new (inl before) = let outside : is_environment_error InvalidFileHeader ≡ true = before.outside in cc
no_header start old after new (inr some) = no_memory _ _ InvalidFileHeader refl some.written

answered : (answer : Result Bool Error) (bytes : List ℕ) (old new : Option (List ℕ)) → ListsGtidsFile bytes old answer new → ListsGtids bytes old answer new
answered (Ok has_errors) bytes old new file = file
answered (Err EndOfInput) bytes old new file = absurd (no_end _ old file.after new file.lists)
answered (Err InvalidFileHeader) bytes old new file = absurd (no_header _ old file.after new file.lists)
answered (Err Reader) bytes old new file = inl file
answered (Err error) bytes old new file = file

-- Nothing is written of what is no file.
not_listed : (error : Error) (bytes : List ℕ) (old : Option (List ℕ)) → IsNoFile error bytes → ListsGtids bytes old (Err error) old
not_listed EndOfInput bytes old none = (none, Appends-nil old)
not_listed InvalidFileHeader bytes old none = (none.0, none.1, Appends-nil old)
not_listed Reader bytes old none = inr (Appends-nil old)
not_listed error bytes old none = absurd none

-- `groups`, `contents` and `errors` are the set of a visitor, what its writer has, and whether an error is noted.
module _ {T : Type 0} (visits : VisitRelation T) (refuses : RefusalRelation T) (groups : T → List GtidGroup) (contents : T → Option (List ℕ)) (errors : T → Bool)
    (lists : (old : T) (maps : TableMaps) (index : ℕ) (item : Result EventView Error) (new : T) → visits old maps index item new
    → ListsItemGtids index item (tracked (groups old) (contents old)) (errors old) (tracked (groups new) (contents new)) (errors new))
    (stops : (old : T) (maps : TableMaps) (index : ℕ) (item : Result EventView Error) (error : Error) (new : T) → refuses old maps index item error new
    → WritesNoItem gtid_line MayGrow index item (contents old) error (contents new)) where
  writes : (old : T) (maps : TableMaps) (index : ℕ) (item : Result EventView Error) (new : T) → visits old maps index item new
      → Appends (contents old) (contents new) (gtid_line index item) × (errors new ≡ (errors old || is_refused item))
  writes old maps index item new visited = let listed = lists old maps index item new visited in (listed.1, listed.2)

  -- What items add to a set.
  all_added : (maps : TableMaps) (index : ℕ) (items : List (Result EventView Error)) (old new : T) → Visits visits maps index items old new
      → (pair : Pair) (n : ℕ) → is_tracked (groups new) pair n ≡ (are_added items pair n || is_tracked (groups old) pair n)
  all_added maps index [] old new same pair n = ap (λ (t : T). is_tracked (groups t) pair n) same
  all_added maps index (item ∷ items) old new (mid, one, rest) pair n =
      all_added (maps_behind maps item) (index + 1) items mid new rest pair n
      ∙ ap (λ (b : Bool). are_added items pair n || b) ((lists old (maps_behind maps item) index item mid one).0 pair n)
      ∙ or_or (adds (gtids_in item) pair n) (are_added items pair n) (is_tracked (groups old) pair n)

  or_none : (b c : Bool) → c ≡ false → (b || c) ≡ b
  or_none true c none = refl
  or_none false c none = none

  all_tracked : (tail_len : Option ℕ) (start : Place) (old new : T) → groups old ≡ [] → errors old ≡ false → VisitsAll visits refuses Handles LeavesLooked tail_len start old new
      → TracksAll start (contents old) (contents new) (groups new) (errors new)
  all_tracked tail_len start old new empty none all = record {
    items = all.items;
    are = all.are;
    written = all_written visits contents errors gtid_line is_refused writes start.state.table_maps 0 all.items old new all.visited;
    errors =
        all_noted visits contents errors gtid_line is_refused writes start.state.table_maps 0 all.items old new all.visited
        ∙ ap (λ (b : Bool). b || list_any is_refused all.items) none;
    same = λ pair n.
        all_added start.state.table_maps 0 all.items old new all.visited pair n
        ∙ or_none (are_added all.items pair n) (is_tracked (groups old) pair n) (ap (λ (gs : List GtidGroup). is_tracked gs pair n) empty);
  }

  -- ---- the lines of the groups

  -- The visits ended with an error.
  stop_file : (bytes : List ℕ) (error : Error) (old new : T) → VisitsFile visits refuses Handles LeavesLooked bytes old (Err error) new
      → ListsGtidsFile bytes (contents old) (Err error) (contents new)
  stop_file bytes error old new file =
      let lists = stopped visits contents errors gtid_line is_refused writes refuses MayGrow stops Handles LeavesLooked error (first_place file.stream) old new file.visited in
      record { stream = file.stream; file = file.file; after = lists.0; lists = inl lists.1 }

  -- All is listed, or memory ran out or the writer failed in the lines of the groups.
  all_by : (bytes : List ℕ) (tail_len : Option ℕ) (old new : T) (end : Option (List ℕ)) (answer : Result (Unit {0}) Error) → groups old ≡ [] → errors old ≡ false → AreGroups (groups new)
      → WritesGroups (groups new) (contents new) answer end → VisitsFile visits refuses Handles LeavesLooked bytes old (Ok tail_len) new
      → ListsGtidsFile bytes (contents old) (answer_behind answer (errors new)) end
  all_by bytes tail_len old new end (Ok done) empty none are wrote file =
      let tracked = all_tracked tail_len (first_place file.stream) old new empty none file.visited in
      record { stream = file.stream; file = file.file; after = first_place file.stream; lists = all_listed (first_place file.stream) (contents old) (contents new) end (groups new) (errors new) tracked are wrote }
  all_by bytes tail_len old new end (Err error) empty none are wrote file =
      let tracked = all_tracked tail_len (first_place file.stream) old new empty none file.visited in
      record {
        stream = file.stream;
        file = file.file;
        after = first_place file.stream;
        lists = inr (some_listed (first_place file.stream) (contents old) (contents new) end (groups new) (errors new) error tracked are wrote);
      }

  -- ---- a whole file

  bytes_stop : (bytes : List ℕ) (error : Error) (old new : T) → VisitsBytes visits refuses Handles LeavesLooked bytes old (Err error) new → ListsGtids bytes (contents old) (Err error) (contents new)
  bytes_stop bytes error old new (inl file) = answered (Err error) bytes (contents old) (contents new) (stop_file bytes error old new file)
  bytes_stop bytes error old new (inr no_file) =
      subst (λ (t : T). ListsGtids bytes (contents old) (Err error) (contents t)) (sym no_file.1) (not_listed error bytes (contents old) no_file.0)

  -- The visits of a file ended with an error, and nothing more is written.
  pub gtids_stop : (known before behind : Option (List ℕ)) (error : Error) (old new : T) → contents old ≡ before → contents new ≡ behind
      → IfSome known (λ bytes. length bytes < 2 ^ 64 → VisitsLog visits refuses bytes old (Err error) new)
      → IfSome known (λ bytes. length bytes < 2 ^ 64 → ListsGtids bytes before (Err error) behind)
  gtids_stop None before behind error old new begins ends visited = tt
  gtids_stop (Some bytes) before behind error old new begins ends visited = λ few.
      subst (λ (b : Option (List ℕ)). ListsGtids bytes b (Err error) behind) begins
      (subst (λ (e : Option (List ℕ)). ListsGtids bytes (contents old) (Err error) e) ends (bytes_stop bytes error old new (visited few)))

  -- All items of a file were visited, and the lines of the groups are written behind them.
  pub gtids_listed : (known before end behind : Option (List ℕ)) (tail_len : Option ℕ) (old new : T) (answer : Result (Unit {0}) Error) → groups old ≡ [] → errors old ≡ false → contents old ≡ before
      → end ≡ behind → AreGroups (groups new) → WritesGroups (groups new) (contents new) answer end → IfSome known (λ bytes. length bytes < 2 ^ 64 → VisitsLog visits refuses bytes old (Ok tail_len) new)
      → IfSome known (λ bytes. length bytes < 2 ^ 64 → ListsGtids bytes before (answer_behind answer (errors new)) behind)
  gtids_listed None before end behind tail_len old new answer empty none begins ends are wrote visited = tt
  gtids_listed (Some bytes) before end behind tail_len old new answer empty none begins ends are wrote visited = λ few.
      subst (λ (b : Option (List ℕ)). ListsGtids bytes b (answer_behind answer (errors new)) behind) begins
      (subst (λ (e : Option (List ℕ)). ListsGtids bytes (contents old) (answer_behind answer (errors new)) e) ends
      (answered (answer_behind answer (errors new)) bytes (contents old) end (all_by bytes tail_len old new end answer empty none are wrote (visited few))))
