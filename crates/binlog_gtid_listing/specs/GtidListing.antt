-- The listing of the GTIDs of a log: the lines of its errors, and then those of the groups of its GTIDs.
use Rattle.std.specs.Prelude.{◌≡◌, ◌≢◌, ◌⊎◌, ℕ, ◌<◌, ◌≤◌, Bool, ◌||◌, List, [], ◌++◌, length, take, Option, Result, Ok, Err}
use Rattle.std.specs.List.{list_any}
use Rattle.std.specs.Io.KnownBytes.{Appends}
use Rattle.binlog_wire.specs.declared.error.Error.{Error}
use Rattle.binlog_wire.specs.declared.error.Error.TheVariants.{EndOfInput, InvalidFileHeader, Memory, Reader, Writer}
use Rattle.binlog_events.specs.FileHeader.{file_header}
use Rattle.binlog_events.specs.Events.{EventView}
use Rattle.binlog_file.specs.State.{Handles}
use Rattle.binlog_gtid_sets.specs.declared.gtid_group.GtidGroup.{GtidGroup}
use Rattle.binlog_gtid_sets.specs.GtidGroups.{Pair, is_tracked, AreGroups}
use Rattle.binlog_ends.specs.Counts.{AppendsFront}
use Rattle.binlog_visits.specs.Places.{Place, first_place, LeavesLooked}
use Rattle.binlog_visits.specs.LineVisits.{WritesNoItem}
use Rattle.binlog_visits.specs.Lines.{listing, ListsItems}
use Rattle.binlog_gtid_listing.specs.GtidItems.{gtids_in, gtid_line, is_refused, are_added, MayGrow, GrowsBy}
use Rattle.binlog_gtid_listing.specs.GroupLines.{AreGroupLines}

-- The lines of the items with errors, in order.
abbrev pub error_lines : List (Result EventView Error) → List ℕ
error_lines items = listing gtid_line 0 items

-- ---- the whole listing

-- These groups are the GTIDs that the items add, and no others.
pub record AreGtidsOf (items : List (Result EventView Error)) (groups : List GtidGroup) : Type 0 where
  pub ascending : AreGroups groups
  pub same : (pair : Pair) (n : ℕ) → is_tracked groups pair n ≡ are_added items pair n

-- The lines of all errors are written, and then those of all groups, and nothing else.
pub record ListsAllGtids (start : Place) (old new : Option (List ℕ)) (has_errors : Bool) : Type 0 where
  pub items : List (Result EventView Error)
  pub are : LeavesLooked start items
  pub groups : List GtidGroup
  pub union : AreGtidsOf items groups
  pub lines : List ℕ
  pub listed : AreGroupLines groups lines
  pub written : Appends old new (error_lines items ++ lines)
  pub errors : has_errors ≡ list_any is_refused items

-- Memory ran out or the writer failed in the lines of the groups: those of the first groups are written behind those of all
-- errors, or a front of these lines.
pub record ListsSomeGtids (error : Error) (start : Place) (old new : Option (List ℕ)) : Type 0 where
  pub items : List (Result EventView Error)
  pub are : LeavesLooked start items
  pub groups : List GtidGroup
  pub union : AreGtidsOf items groups
  pub count : ℕ
  pub lines : List ℕ
  pub listed : AreGroupLines (take count groups) lines
  pub written : ((error ≡ Memory) × Appends old new (error_lines items ++ lines)) ⊎ ((error ≡ Writer) × AppendsFront old new (error_lines items ++ lines))

-- What listing the GTIDs of the items that are left at `start` may answer, and what is then written.
abbrev pub ListsGtidItems : (start : Place) (old : Option (List ℕ)) (answer : Result Bool Error) (after : Place) (new : Option (List ℕ)) → Type 0
ListsGtidItems start old (Ok has_errors) after new = ListsAllGtids start old new has_errors
ListsGtidItems start old (Err error) after new =
    ListsItems Handles LeavesLooked gtid_line MayGrow start old (Err error) after new ⊎ ListsSomeGtids error start old new

-- The input is a binlog file, whose GTIDs are listed.
pub record ListsGtidsFile (bytes : List ℕ) (old : Option (List ℕ)) (answer : Result Bool Error) (new : Option (List ℕ)) : Type 0 where
  pub stream : List ℕ
  pub file : bytes ≡ file_header ++ stream
  pub after : Place
  pub lists : ListsGtidItems (first_place stream) old answer after new

-- What listing the GTIDs of a file's bytes may answer, and what is then written.
abbrev pub ListsGtids : List ℕ → Option (List ℕ) → Result Bool Error → Option (List ℕ) → Type 0
-- no file, and nothing is written
ListsGtids bytes old (Err EndOfInput) new = (length bytes < 4) × Appends old new []
ListsGtids bytes old (Err InvalidFileHeader) new = (4 ≤ length bytes) × (take 4 bytes ≢ file_header) × Appends old new []
-- the reader failed, perhaps in the file header
ListsGtids bytes old (Err Reader) new = ListsGtidsFile bytes old (Err Reader) new ⊎ Appends old new []
ListsGtids bytes old answer new = ListsGtidsFile bytes old answer new

-- ---- one item

-- What there is so far: the set, and the bytes that are written.
pub record Tracking : Type 0 where
  pub groups : List GtidGroup
  pub written : Option (List ℕ)

-- The record of these parts.
abbrev pub tracked : (groups : List GtidGroup) (written : Option (List ℕ)) → Tracking
tracked groups written = record { groups = groups; written = written }

-- What is written, added and answered for an item.
abbrev pub TracksItem : (index : ℕ) (item : Result EventView Error) (old new : Tracking) (answer : Result Bool Error) → Type 0
TracksItem index item old new (Ok is_error) = GrowsBy (gtids_in item) old.groups new.groups × Appends old.written new.written (gtid_line index item) × (is_error ≡ is_refused item)
TracksItem index item old new (Err error) = (new.groups ≡ old.groups) × WritesNoItem gtid_line MayGrow index item old.written error new.written

-- ---- a visitor

-- The set grows by what the item adds, or the line of its error is written and noted.
abbrev pub ListsItemGtids : (index : ℕ) (item : Result EventView Error) (old : Tracking) (had_errors : Bool) (new : Tracking) (has_errors : Bool) → Type 0
ListsItemGtids index item old had_errors new has_errors =
    GrowsBy (gtids_in item) old.groups new.groups × Appends old.written new.written (gtid_line index item) × (has_errors ≡ (had_errors || is_refused item))
