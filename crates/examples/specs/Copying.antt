-- Copying a log: its file header, and then each event, with the CRC-32 of its checksummed bytes where a checksum is due.
use Rattle.std.specs.Prelude.{◌≡◌, ◌⊎◌, ℕ, Bool, true, false, List, [], ◌∷◌, ◌++◌, length, map, Option, Some, None, Result, Ok, Err}
use Rattle.std.specs.Io.KnownBytes.{Appends}
use Rattle.binlog_wire.specs.declared.error.Error.{Error}
use Rattle.binlog_file.specs.Errors.{is_environment_error}
use Rattle.binlog_consts.specs.declared.version.BinlogVersion.TheVariants.{Version4}
use Rattle.binlog_file.specs.FormatDescription.{default_description}
use Rattle.binlog_file.specs.FileHeader.{file_header, ReadsHeader}
use Rattle.binlog_file.specs.Frames.{HasNoFrame}
use Rattle.binlog_file.specs.Events.{EventView}
use Rattle.binlog_file.specs.State.{StreamState, first_state}
use Rattle.binlog_file.specs.Streams.{Gives, HasGiven}
use Rattle.binlog_file.specs.StreamItems.{AreItems}
use Rattle.binlog_file.specs.Verifications.{Handling, HandlesVerified}
use Rattle.binlog_file.specs.VerifiedFiles.{AreVerifiedItems}
use Rattle.binlog_file.specs.Checksums.{WritesEvent, write_refusal}
use Rattle.binlog_file.specs.WrittenBack.{WritesLog}
use Rattle.binlog_file.specs.WholeFiles.{IsInside, IsCopied}
use Rattle.binlog_visits.specs.Places.{Place, first_place, GivesFrom, LeavesVerified, AreFirst}
use Rattle.crc32_ieee.specs.Checksums.{IsCrc32}

-- What a frame does is what it does where checksums are verified by CRC-32.
abbrev pub IsByCrc32 : Handling → Type 0
IsByCrc32 handles = (s then : StreamState) (frame : List ℕ) (item : Result EventView Error) → handles s then frame item → HandlesVerified IsCrc32 s then frame item

-- An item isn't written because of this error: it is the item, or its event can't be written.
abbrev pub IsRefusedAs : Error → Result EventView Error → Type 0
IsRefusedAs error (Ok event) = write_refusal event.fde.footer (length event.frame) ≡ Some error
IsRefusedAs error (Err why) = error ≡ why

-- What is written for an item of `next_ref`, and the result: whether there was an event.
abbrev pub CopiesItem : Option (Result EventView Error) → Option (List ℕ) → Result Bool Error → Option (List ℕ) → Type 0
CopiesItem None old (Ok more) new = (more ≡ false) × (new ≡ old)
CopiesItem (Some (Ok event)) old (Ok more) new = (more ≡ true) × WritesEvent IsCrc32 event old new
CopiesItem (Some item) old (Err error) new = IsRefusedAs error item ⊎ (is_environment_error error ≡ true)
CopiesItem item old answer new = ⊥

-- The next item is given, and written if it is an event. `handles` is what a frame does.
pub record CopiesNext (handles : Handling) (before : Place) (old : Option (List ℕ)) (answer : Result Bool Error) (after : Place) (new : Option (List ℕ)) : Type 0 where
  pub item : Option (Result EventView Error)
  pub gives : GivesFrom handles before item after
  pub writes : CopiesItem item old answer new

-- The reason why a file of these bytes isn't copied: it isn't a binlog, an item isn't written, as `Stops` says, or memory, the
-- reader or the writer failed.
abbrev pub IsNotCopied : (Stops : List ℕ → Error → Type 0) → List ℕ → Error → Type 0
IsNotCopied Stops bytes error = ((rest : List ℕ) × ReadsHeader {X = Bool} (Err error) bytes rest) ⊎ Stops bytes error ⊎ (is_environment_error error ≡ true)

-- The result of copying a file of these bytes, and what is written if it is Ok: the whole file, as `IsWhole` says.
abbrev pub Copies : (IsWhole : List ℕ → Option (List ℕ) → Option (List ℕ) → Type 0) (Stops : List ℕ → Error → Type 0) → List ℕ → Option (List ℕ) → Result (Unit {0}) Error → Option (List ℕ) → Type 0
Copies IsWhole Stops bytes old (Ok done) new = IsWhole bytes old new
Copies IsWhole Stops bytes old (Err error) new = IsNotCopied Stops bytes error

-- ---- whatever a frame does

-- An iteration from the start of the stream gave these events and then None, and they were written behind the file header.
pub record IsWholeBy (handles : Handling) (bytes : List ℕ) (old new : Option (List ℕ)) : Type 0 where
  pub stream : List ℕ
  pub file : bytes ≡ file_header ++ stream
  pub events : List EventView
  pub state : StreamState
  pub rest : List ℕ
  pub was : Bool
  pub given : HasGiven handles (first_state Version4) state stream false (map Ok events) rest was
  pub after : StreamState
  pub left : List ℕ
  pub ended : Bool
  pub none : Gives handles state after (Some rest) was None (Some left) ended
  pub writes : WritesLog IsCrc32 events old new

-- An iteration from the start of the stream gave events, and then an item that isn't written because of this error.
pub record StopsBy (handles : Handling) (bytes : List ℕ) (error : Error) : Type 0 where
  pub stream : List ℕ
  pub file : bytes ≡ file_header ++ stream
  pub events : List EventView
  pub state : StreamState
  pub rest : List ℕ
  pub was : Bool
  pub given : HasGiven handles (first_state Version4) state stream false (map Ok events) rest was
  pub item : Result EventView Error
  pub after : StreamState
  pub left : List ℕ
  pub ended : Bool
  pub gives : Gives handles state after (Some rest) was (Some item) (Some left) ended
  pub inside : IsInside item
  pub refused : IsRefusedAs error item

abbrev pub CopiesBy : Handling → List ℕ → Option (List ℕ) → Result (Unit {0}) Error → Option (List ℕ) → Type 0
CopiesBy handles = Copies (IsWholeBy handles) (StopsBy handles)

-- ---- a log whose checksums are verified

-- The file of these bytes was copied: all its items are events, whether checksums are verified or not, and what was written
-- is the file up to the end of its last frame.
pub record IsVerifiedCopy (bytes : List ℕ) (old new : Option (List ℕ)) : Type 0 where
  pub stream : List ℕ
  pub file : bytes ≡ file_header ++ stream
  pub events : List EventView
  pub verified : AreVerifiedItems IsCrc32 (default_description Version4) stream (map Ok events)
  pub are : AreItems (default_description Version4) stream (map Ok events)
  pub written : List ℕ
  pub tail : List ℕ
  pub appended : Appends old new written
  pub whole : bytes ≡ written ++ tail
  pub none : HasNoFrame tail

-- The first item of a file of these bytes that isn't written, behind which the file stands at `place`; all items before it
-- are events.
pub record StopsAtVerified (bytes : List ℕ) (error : Error) : Type 0 where
  pub stream : List ℕ
  pub file : bytes ≡ file_header ++ stream
  pub events : List EventView
  pub item : Result EventView Error
  pub place : Place
  pub first : AreFirst (LeavesVerified IsCrc32) (first_place stream) (map Ok events ++ item ∷ []) place
  pub refused : IsRefusedAs error item

abbrev pub CopiesVerified : List ℕ → Option (List ℕ) → Result (Unit {0}) Error → Option (List ℕ) → Type 0
CopiesVerified = Copies IsVerifiedCopy StopsAtVerified

-- ---- a log whose checksums aren't verified

-- The first item of a file of these bytes that isn't written; all items before it are events.
pub record StopsAtItem (bytes : List ℕ) (error : Error) : Type 0 where
  pub stream : List ℕ
  pub file : bytes ≡ file_header ++ stream
  pub events : List EventView
  pub item : Result EventView Error
  pub others : List (Result EventView Error)
  pub are : AreItems (default_description Version4) stream (map Ok events ++ item ∷ others)
  pub refused : IsRefusedAs error item

abbrev pub WritesBack : List ℕ → Option (List ℕ) → Result (Unit {0}) Error → Option (List ℕ) → Type 0
WritesBack = Copies (IsCopied IsCrc32 Version4) StopsAtItem
