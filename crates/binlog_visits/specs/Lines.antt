-- A line for each item of a binlog file, for any kind of line, and the exit status of a program.
use Rattle.std.specs.Prelude.{◌≡◌, ◌≢◌, ℕ, ◌+◌, ◌<◌, ◌≤◌, Bool, true, false, List, [], ◌∷◌, ◌++◌, length, take, ◌⊎◌, Option, Some, None, Result, Ok, Err, is_err, ⊤}
use Rattle.std.specs.List.{list_any}
use Rattle.std.specs.Io.KnownBytes.{Appends}
use Rattle.binlog_ends.specs.Counts.{AppendsFront}
use Rattle.binlog_wire.specs.declared.error.Error.{Error}
use Rattle.binlog_wire.specs.declared.error.Error.TheVariants.{EndOfInput, InvalidFileHeader, Memory, Reader, Writer}
use Rattle.binlog_wire.specs.Errors.{is_environment_error}
use Rattle.binlog_file.specs.FileHeader.{file_header}
use Rattle.binlog_file.specs.Events.{EventView}
use Rattle.binlog_file.specs.State.{Handles}
use Rattle.binlog_file.specs.Verifications.{Handling, HandlesVerified}
use Rattle.binlog_visits.specs.Places.{Place, first_place, GivesFrom, Left, LeavesLooked, LeavesVerified, AreFirst}

-- An item that gets a line: every item except a failure of memory or of the reader.
abbrev pub HasLine : Result EventView Error → Type 0
HasLine (Ok event) = ⊤
HasLine (Err error) = is_environment_error error ≡ false

-- `line index item` is the line of an item
module _ (line : ℕ → Result EventView Error → List ℕ) where
  -- The lines of these items, where `index` is that of the first.
  abbrev pub listing : ℕ → List (Result EventView Error) → List ℕ
  listing index [] = []
  listing index (item ∷ items) = line index item ++ listing (index + 1) items

-- `handles` is what a frame does to the state of the stream, and `left place items` says that these items are left of an
-- iteration that stands at this place. `takes item` says that making the line of an item may take memory.
module _ (handles : Handling) (left : Left) (line : ℕ → Result EventView Error → List ℕ) (takes : Result EventView Error → Type 0) where
  -- All items that are left are listed, and nothing else.
  pub record ListsAll (start : Place) (old : Option (List ℕ)) (has_errors : Bool) (new : Option (List ℕ)) : Type 0 where
    pub items : List (Result EventView Error)
    pub are : left start items
    pub written : Appends old new (listing line 0 items)
    pub errors : has_errors ≡ list_any is_err items

  -- All items are listed before the call that answered this error, since memory ran out or the reader failed: behind
  -- them the iteration stood at `place`, and that call left it at `after`.
  pub record ListsBefore (error : Error) (start : Place) (old : Option (List ℕ)) (after : Place) (new : Option (List ℕ)) : Type 0 where
    pub items : List (Result EventView Error)
    pub place : Place
    pub first : AreFirst left start items place
    pub written : Appends old new (listing line 0 items)
    pub refused : GivesFrom handles place (Some (Err error)) after
    pub outside : is_environment_error error ≡ true

  -- The writer failed: it has a front of the lines of the first items, behind which the iteration stood at `place`.
  pub record ListsFront (start : Place) (old new : Option (List ℕ)) : Type 0 where
    pub items : List (Result EventView Error)
    pub place : Place
    pub first : AreFirst left start items place
    pub written : AppendsFront old new (listing line 0 items)

  -- All items are listed before one whose line took memory when it was made, and memory ran out; the iteration stands
  -- behind that item.
  pub record ListsBeforeLine (start : Place) (old : Option (List ℕ)) (after : Place) (new : Option (List ℕ)) : Type 0 where
    pub items : List (Result EventView Error)
    pub item : Result EventView Error
    pub grows : takes item
    pub first : AreFirst left start (items ++ item ∷ []) after
    pub written : Appends old new (listing line 0 items)

  -- The results of listing the items that are left at `start`: what is written, and where the iteration stands then.
  abbrev pub ListsItems : (start : Place) (old : Option (List ℕ)) (answer : Result Bool Error) (after : Place) (new : Option (List ℕ)) → Type 0
  ListsItems start old (Ok has_errors) after new = ListsAll start old has_errors new × (after.ended ≡ true)
  ListsItems start old (Err Writer) after new = ListsFront start old new
  ListsItems start old (Err Memory) after new = ListsBefore Memory start old after new ⊎ ListsBeforeLine start old after new
  ListsItems start old (Err error) after new = ListsBefore error start old after new

  -- The input is a binlog file, and its items are listed.
  pub record ListsFile (bytes : List ℕ) (old : Option (List ℕ)) (answer : Result Bool Error) (new : Option (List ℕ)) : Type 0 where
    pub stream : List ℕ
    pub file : bytes ≡ file_header ++ stream
    pub after : Place
    pub lists : ListsItems (first_place stream) old answer after new

  -- What listing a file's bytes may answer, and what is then written.
  abbrev pub ListsBytes : List ℕ → Option (List ℕ) → Result Bool Error → Option (List ℕ) → Type 0
  -- no file, and nothing is written
  ListsBytes bytes old (Err EndOfInput) new = (length bytes < 4) × Appends old new []
  ListsBytes bytes old (Err InvalidFileHeader) new = (4 ≤ length bytes) × (take 4 bytes ≢ file_header) × Appends old new []
  -- the reader failed, perhaps in the file header
  ListsBytes bytes old (Err Reader) new = ListsFile bytes old (Err Reader) new ⊎ Appends old new []
  ListsBytes bytes old answer new = ListsFile bytes old answer new

-- What listing a file's bytes may answer, and what is then written.
abbrev pub Lists : (ℕ → Result EventView Error → List ℕ) → (Result EventView Error → Type 0) → List ℕ → Option (List ℕ) → Result Bool Error → Option (List ℕ) → Type 0
Lists line takes = ListsBytes Handles LeavesLooked line takes

-- The same of a file whose checksums are verified: `gives bytes checksum` says that this is the checksum of the bytes.
abbrev pub ListsVerified : (List ℕ → ℕ → Type 0) → (ℕ → Result EventView Error → List ℕ) → (Result EventView Error → Type 0) → List ℕ → Option (List ℕ) → Result Bool Error → Option (List ℕ) → Type 0
ListsVerified gives line takes = ListsBytes (HandlesVerified gives) (LeavesVerified gives) line takes

-- ---- one item

module _ (line : ℕ → Result EventView Error → List ℕ) (takes : Result EventView Error → Type 0) where
  -- What is written and answered for an item, or where none is left.
  abbrev pub ListsItem : ℕ → Option (Result EventView Error) → Option (List ℕ) → Option (List ℕ) → Result (Option Bool) Error → Type 0
  ListsItem index None old new (Ok None) = new ≡ old
  ListsItem index (Some item) old new (Ok (Some is_error)) = Appends old new (line index item) × (is_error ≡ is_err item) × HasLine item
  ListsItem index (Some item) old new (Err error) =
      ((error ≡ Writer) × HasLine item × AppendsFront old new (line index item)) ⊎ (((error ≡ Memory) × HasLine item × (new ≡ old) × takes item) ⊎ ((item ≡ Err error) × (new ≡ old) × (is_environment_error error ≡ true)))
  ListsItem index item old new answer = ⊥

-- The result of a listing, from that of the visit, which tells the length of the tail.
abbrev pub listed : Result (Option ℕ) Error → Bool → Result Bool Error
listed (Ok tail_len) has_errors = Ok has_errors
listed (Err error) has_errors = Err error

-- the exit status of the program
abbrev pub exit_status_of : Result Bool Error → ℕ
exit_status_of (Ok false) = 0
exit_status_of (Ok true) = 2
exit_status_of (Err EndOfInput) = 1
exit_status_of (Err InvalidFileHeader) = 1
exit_status_of (Err _) = 3
