-- The status behind a file that was followed, and the path of the next one.
use Rattle.std.specs.Prelude.{◌≢◌, ℕ, Bool, ◌||◌, Option, Some, None, Result, Ok, Err, String}
use Rattle.std.specs.Global.{Global}
use Rattle.binlog_cli.specs.Statuses.{worse}
use Rattle.binlog_cli.specs.declared.exit_status.Status.{Status}
use Rattle.binlog_cli.specs.declared.exit_status.Status.TheVariants.{NotOpened, Damaged, Failed}
use Rattle.binlog_commands.specs.declared.continuation.Continuation.{Continuation}
use Rattle.binlog_commands.specs.declared.continuation.Continuation.TheVariants as continuations
use Rattle.binlog_commands.specs.declared.marks.GtidMarks.{GtidMarks}
use Rattle.binlog_following.specs.declared.file_behind.FileBehind.{FileBehind}
use Rattle.binlog_following.specs.declared.file_behind.FileBehind.TheVariants as files
use Rattle.binlog_following.specs.declared.waits.Missing.{Missing}
use Rattle.binlog_following.specs.declared.waits.Missing.TheVariants as missings
use Rattle.binlog_rotation.specs.declared.error.NextFileError.{NextFileError}
use Rattle.binlog_rotation.specs.declared.error.NextFileError.TheVariants.{Empty, Folder, InvalidByte, TooLong, NotLater, NotUtf8, NoNumber, Memory}
use Rattle.binlog_rotation.specs.declared.fault.LogFault.{LogFault}
use Rattle.binlog_rotation.specs.declared.fault.LogFault.TheVariants.{OtherLog, Size, Checksum, Position}

-- Another log isn't the one that was to be read; everything else is damage.
abbrev pub status_of_fault : LogFault → Status
status_of_fault OtherLog = NotOpened
status_of_fault (Size size) = Damaged
status_of_fault Checksum = Damaged
status_of_fault (Position position) = Damaged

-- A name that can't be taken is as a file that can't be opened.
abbrev pub status_of_next : NextFileError → Status
status_of_next Empty = NotOpened
status_of_next Folder = NotOpened
status_of_next InvalidByte = NotOpened
status_of_next TooLong = NotOpened
status_of_next NotLater = NotOpened
status_of_next NotUtf8 = NotOpened
status_of_next NoNumber = NotOpened
status_of_next Memory = Failed

-- The next file is in sight, or none, or there is a reason why it isn't known.
abbrev pub behind_whole : Result (Option (String Global)) NextFileError → Status → Status × Option (String Global)
behind_whole (Ok next) status = (status, next)
behind_whole (Err error) status = (worse status (status_of_next error), None)

-- A fault comes first: no file comes behind one.
abbrev pub behind_file : Option (LogFault × ℕ) → Result (Option (String Global)) NextFileError → Status → Status × Option (String Global)
behind_file (Some fault) next status = (worse status (status_of_fault fault.0), None)
behind_file None next status = behind_whole next status

-- What the file behind another one is, by what its list of GTIDs says of that.
abbrev pub behind_of : Continuation → FileBehind
behind_of continuations.Unlisted = files.Unlisted
behind_of continuations.Differs = files.Differs
behind_of continuations.GoesOn = files.GoesOn

-- What is missing of a file with a list of GTIDs, by what it says of the file before; None if there is no list yet.
abbrev pub missing_by : Option Continuation → Option Missing
missing_by None = Some missings.List
missing_by (Some continuations.Unlisted) = None
missing_by (Some continuations.Differs) = Some missings.SameList
missing_by (Some continuations.GoesOn) = None

-- There is a list of GTIDs.
abbrev pub has_list : GtidMarks → Bool
has_list marks = marks.has_previous_gtids || marks.has_gtid_list

-- A file was found to come behind the one before it: its list of GTIDs was compared, and doesn't differ. `has_told` says what was told.
abbrev pub ComesNext : (has_told : Option Continuation → Type 0) → Type 0
ComesNext has_told = (continuation : Continuation) × has_told (Some continuation) × (continuation ≢ continuations.Differs)
