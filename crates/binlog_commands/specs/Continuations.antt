-- What the list of GTIDs of a file says of the file before it.
use Rattle.std.specs.Prelude.{◌≡◌, ℕ, ◌==◌, Bool, ◌&&◌, ◌||◌, not}
use Rattle.binlog_gtid_sets.specs.GtidGroups.{Pair, is_tracked}
use Rattle.binlog_gtid_listing.specs.declared.log_gtids.LogGtids.{LogGtids}
use Rattle.binlog_commands.specs.declared.file_gtids.FileGtids.{FileGtids}

-- All events can be read, and all GTIDs in them.
abbrev pub is_read : FileGtids → Bool
is_read file = file.collector.refused == 0 && not file.marks.has_errors

-- Both are of MariaDB's and have a list; or of MySQL's, have a list, and the file has transactions, each with a GTID.
abbrev pub has_lists : (file next : FileGtids) → Bool
has_lists file next =
    (file.marks.has_gtid_list && next.marks.has_gtid_list)
    || ((file.marks.has_previous_gtids && next.marks.has_previous_gtids) && (file.marks.has_gtid && not file.marks.has_anonymous))

-- The list of the next file says something of the file.
abbrev pub is_told : (file next : FileGtids) → Bool
is_told file next = is_read file && (is_read next && has_lists file next)

-- Both have the same GTIDs: MySQL's are a set, of MariaDB's the last of each domain and server count.
pub record HaveSame (first second : LogGtids) : Type 0 where
  pub mysql : (pair : Pair) (n : ℕ) → is_tracked first.mysql pair n ≡ is_tracked second.mysql pair n
  pub maria : first.maria ≡ second.maria
