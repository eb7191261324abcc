-- What the events of a file tell of its lists of GTIDs and of its transactions.
use Rattle.std.specs.Prelude.{◌≡◌, ◌⊎◌, ℕ, ◌==◌, Bool, true, false, ◌&&◌, ◌||◌, List, take, Option, Result, Ok, Err}
use Rattle.std.specs.declared.io.impls.Sink.{Sink}
use Rattle.binlog_wire.specs.declared.error.Error.{Error}
use Rattle.binlog_wire.specs.declared.error.Error.TheVariants.{WrongEventType}
use Rattle.binlog_ends.specs.Views.{CountedView}
use Rattle.binlog_event_format.specs.Headers.{header_of}
use Rattle.binlog_events.specs.Events.{EventView}
use Rattle.binlog_event_types.specs.MariaVersions.{is_maria}
use Rattle.binlog_commands.specs.Collecting.{collected, Collects, RefusesCollected}
use Rattle.binlog_commands.specs.declared.file_gtids.FileGtids.{FileGtids}
use Rattle.binlog_commands.specs.declared.marks.GtidMarks.{GtidMarks}

-- ---- one event

-- GTID_EVENT and GTID_TAGGED_LOG_EVENT of MySQL's.
abbrev pub is_gtid : ℕ → Bool
is_gtid number = number == 33 || number == 42

-- Events in front of the first transaction of a file: FORMAT_DESCRIPTION, PREVIOUS_GTIDS, and MariaDB's GTID_LIST and START_ENCRYPTION.
abbrev pub is_front : ℕ → Bool
is_front number = number == 15 || (number == 35 || (number == 163 || number == 164))

-- The GTID_LIST of a server of MariaDB's.
abbrev pub is_gtid_list : EventView → Bool
is_gtid_list event = (header_of event.frame).event_type == 163 && is_maria (take 50 event.fde.server_version)

abbrev pub no_marks : GtidMarks
no_marks = record { has_previous_gtids = false; has_gtid_list = false; has_gtid = false; has_anonymous = false; has_errors = false }

-- What is told behind one more item.
abbrev pub marks_behind : Result EventView Error → GtidMarks → GtidMarks
marks_behind (Ok event) marks = record {
  has_previous_gtids = marks.has_previous_gtids || (header_of event.frame).event_type == 35;
  has_gtid_list = marks.has_gtid_list || is_gtid_list event;
  has_gtid = marks.has_gtid || is_gtid (header_of event.frame).event_type;
  has_anonymous = marks.has_anonymous || (header_of event.frame).event_type == 34;
  has_errors = marks.has_errors;
}
marks_behind (Err error) marks = record marks { has_errors = true }

-- ---- visits

-- An event behind the list at the front is refused.
abbrev pub IsBehindList : Result EventView Error → Error → Type 0
IsBehindList (Ok event) error = (is_front (header_of event.frame).event_type ≡ false) × (error ≡ WrongEventType (header_of event.frame).event_type)
IsBehindList (Err fault) error = ⊥

module _ (contents : CountedView Sink → Option (List ℕ)) where
  -- The GTIDs of the item are added, and what it tells is noted.
  pub record Notes (index : ℕ) (item : Result EventView Error) (old new : FileGtids) : Type 0 where
    pub collects : Collects index item (collected contents old.collector) (collected contents new.collector)
    pub marks : new.marks ≡ marks_behind item old.marks
    pub same : new.is_list ≡ old.is_list

  -- The collector refuses the item. Nothing is noted.
  pub record RefusesOwn (index : ℕ) (item : Result EventView Error) (old : FileGtids) (error : Error) (new : FileGtids) : Type 0 where
    pub refused : RefusesCollected index item (collected contents old.collector) error (collected contents new.collector)
    pub marks : new.marks ≡ old.marks
    pub same : new.is_list ≡ old.is_list

  -- The collector refuses the item; or nothing behind the list is wanted.
  abbrev pub RefusesNoted : (index : ℕ) (item : Result EventView Error) (old : FileGtids) (error : Error) (new : FileGtids) → Type 0
  RefusesNoted index item old error new = RefusesOwn index item old error new ⊎ ((old.is_list ≡ true) × IsBehindList item error × (new ≡ old))
