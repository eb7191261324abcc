-- Copying the events of a log.
use Rattle.std.specs.Prelude.{◌≡◌, ℕ, List, [], Option, Result, Ok, Err}
use Rattle.std.specs.Io.KnownBytes.{Appends}
use Rattle.binlog_wire.specs.declared.error.Error.{Error}
use Rattle.binlog_wire.specs.declared.error.Error.TheVariants.{Writer}
use Rattle.binlog_events.specs.Events.{EventView}
use Rattle.binlog_ends.specs.Counts.{AppendsFront}

-- The bytes of an item: those of its event, and none of an error.
abbrev pub item_bytes : Result EventView Error → List ℕ
item_bytes (Ok event) = event.frame
item_bytes (Err error) = []

-- The bytes of the item are written.
abbrev pub CopiesItem : Result EventView Error → Option (List ℕ) → Option (List ℕ) → Type 0
CopiesItem (Ok event) old new = Appends old new event.frame
CopiesItem (Err error) old new = new ≡ old

-- The writer failed, and has a prefix of the item's bytes.
abbrev pub CopiesNoItem : Result EventView Error → Option (List ℕ) → Error → Option (List ℕ) → Type 0
CopiesNoItem item old error new = (error ≡ Writer) × AppendsFront old new (item_bytes item)
