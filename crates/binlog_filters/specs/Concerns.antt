-- What filters of tables make of an event.
use Rattle.std.specs.Prelude.{Bool, true, false, ◌&&◌, ◌||◌, not, Option, Some, None, is_none}
use Rattle.binlog_filters.specs.declared.concern.Concern.{Concern}
use Rattle.binlog_filters.specs.declared.concern.Concern.TheVariants.{Taken, Other, Unknown, Rows}

abbrev pub is_true : Option Bool → Bool
is_true (Some b) = b
is_true None = false

-- The event is taken. For a copy, the last row event of a statement is, if rows of the statement are taken.
abbrev pub is_concerned : (is_for_copy is_in_statement : Bool) → Concern → Bool
is_concerned is_for_copy is_in_statement Taken = true
is_concerned is_for_copy is_in_statement Other = false
is_concerned is_for_copy is_in_statement Unknown = false
is_concerned is_for_copy is_in_statement (Rows rows) = is_true rows.is_asked || (is_for_copy && (is_in_statement && rows.ends_statement))

-- The event may change one of the tables, though nothing says so.
abbrev pub is_unknown : Concern → Bool
is_unknown Taken = false
is_unknown Other = false
is_unknown Unknown = true
is_unknown (Rows rows) = is_none rows.is_asked

-- Rows of a statement are taken that hasn't ended behind the event.
abbrev pub is_in_statement : (was taken : Bool) → Concern → Bool
is_in_statement was taken (Rows rows) = not rows.ends_statement && (was || taken)
is_in_statement was taken _ = was
