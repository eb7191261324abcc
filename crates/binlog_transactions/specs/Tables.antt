-- What each mark does to the transactions of its log.
-- Source: the texts and flags by which MySQL and MariaDB begin and end transactions in their logs.
use Rattle.std.specs.Prelude.{Bool, true, false, not, ◌&&◌, ◌||◌, Option, Some, None, if◌then◌else◌}
use Rattle.binlog_transactions.specs.declared.mark.GtidMark.{GtidMark}
use Rattle.binlog_transactions.specs.declared.mark.Mark.{Mark}
use Rattle.binlog_transactions.specs.declared.mark.Mark.TheVariants as marks
use Rattle.binlog_transactions.specs.declared.mark.Unsupported.{Unsupported}
use Rattle.binlog_transactions.specs.declared.mark.Unsupported.TheVariants as events
use Rattle.binlog_transactions.specs.declared.refusal.Refusal.{Refusal}
use Rattle.binlog_transactions.specs.declared.refusal.Refusal.TheVariants as refusals
use Rattle.binlog_transactions.specs.declared.statements.StatementKind.{StatementKind}
use Rattle.binlog_transactions.specs.declared.statements.StatementKind.TheVariants as kinds
use Rattle.binlog_transactions.specs.declared.transaction.Ending.{Ending}
use Rattle.binlog_transactions.specs.declared.transaction.Ending.TheVariants.{ByStatement, ByCommit, ByRows}
use Rattle.binlog_transactions.specs.declared.transaction.Transaction.{Transaction}

-- A transaction that is to begin, before its first event.
abbrev pub starting : Ending → Transaction
starting ending = record { ending = ending; is_fresh = true; has_undone_rows = false }

-- A transaction with this GTID.
abbrev ending_of : GtidMark → Ending
ending_of gtid = if gtid.is_group then ByCommit else ByStatement

-- ---- which transaction begins

-- The transaction that begins with the mark if none is there, before its first event; None if none begins.
abbrev pub begun : Mark → Option Transaction
begun marks.Nothing = None
begun marks.Border = None
begun marks.Encryption = None
begun (marks.Gtid gtid) = Some (starting (ending_of gtid))
begun (marks.Statement kind) = Some (starting ByStatement)
begun marks.Xid = Some (starting ByStatement)
begun marks.TableMap = Some (starting ByRows)
begun (marks.Rows rows) = Some (starting ByRows)
begun (marks.Unsupported event) = Some (starting ByRows)

-- ---- what it does to a transaction that is there

-- A BEGIN begins another transaction unless there is only a GTID.
abbrev pub statement_cuts : Transaction → StatementKind → Bool
statement_cuts transaction kinds.Begin = not transaction.is_fresh
statement_cuts transaction _ = false

-- The transaction ends in front of the event, without a last event.
abbrev pub cuts : Transaction → Mark → Bool
cuts transaction marks.Border = true
cuts transaction (marks.Gtid gtid) = true
cuts transaction (marks.Statement kind) = statement_cuts transaction kind
cuts transaction _ = false

-- Rows end a transaction that was begun by a statement's GTID with its last row event.
abbrev pub with_rows : Ending → Ending
with_rows ByStatement = ByRows
with_rows ByCommit = ByCommit
with_rows ByRows = ByRows

abbrev pub ending_behind : Ending → StatementKind → Ending
ending_behind ending kinds.Begin = ByCommit
ending_behind ending kinds.XaStart = ByCommit
ending_behind ending _ = ending

-- The transaction behind the event.
abbrev pub behind : Transaction → Mark → Transaction
behind transaction (marks.Statement kind) = record transaction { ending = ending_behind transaction.ending kind; is_fresh = false }
behind transaction marks.Xid = record transaction { is_fresh = false }
behind transaction marks.TableMap = record transaction { ending = with_rows transaction.ending; is_fresh = false }
behind transaction (marks.Rows rows) =
    record { ending = with_rows transaction.ending; is_fresh = false; has_undone_rows = transaction.has_undone_rows || rows.is_undone }
behind transaction (marks.Unsupported event) = record transaction { is_fresh = false }
behind transaction _ = transaction

-- ---- where it ends

abbrev pub is_open : Ending → Bool
is_open ByCommit = true
is_open _ = false

abbrev pub is_by_rows : Ending → Bool
is_by_rows ByRows = true
is_by_rows _ = false

abbrev pub statement_ends : Ending → StatementKind → Bool
statement_ends ending kinds.Begin = false
statement_ends ending kinds.Commit = true
statement_ends ending kinds.Rollback = true
statement_ends ending kinds.RollbackToSavepoint = false
statement_ends ending kinds.Harmless = not (is_open ending)
statement_ends ending kinds.XaStart = false
statement_ends ending kinds.XaEnd = true
statement_ends ending kinds.Xa = false
statement_ends ending kinds.Other = not (is_open ending)

abbrev pub unsupported_ends : Ending → Unsupported → Bool
unsupported_ends ending events.XaPrepare = true
unsupported_ends ending events.Payload = true
unsupported_ends ending events.LoadDataPart = false
unsupported_ends ending _ = not (is_open ending)

-- The transaction ends with the event.
abbrev pub ends : Transaction → Mark → Bool
ends transaction (marks.Statement kind) = statement_ends transaction.ending kind
ends transaction marks.Xid = true
ends transaction (marks.Rows rows) = is_by_rows (with_rows transaction.ending) && rows.ends_statement
ends transaction (marks.Unsupported event) = unsupported_ends transaction.ending event
ends transaction _ = false

-- ---- why it can't be undone

abbrev pub statement_refusal : Transaction → StatementKind → Option Refusal
statement_refusal transaction kinds.Rollback = if transaction.has_undone_rows then Some refusals.Rollback else None
statement_refusal transaction kinds.RollbackToSavepoint = Some refusals.Rollback
statement_refusal transaction kinds.XaStart = Some refusals.Xa
statement_refusal transaction kinds.XaEnd = Some refusals.Xa
statement_refusal transaction kinds.Xa = Some refusals.Xa
statement_refusal transaction kinds.Other = Some refusals.Statement
statement_refusal transaction _ = None

abbrev pub unsupported_refusal : Unsupported → Refusal
unsupported_refusal events.XaPrepare = refusals.Xa
unsupported_refusal events.Payload = refusals.Payload
unsupported_refusal events.LoadData = refusals.LoadData
unsupported_refusal events.LoadDataPart = refusals.LoadData
unsupported_refusal events.Incident = refusals.Incident
unsupported_refusal events.OldRows = refusals.OldRows
unsupported_refusal events.UnknownEvent = refusals.UnknownEvent

-- Why a transaction can't be undone, because of this event of it.
abbrev pub refusal_at : Transaction → Mark → Option Refusal
refusal_at transaction (marks.Gtid gtid) = if gtid.is_xa then Some refusals.Xa else None
refusal_at transaction (marks.Statement kind) = statement_refusal transaction kind
refusal_at transaction (marks.Unsupported event) = Some (unsupported_refusal event)
refusal_at transaction marks.Encryption = Some refusals.Encrypted
refusal_at transaction _ = None

-- The same of an event of no transaction.
abbrev pub refusal_outside : Mark → Option Refusal
refusal_outside marks.Encryption = Some refusals.Encrypted
refusal_outside _ = None
