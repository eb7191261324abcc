use Rattle.std.proofs.Common.{ℕ, List, Ok}
use Rattle.binlog_wire.specs.declared.error.Error.{Error}
use Rattle.binlog_wire.specs.declared.error.Error.TheVariants.{EndOfBody, InvalidData, WrongEventType, Memory}
use Rattle.binlog_wire.specs.Reading.{Refuses}
use Rattle.binlog_rows.proofs.rows_event.RowsEvent.read.Goals as goal

-- a value that was read isn't refused
not_refused : {V : Type 0} (e : Error) (found : V × List ℕ) → Refuses ⊥ e (Ok found) → ⊥
not_refused EndOfBody found refused = cc
not_refused (InvalidData why) found refused = cc
not_refused (WrongEventType number) found refused = cc
not_refused Memory found refused = refused
not_refused e found refused = refused

-- the rows are all bytes that are left
pub returns-in_err-rows-clause-reads : goal.returns-in_err-rows-clause-reads
returns-in_err-rows-clause-reads c = absurd (not_refused c.in_err-rows.field-0.0 _ c.in_err-rows.ensures)
