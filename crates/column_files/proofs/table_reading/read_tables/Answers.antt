use Rattle.std.proofs.Common.{subst}
use Rattle.column_files.specs.Tables.{IsTablesError}
use Rattle.column_files.proofs.Refusals.{text_refused, tables_refused}
use Rattle.column_files.proofs.table_reading.read_tables.Goals as goal

pub returns-in-Err-clause-err : goal.returns-in-Err-clause-err
returns-in-Err-clause-err c = text_refused c.args.text.now c.in-Err.error c.error_of_text.result c.error_of_text.ensures c.in-Err.ensures.err

pub returns-clause-err : goal.returns-clause-err
returns-clause-err c = tables_refused c.args.text.now c.in-Ok.lines.items c.in-Err-new.error c.error_of_tables.result c.in-Ok.ensures.ok c.error_of_tables.ensures
    (subst (λ lines. IsTablesError lines c.in-Err-new.error) c.deref.ensures.value c.in-Err-new.ensures.err)
