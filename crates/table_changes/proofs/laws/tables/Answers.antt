use Rattle.table_changes.proofs.Tables.{some_tables_back}
use Rattle.table_changes.proofs.laws.tables.Goals as goal

pub returns : goal.returns
returns g c = λ takes changes old new a. some_tables_back takes changes old new a
