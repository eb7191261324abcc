use Rattle.std.proofs.Common.{length}
use Rattle.binlog_columns.specs.TableColumns.{columns_of}
use Rattle.binlog_optional_metadata.specs.StatedFields.{stated_of, names_left, lists_left}
use Rattle.binlog_optional_metadata.proofs.FactsSoFar.{SoFar}
use Rattle.binlog_optional_metadata.proofs.table_facts.TableFacts.new.Given as goal

-- The facts of the columns so far.
abbrev pub invariant-columns : goal.invariant-columns
invariant-columns l = SoFar l.fn.is_maria_log (stated_of l.stated) (columns_of l.fn.columns) (length l.yielded) l.facts.items l.numeric l.character l.listed (names_left l.names) (lists_left l.enums) (lists_left l.sets)
