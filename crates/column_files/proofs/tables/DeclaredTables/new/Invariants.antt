use Rattle.std.proofs.Common.{take}
use Rattle.column_files.specs.Tables.{AreInPlace, AreTables}
use Rattle.column_files.proofs.tables.DeclaredTables.new.Given as goal

-- The tables of the lines so far, whose positions are in place.
abbrev pub invariant-loop-index : goal.invariant-loop-index
invariant-loop-index l = AreInPlace l.lines l.index × AreTables (take l.index l.lines) l.tables
