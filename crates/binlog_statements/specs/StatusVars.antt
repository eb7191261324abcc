-- Status variables as contracts see them.
use Rattle.std.specs.Prelude.{ℕ, List, Option, Some, None}
use Rattle.std.specs.Borrow.{Bor}
use Rattle.binlog_statements.specs.StatusVariables.{Variable}
use Rattle.binlog_statements.specs.declared.status_vars.StatusVar.{StatusVar}

-- A variable, without the location of its bytes.
abbrev pub variable_of : StatusVar → Variable
variable_of v = record { key = v.key; value = v.value.now }

-- A first variable and the bytes after it, without their location.
abbrev pub first_of : Option (StatusVar × Bor (List ℕ)) → Option (Variable × List ℕ)
first_of None = None
first_of (Some x) = Some (variable_of x.0, x.1.now)
