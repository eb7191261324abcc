-- What is wrong in a text, and where.
use Rattle.std.specs.Prelude.{ℕ, ◌-◌, List, length}
use Rattle.binlog_gtid_text.specs.declared.error.Fault.{Fault}
use Rattle.binlog_gtid_text.specs.declared.error.GtidTextFault.{GtidTextFault}
use Rattle.binlog_gtid_text.specs.declared.error.GtidTextError.{GtidTextError}
use Rattle.binlog_gtid_text.specs.declared.error.GtidTextError.TheVariants.{Invalid}

-- A fault at the start of the rest of a text.
abbrev pub fault : GtidTextFault → List ℕ → Fault
fault kind rest = record { kind = kind; left = length rest }

-- The error for a fault in a text of this length.
abbrev pub error_at : ℕ → Fault → GtidTextError
error_at len f = Invalid f.kind (len - f.left)
