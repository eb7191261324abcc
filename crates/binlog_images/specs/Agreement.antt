-- Reading is stated in two ways: as a format's, and with the place of the first fault.
use Rattle.std.specs.Prelude.{◌≡◌, ℕ, List, Result, Ok, Err}
use Rattle.binlog_wire.specs.Reading.{Read}
use Rattle.binlog_images.specs.Kinds.{kind_as}
use Rattle.binlog_images.specs.declared.rows_error.RowsErrorKind.{RowsErrorKind}

-- Both give the same, seen in one way, and leave the same bytes; or both are refused, for the same kind of fault.
abbrev pub Agrees : {A B E : Type 0} → (A → B) → (E → RowsErrorKind) → Read A → Result (B × List ℕ) E → Type 0
Agrees {B = B} view kind (Ok x) (Ok y) = ◌≡◌ {A = B × List ℕ} (view x.0, x.1) y
Agrees view kind (Ok x) (Err e) = ⊥
Agrees view kind (Err d) (Ok y) = ⊥
Agrees view kind (Err d) (Err e) = kind e ≡ kind_as d
