-- The count of failures of a writer that a visitor has, where it has one that counts them.
use Rattle.std.specs.Prelude.{◌≡◌, Option, Some, None, Result, MatchResult, ⊤}
use Rattle.binlog_ends.specs.Counts.{FailureCount}
use Rattle.binlog_wire.specs.declared.error.Error.{Error}
use Rattle.binlog_file.specs.Writing.{writer_count}

-- A call with this result counts one failure of the writer for `Writer`, and none for any other result. Nothing is stated of a
-- count that isn't known.
abbrev pub CountsKnown : {A : Type 0} → Result A Error → Option FailureCount → Option FailureCount → Type 0
CountsKnown answer None new = ⊤
CountsKnown answer (Some old) new = MatchResult answer (λ _. new ≡ Some old) (λ error. new ≡ Some (writer_count error old))
