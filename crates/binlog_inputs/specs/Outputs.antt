-- The output of a command, and the outcome of what is written to it.
use Rattle.std.specs.Prelude.{◌≡◌, ℕ, List, Option, None, Result, Ok, Err}
use Rattle.std.specs.declared.io.Error.{Error as IoError}
use Rattle.binlog_wire.specs.declared.error.Error.{Error}
use Rattle.binlog_wire.specs.declared.error.Error.TheVariants.{Writer}
use Rattle.binlog_cli.specs.Outputs.{written, unwritten, Finishes}
use Rattle.binlog_cli.specs.declared.output.Output.{Output}
use Rattle.binlog_cli.specs.declared.exit_status.Outcome.{Outcome}
use Rattle.binlog_cli.specs.declared.exit_status.Status.{Status}
use Rattle.binlog_cli.specs.declared.exit_status.Status.TheVariants.{Fine, Failed}

-- The outcome of writing the lines. Why an output fails is kept by the output.
abbrev pub outcome_of_lines : Result (Unit {0}) Error → Outcome
outcome_of_lines (Ok done) = written Fine
outcome_of_lines (Err Writer) = unwritten Fine
outcome_of_lines (Err error) = written Failed

-- The outcome of writing a text.
abbrev pub outcome_of_text : Result (Unit {0}) IoError → Outcome
outcome_of_text (Ok done) = written Fine
outcome_of_text (Err error) = unwritten Fine

-- `contents` are the bytes of the buffer of an output, with those of its writer.
module _ {B : Type 0} (contents : B → Option (List ℕ)) where
  abbrev pub bytes_of : Output B → Option (List ℕ)
  bytes_of output = contents output.inner

  -- An output begins with the bytes of its writer.
  pub record Begins (old : Option (List ℕ)) (output : Output B) : Type 0 where
    pub has : bytes_of output ≡ old
    pub fine : output.failure ≡ None

  -- An output is finished behind this outcome, and gives back its writer.
  abbrev pub Ends : (output : Output B) (outcome : Outcome) (status : Status) (new : Option (List ℕ)) → Type 0
  Ends output outcome status new = Finishes output.failure (bytes_of output) outcome status new
