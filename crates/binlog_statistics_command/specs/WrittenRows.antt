-- What is known of rows that a command writes.
use Rattle.std.specs.Prelude.{◌≡◌, ◌⊎◌}
use Rattle.binlog_cli.specs.Outputs.{written, unwritten}
use Rattle.binlog_cli.specs.declared.exit_status.Outcome.{Outcome}
use Rattle.binlog_cli.specs.declared.exit_status.Status.TheVariants.{Fine, Failed}

-- What is to be written is written if the outcome says so. It doesn't where the output fails or memory runs out.
abbrev pub WritesOr : (Written : Type 0) → Outcome → Type 0
WritesOr Written outcome = (outcome ≡ unwritten Fine) ⊎ ((outcome ≡ written Failed) ⊎ ((outcome ≡ written Fine) × Written))

-- The same of a text, which takes no memory.
abbrev pub WritesText : (Written : Type 0) → Outcome → Type 0
WritesText Written outcome = (outcome ≡ unwritten Fine) ⊎ ((outcome ≡ written Fine) × Written)
