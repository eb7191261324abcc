-- Answers of commands, in other words.
use Rattle.std.proofs.Common.{◌≡◌, inl, inr, Result, Ok, Err, OnOk}
use Rattle.std.specs.Prelude.{IfOk, IfErr}
use Rattle.std.specs.declared.io.Error.{Error as IoError}
use Rattle.binlog_wire.specs.declared.error.Error.{Error}
use Rattle.binlog_wire.specs.declared.error.Error.TheVariants.{Writer}
use Rattle.binlog_cli.specs.declared.exit_status.Outcome.{Outcome}
use Rattle.binlog_inputs.specs.Outputs.{outcome_of_lines, outcome_of_text}
use Rattle.binlog_statistics_command.specs.WrittenRows.{WritesText, WritesOr}

-- What follows for the value of an Ok.
pub if_ok : {T E : Type 0} (P Q : T → Type 0) (result : Result T E) → ((value : T) → P value → Q value) → IfOk result P → IfOk result Q
if_ok P Q (Ok value) follows holds = follows value holds
if_ok P Q (Err error) follows holds = tt

pub if_err : {T E : Type 0} (P Q : E → Type 0) (result : Result T E) → ((error : E) → P error → Q error) → IfErr result P → IfErr result Q
if_err P Q (Ok value) follows holds = tt
if_err P Q (Err error) follows holds = follows error holds

-- ---- the outcome of written rows

-- What is written of rows whose lines have this answer.
pub lines_written : (Written : Type 0) (answer : Result (Unit {0}) Error) (outcome : Outcome) → outcome ≡ outcome_of_lines answer → OnOk answer Written
    → WritesOr Written outcome
lines_written Written (Ok done) outcome is writes = inr (inr (is, writes))
lines_written Written (Err Writer) outcome is writes = inl is
lines_written Written (Err error) outcome is writes = inr (inl is)

pub text_written : (Written : Type 0) (answer : Result (Unit {0}) IoError) (outcome : Outcome) → outcome ≡ outcome_of_text answer → OnOk answer Written
    → WritesOr Written outcome
text_written Written (Ok done) outcome is writes = inr (inr (is, writes))
text_written Written (Err error) outcome is writes = inl is

-- The same of a text alone.
pub text_is_written : (Written : Type 0) (answer : Result (Unit {0}) IoError) (outcome : Outcome) → outcome ≡ outcome_of_text answer → OnOk answer Written
    → WritesText Written outcome
text_is_written Written (Ok done) outcome is writes = inr (is, writes)
text_is_written Written (Err error) outcome is writes = inl is

pub written_of : (P Q : Type 0) (outcome : Outcome) → (P → Q) → WritesOr P outcome → WritesOr Q outcome
written_of P Q outcome follows (inl failed) = inl failed
written_of P Q outcome follows (inr (inl memory)) = inr (inl memory)
written_of P Q outcome follows (inr (inr (fine, writes))) = inr (inr (fine, follows writes))
