use Rattle.column_files.proofs.Readings.{same_files, file_valid, same_errors}
use Rattle.column_files.proofs.laws.one_reading.Goals as goal

pub returns : goal.returns
returns c = record {
  same = λ text ls ms h k. same_files text ls ms h k;
  valid = λ text ls e h bad. file_valid text ls e h bad;
  fault = λ text e d h k. same_errors text e d h k;
}
