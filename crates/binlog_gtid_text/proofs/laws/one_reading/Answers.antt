use Rattle.binlog_gtid_text.proofs.Readings.{same_texts, same_errors, text_valid}
use Rattle.binlog_gtid_text.proofs.SomeReading.{some_reading}
use Rattle.binlog_gtid_text.proofs.laws.one_reading.Goals as goal

pub returns : goal.returns
returns c = record {
  some = λ text. some_reading text;
  same = λ text ps qs h k. same_texts ps qs text h k;
  valid = λ text ps e h bad. text_valid ps text e h bad;
  fault = λ text e d h k. same_errors text e d h k;
}
