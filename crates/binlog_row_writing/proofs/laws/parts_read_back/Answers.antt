use Rattle.binlog_row_writing.specs.IntegerLaws.{unsigned_back, signed_back}
use Rattle.binlog_row_writing.specs.PartLaws.{date_back, time_back, datetime_back, timestamp2_back, datetime2_back, time2_back}
use Rattle.binlog_row_writing.proofs.laws.parts_read_back.Goals as goal

pub returns : goal.returns
returns c = record {
  unsigned = λ size n number h. unsigned_back size n number h;
  signed = λ size n number some h. signed_back size n number some h;
  date = λ date h. date_back date h;
  time = λ n is_negative time h. time_back n is_negative time h;
  datetime = λ n date time h. datetime_back n date time h;
  timestamp2 = λ digits seconds us n h. timestamp2_back digits seconds us n h;
  datetime2 = λ digits n date time h. datetime2_back digits n date time h;
  time2 = λ digits n is_negative time h. time2_back digits n is_negative time h;
}
