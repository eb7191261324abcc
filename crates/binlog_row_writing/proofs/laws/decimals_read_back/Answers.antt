use Rattle.binlog_row_writing.specs.DecimalLaws.{decimal_sign_back, decimal_digits_back}
use Rattle.binlog_row_writing.proofs.laws.decimals_read_back.Goals as goal

pub returns : goal.returns
returns c = record {
  sign = λ precision scale is_negative digits is. decimal_sign_back precision scale is_negative digits is;
  digits = λ precision scale is_negative digits is. decimal_digits_back precision scale is_negative digits is;
}
