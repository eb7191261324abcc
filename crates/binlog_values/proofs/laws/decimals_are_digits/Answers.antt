use Rattle.binlog_values.specs.Contents.{groups, magnitude}
use Rattle.binlog_values.proofs.DecimalDigits.{number_of_groups}
use Rattle.binlog_values.proofs.laws.decimals_are_digits.Goals as goal

pub returns : goal.returns
returns c = λ precision scale s fits. number_of_groups (groups precision scale) (magnitude s) fits
