use Rattle.binlog_gtid_listing.proofs.Numbers.{lines_are_one}
use Rattle.binlog_gtid_listing.proofs.laws.group_lines_are_one.Goals as goal

pub returns : goal.returns
returns c = lines_are_one
