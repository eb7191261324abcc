use Rattle.binlog_gtids.specs.Laws.Gtids.{gtid_fits}
use Rattle.binlog_gtids.proofs.laws.writable_gtids_fit.Goals as goal

pub returns : goal.returns
returns c = gtid_fits
