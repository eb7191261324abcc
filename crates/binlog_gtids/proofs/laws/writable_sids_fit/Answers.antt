use Rattle.binlog_gtids.specs.Laws.PreviousGtids.{sids_fit}
use Rattle.binlog_gtids.proofs.laws.writable_sids_fit.Goals as goal

pub returns : goal.returns
returns c = sids_fit
