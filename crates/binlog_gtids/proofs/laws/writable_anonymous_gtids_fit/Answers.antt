use Rattle.binlog_gtids.specs.Laws.Gtids.{anonymous_fits}
use Rattle.binlog_gtids.proofs.laws.writable_anonymous_gtids_fit.Goals as goal

pub returns : goal.returns
returns c = λ version event range writable. anonymous_fits event range writable
