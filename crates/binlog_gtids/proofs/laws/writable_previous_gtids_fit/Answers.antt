use Rattle.binlog_gtids.specs.Laws.PreviousGtids.{sids_fit}
use Rattle.binlog_gtids.proofs.laws.writable_previous_gtids_fit.Goals as goal

pub returns : goal.returns
returns c = λ version event fits writable. sids_fit event.sids fits writable
