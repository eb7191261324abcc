use Rattle.binlog_event_types.specs.TypeNames.{IsNamed}
use Rattle.binlog_event_types.proofs.Searched.{none_more}
use Rattle.binlog_event_types.proofs.search.number_with_name.Goals as goal

pub loop-number-preserved : goal.loop-number-preserved
loop-number-preserved c = none_more (λ n. IsNamed n c.args.name.now) c.loop-number.number c.has_name.result c.if-has_name.false c.has_name.ensures c.loop-number.invariant
