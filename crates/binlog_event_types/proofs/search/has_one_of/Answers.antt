use Rattle.binlog_event_types.specs.TypeNames.{IsNamed}
use Rattle.binlog_event_types.proofs.Searched.{no_name_more}
use Rattle.binlog_event_types.proofs.search.has_one_of.Goals as goal

pub loop-name-preserved : goal.loop-name-preserved
loop-name-preserved c =
    no_name_more (λ name. IsNamed c.args.number name) c.args.names.now c.loop-name.name-index _ c.has_name.result c.loop-name-test.true c.if-has_name.false c.has_name.ensures c.loop-name.invariant
