use Rattle.std.proofs.Common.{arith, map}
use Rattle.binlog_event_types.specs.TypeNames.{IsNamedBy}
use Rattle.binlog_event_types.proofs.Searched.{one_more, all_found}
use Rattle.binlog_event_types.proofs.search.numbers_with_names.Goals as goal

pub loop-number-preserved : goal.loop-number-preserved
loop-number-preserved c =
    one_more c.loop-number.numbers.items c.add_if_named.new.numbers.items c.loop-number.number (λ n. IsNamedBy n (map (λ name. name.now) c.args.names.now)) c.in_ok-add_if_named.ensures c.loop-number.invariant

pub returns : goal.returns
returns c = all_found c.loop-number.numbers.items c.loop-number.number (λ n. IsNamedBy n (map (λ name. name.now) c.args.names.now)) (λ other named. omega (arith, named.2.0, c.loop-number-test.false)) c.loop-number.invariant
