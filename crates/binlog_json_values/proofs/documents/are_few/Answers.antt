use Rattle.std.proofs.Common.{length, ap, arith, inl}
use Rattle.binlog_json_values.proofs.DiffLists.{items_few}
use Rattle.binlog_json_values.proofs.documents.are_few.Goals as goal

pub count-requires-clause-fits : goal.count-requires-clause-fits
count-requires-clause-fits c = inl (omega (arith, items_few c.args.diffs.now, ap length c.new.ensures))
