use Rattle.std.proofs.Common.{refl}
use Rattle.binlog_undo_items.proofs.writing.make_log.Goals as goal

pub returns-clause-ok : goal.returns-clause-ok
returns-clause-ok c = record {
  start = c.new.result;
  begins = rw (c.new.ensures, c.in_ok-header.ensures.items) refl;
  end = c.write_undo.new.output;
  writes = c.in_ok-write_undo.ensures;
  ends = rw c.into_inner.ensures refl;
}
