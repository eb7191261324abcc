use Rattle.binlog_ends.proofs.Written.{written_more, written_kept, rest_behind}
use Rattle.binlog_ends.proofs.writing.write_each.Goals.{in-Ok-2, in-Err}
use Rattle.binlog_ends.proofs.writing.write_each.Goals as goal

pub writes-preserved : goal.writes-preserved
writes-preserved g c = elim c.match-write.branch [
  | in-Ok-2 w ↦ rw w.rest-is (written_more _ _ _ _ _ _ _ c.writes.invariant w.in-Ok.ensures.bytes (rest_behind _ w.in-Ok.count))
  | in-Err w ↦ rw w.rest-is (written_kept _ _ _ _ _ c.writes.invariant w.in-Err.ensures.bytes)
]
