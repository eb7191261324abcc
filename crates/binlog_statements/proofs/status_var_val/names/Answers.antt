use Rattle.std.proofs.Common.{length, arith}
use Rattle.binlog_statements.proofs.LayoutLaws.{none_refused, names_step}
use Rattle.binlog_statements.proofs.status_var_val.names.Goals as goal

pub returns-in_err-name-clause-memory : goal.returns-in_err-name-clause-memory
returns-in_err-name-clause-memory c = absurd (none_refused c.in_err-name.field-0.0 c.loop-left.unread c.loop-left.left (length c.loop-left.unread) c.in_err-name.ensures c.loop-left.invariant.rest (omega arith))

pub loop-left-preserved : goal.loop-left-preserved
loop-left-preserved c =
    let reads = c.loop-left.invariant in
    let pushed = rw c.new.ensures at c.in_ok-push_name.ensures.ok in
    let next = names_step _ _ _ _ _ _ _ _ c.in_ok-name.ensures pushed
    (record { counted = reads.counted; bytes = reads.bytes; whole = reads.whole; len = reads.rest }) (omega arith) in
    record { counted = next.counted; bytes = next.bytes; whole = next.whole; rest = next.len }
