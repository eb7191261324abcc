use Rattle.std.proofs.Common.{append_assoc, refl, arith}
use Rattle.std.proofs.lemmas.List.{length-append}
use Rattle.binlog_rows.proofs.rows_head.put_extra.Goals as goal

pub returns-in-Some : goal.returns-in-Some
returns-in-Some c = record {
  items = rw (c.in-Some.is, c.put-in-Some.ensures.items, c.put.ensures.items, c.written_len-len.ensures.count, append_assoc) refl;
  len = grind (arith, c.in-Some.is, c.written_len-len.ensures.count);
  capacity = grind arith;
}
