use Rattle.std.proofs.Common.{◌≡◌, ◌++◌, ◌+◌, ◌≤◌, length, drop, vec_len, vec_capacity}
use Rattle.binlog_mariadb.specs.GtidLists.{gtid_entry}
use Rattle.binlog_variable_fields.specs.Repeated.{each_written}
use Rattle.binlog_mariadb.proofs.gtid_list.put_entries.Given as goal

abbrev pub invariant-loop-entry : goal.invariant-loop-entry
invariant-loop-entry l = record {
  items : l.buf.items ++ each_written gtid_entry.written (drop l.entry-index l.entries) ≡ l.fn.buf.items ++ each_written gtid_entry.written l.entries;
  len : vec_len l.buf + length (each_written gtid_entry.written (drop l.entry-index l.entries)) ≡ vec_len l.fn.buf + length (each_written gtid_entry.written l.entries);
  capacity : vec_capacity l.fn.buf ≤ vec_capacity l.buf;
}
