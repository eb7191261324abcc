use Rattle.std.proofs.Common.{◌≡◌, ◌++◌, ◌+◌, ◌≤◌, length, drop, vec_len, vec_capacity}
use Rattle.binlog_variable_fields.specs.Repeated.{each_written}
use Rattle.binlog_gtids.specs.PreviousGtids.{sid_written}
use Rattle.binlog_gtids.proofs.previous_gtids_event.put_sids.Given as goal

abbrev pub invariant-loop-sid : goal.invariant-loop-sid
invariant-loop-sid l =
    let written = each_written (sid_written l.with_tags) in
    record {
      items : l.buf.items ++ written (drop l.sid-index l.sids) ≡ l.fn.buf.items ++ written l.sids;
      len : vec_len l.buf + length (written (drop l.sid-index l.sids)) ≡ vec_len l.fn.buf + length (written l.sids);
      capacity : vec_capacity l.fn.buf ≤ vec_capacity l.buf;
    }
