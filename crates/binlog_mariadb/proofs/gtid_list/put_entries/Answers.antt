use Rattle.std.proofs.Common.{◌≡◌, ◌++◌, ◌+◌, length, get_or, drop, List, ℕ, refl, arith}
use Rattle.binlog_mariadb.specs.GtidLists.{gtid_entry}
use Rattle.binlog_mariadb.specs.declared.maria_gtid.MariaGtid.{MariaGtid}
use Rattle.binlog_variable_fields.specs.Repeated.{each_written}
use Rattle.binlog_variable_fields.specs.Laws.RepeatedLoops.{written_step, written_left}
use Rattle.binlog_mariadb.proofs.gtid_list.put_entries.Goals as goal

pub put-requires-clause-room : goal.put-requires-clause-room
put-requires-clause-room c =
    let d : MariaGtid = record { domain = 0; server_id = 0; sequence = 0 } in
    let x : MariaGtid = get_or c.args.entries.now c.loop-entry.entry-index d in
    omega (arith, written_left gtid_entry.written c.args.entries.now c.loop-entry.entry-index x d (omega arith) refl)

pub loop-entry-preserved : goal.loop-entry-preserved
loop-entry-preserved c =
    let d : MariaGtid = record { domain = 0; server_id = 0; sequence = 0 } in
    let i : ℕ = c.loop-entry.entry-index in
    let x : MariaGtid = get_or c.args.entries.now i d in
    let xs : List MariaGtid = c.args.entries.now in
    let left : length (each_written gtid_entry.written (drop i xs)) ≡ length (gtid_entry.written x) + length (each_written gtid_entry.written (drop (i + 1) xs)) =
    written_left gtid_entry.written xs i x d (omega arith) refl in
    record {
      items = written_step gtid_entry.written xs i x d (c.args.buf.now.items ++ each_written gtid_entry.written xs) c.loop-entry.buf.items c.put.new.buf.items (omega arith) refl c.loop-entry.invariant.items c.put.ensures.items;
      len = omega (arith, left, c.put.ensures.len);
      capacity = omega (arith, c.put.ensures.capacity);
    }
