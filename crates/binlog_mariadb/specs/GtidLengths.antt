-- The least length of a GTID.
use Rattle.std.proofs.Common.{◌≡◌, ℕ, ◌+◌, ◌≤◌, ◌||◌, Bool, true, false, cond, not, Option, List, length, ap, arith}
use Rattle.binlog_wire.specs.Formats.{anywhere, number}
use Rattle.binlog_mariadb.specs.Parts.{part}
use Rattle.binlog_mariadb.specs.Gtids.{xa, no_xa, head, extra, has_engines, has_alter, has_thread, has_commit_id, has_xa, tail_by, maria_gtid}
use Rattle.binlog_mariadb.specs.declared.xa_id.XaId.{XaId}
use Rattle.binlog_mariadb.specs.declared.gtid_extra.GtidExtra.{GtidExtra}
use Rattle.binlog_mariadb.specs.declared.gtid_event.MariaGtidEvent.{MariaGtidEvent}

part_long : (k : ℕ) (there : Bool) (s : List ℕ) (n : ℕ) (r : List ℕ) → (part {place = anywhere} there 0 (number k)).spells s n r → cond there k 0 + length r ≤ length s
part_long k true s n r h = (number {place = anywhere} k).long s n r h
part_long k false s n r h = rw h.1 (omega arith)

extra_long : (s : List ℕ) (e : GtidExtra) (r : List ℕ) → (extra 5).spells s e r → 6 ≤ length s
extra_long s e r h =
    let flags = (number {place = anywhere} 1).long s e.flags h.0 h.1 in
    let engines = part_long 1 (has_engines e.flags) h.0 e.engines h.2.0 h.2.1 in
    let alter = part_long 8 (has_alter e.flags) h.2.0 e.alter_sequence h.2.2.0 h.2.2.1 in
    let thread = part_long 4 (has_thread e.flags) h.2.2.0 e.thread_id h.2.2.2.0 h.2.2.2.1 in
    omega (arith, flags, engines, alter, thread, h.2.2.2.2.0)

supplied_long : (s : List ℕ) (o : Option GtidExtra) (r : List ℕ) → (tail_by true).spells s o r → 6 ≤ length s
supplied_long s o r h = extra_long s h.0 r h.2

parts_long : (commit ids : Bool) (s m t r : List ℕ) (n : ℕ) (id : XaId) (o : Option GtidExtra) → (part {place = anywhere} commit 0 (number 8)).spells s n m
    → (part ids no_xa xa).spells m id t → (tail_by (not (commit || ids))).spells t o r → 6 ≤ length s
parts_long true ids s m t r n id o commit xa_id tail = omega (arith, part_long 8 true s n m commit)
parts_long false true s m t r n id o commit xa_id tail = omega (arith, part_long 8 false s n m commit, xa.long m id t xa_id)
parts_long false false s m t r n id o commit xa_id tail =
    let same : length t ≡ length m = ap length xa_id.1 in
    omega (arith, part_long 8 false s n m commit, supplied_long t o r tail, same)

-- Each GTID has at least 19 bytes.
pub gtid_long : (s : List ℕ) (e : MariaGtidEvent) (r : List ℕ) → maria_gtid.spells s e r → 19 ≤ length s
gtid_long s e r h =
    omega (
      arith,
      head.long s e.head h.0 h.1,
      parts_long (has_commit_id e.head.flags) (has_xa e.head.flags) h.0 h.2.0 h.2.2.0 r e.commit_id e.xa_id e.extra h.2.1 h.2.2.1 h.2.2.2,
    )
