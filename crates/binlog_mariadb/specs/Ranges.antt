-- The fields of values are in the ranges of their Rust types.
use Rattle.std.proofs.Common.{◌≡◌, ℕ, ◌^◌, ◌<◌, Bool, true, false, Option, Some, None, List, [], ◌∷◌, length, refl, arith}
use Rattle.std.specs.Prelude.{IfSome}
use Rattle.std.proofs.lemmas.List.{length-take}
use Rattle.binlog_wire.specs.Fields.{IsBytes}
use Rattle.binlog_wire.specs.Formats.{anywhere, number}
use Rattle.binlog_variable_fields.specs.Repeated.{EachFits}
use Rattle.binlog_mariadb.specs.Parts.{part}
use Rattle.binlog_mariadb.specs.Gtids.{xa, no_xa, extra, no_extra, has_engines, has_alter, has_thread, has_commit_id, has_xa, is_short, tail_by, maria_gtid}
use Rattle.binlog_mariadb.specs.GtidLists.{gtid_entry, gtid_list, unwritable_list, few_entries}
use Rattle.binlog_mariadb.specs.declared.annotate_rows.AnnotateRowsEvent.{AnnotateRowsEvent}
use Rattle.binlog_mariadb.specs.declared.binlog_checkpoint.BinlogCheckpointEvent.{BinlogCheckpointEvent}
use Rattle.binlog_mariadb.specs.declared.start_encryption.StartEncryptionEvent.{StartEncryptionEvent}
use Rattle.binlog_mariadb.specs.declared.xa_id.XaId.{XaId}
use Rattle.binlog_mariadb.specs.declared.gtid_extra.GtidExtra.{GtidExtra}
use Rattle.binlog_mariadb.specs.declared.gtid_event.MariaGtidEvent.{MariaGtidEvent}
use Rattle.binlog_mariadb.specs.declared.maria_gtid.MariaGtid.{MariaGtid}
use Rattle.binlog_mariadb.specs.declared.gtid_list.GtidListEvent.{GtidListEvent}

-- The fields of an ANNOTATE_ROWS event are in range.
pub record IsAnnotateRowsInRange (e : AnnotateRowsEvent) : Type 0 where
  pub query : IsBytes e.query

-- The fields of a BINLOG_CHECKPOINT event are in range.
pub record IsCheckpointInRange (e : BinlogCheckpointEvent) : Type 0 where
  pub name : IsBytes e.name

-- The fields of a START_ENCRYPTION event are in range.
pub record IsEncryptionInRange (e : StartEncryptionEvent) : Type 0 where
  pub scheme : e.scheme < 256
  pub key_version : e.key_version < 256 ^ 4
  pub nonce : length e.nonce ≡ 12

-- The fields of an XA id are in range.
pub record IsXaInRange (id : XaId) : Type 0 where
  pub format_id : id.format_id < 256 ^ 4
  pub global : IsBytes id.global
  pub branch : IsBytes id.branch

-- The extra flags and their parts are in range.
pub record IsExtraInRange (e : GtidExtra) : Type 0 where
  pub flags : e.flags < 256
  pub engines : e.engines < 256
  pub alter_sequence : e.alter_sequence < 256 ^ 8
  pub thread_id : e.thread_id < 256 ^ 4
  pub padding : IsBytes e.padding

-- The fields of a GTID event are in range.
pub record IsGtidInRange (e : MariaGtidEvent) : Type 0 where
  pub sequence : e.head.sequence < 256 ^ 8
  pub domain : e.head.domain < 256 ^ 4
  pub flags : e.head.flags < 256
  pub commit_id : e.commit_id < 256 ^ 8
  pub xa_id : IsXaInRange e.xa_id
  pub extra : IfSome e.extra IsExtraInRange

-- The fields of an entry of a list are in range.
pub record IsEntryInRange (g : MariaGtid) : Type 0 where
  pub domain : g.domain < 256 ^ 4
  pub server_id : g.server_id < 256 ^ 4
  pub sequence : g.sequence < 256 ^ 8

-- The fields of a GTID_LIST event are in range.
pub record IsListInRange (e : GtidListEvent) : Type 0 where
  pub flags : e.flags < 256
  pub entries : EachFits IsEntryInRange e.entries

-- ---- values in range fit

part_fits : (k : ℕ) (there : Bool) (n : ℕ) → n < 256 ^ k → (part {place = anywhere} there 0 (number k)).Fits n
part_fits k true n fits = fits
part_fits k false n fits = tt

xa_fits : (id : XaId) → IsXaInRange id → (there : Bool) → (part there no_xa xa).Fits id
xa_fits id range true =
    ((range.format_id, (omega (arith, length-take 255 id.global), omega (arith, length-take 255 id.branch))), (refl, refl))
xa_fits id range false = tt

extra_fits : (m : ℕ) (e : GtidExtra) → IsExtraInRange e → (extra m).Fits e
extra_fits m e range = (
  range.flags,
  (
    part_fits 1 (has_engines e.flags) e.engines range.engines,
    (
      part_fits 8 (has_alter e.flags) e.alter_sequence range.alter_sequence,
      (part_fits 4 (has_thread e.flags) e.thread_id range.thread_id, tt),
    ),
  ),
)

supplied_by : (e : Option GtidExtra) → IfSome e IsExtraInRange → (tail_by true).Fits e
supplied_by (Some e) range = extra_fits 5 e range
supplied_by None range = extra_fits 5 no_extra (record { flags = omega arith; engines = omega arith; alter_sequence = omega arith; thread_id = omega arith; padding = λ i. omega arith })

tail_fits : (e : Option GtidExtra) → IfSome e IsExtraInRange → (short : Bool) → (tail_by short).Fits e
tail_fits e range true = supplied_by e range
tail_fits (Some e) range false = extra_fits 0 e range
tail_fits None range false = tt

pub gtid_fits : (e : MariaGtidEvent) → IsGtidInRange e → maria_gtid.Fits e
gtid_fits e range = (
  (range.sequence, (range.domain, range.flags)),
  (
    part_fits 8 (has_commit_id e.head.flags) e.commit_id range.commit_id,
    (
      xa_fits e.xa_id range.xa_id (has_xa e.head.flags),
      tail_fits e.extra range.extra (is_short e.head.flags),
    ),
  ),
)

each_fits : (vs : List MariaGtid) → EachFits IsEntryInRange vs → EachFits gtid_entry.Fits vs
each_fits [] range = tt
each_fits (v ∷ vs) range = ((range.0.domain, (range.0.server_id, range.0.sequence)), each_fits vs range.1)

pub list_fits : (e : GtidListEvent) → IsListInRange e → unwritable_list e ≡ None → gtid_list.Fits e
list_fits e range writable = (few_entries e writable, each_fits e.entries range.entries)
