-- GTID, type 162, the GTID of the event group after it: sequence number, 8 bytes; domain, 4 bytes; flags, 1 byte; with
-- FL_GROUP_COMMIT_ID the commit id, 8 bytes; with FL_PREPARED_XA or FL_COMPLETED_XA the XA id. Then, if bytes are left,
-- the extra flags, 1 byte; with its bit 1 the number of engines, 1 byte; with its bit 4 or 8 the sequence number of the
-- START ALTER, 8 bytes; with its bit 16 the thread id, 4 bytes; and reserved bytes to the end. Without a commit id and
-- an XA id at least six bytes come after the flags, so that a body has at least 19 bytes.
-- Source: MariaDB's documentation, "GTID_EVENT", and what its server writes.
use Rattle.std.specs.Prelude.{◌≡◌, ℕ, ◌+◌, ◌-◌, ◌≤◌, Bool, cond, not, ◌||◌, Option, List, [], take, length, refl}
use Rattle.std.proofs.Common.{ap, arith, ◌∙◌}
use Rattle.std.proofs.lemmas.List.{take_all, length-take}
use Rattle.binlog_wire.specs.Formats.{Format, anywhere, last, number, block, then, ◌⨾◌, seen_as, made}
use Rattle.binlog_variable_fields.specs.Chosen.{choose}
use Rattle.binlog_mariadb.specs.Parts.{has_bit, part, supplied, optional, padding}
use Rattle.binlog_mariadb.specs.declared.xa_id.XaId.{XaId}
use Rattle.binlog_mariadb.specs.declared.gtid_extra.GtidExtra.{GtidExtra}
use Rattle.binlog_mariadb.specs.declared.gtid_event.GtidHead.{GtidHead}
use Rattle.binlog_mariadb.specs.declared.gtid_event.MariaGtidEvent.{MariaGtidEvent}

-- ---- the id of an XA transaction

-- The number of the format (4), the lengths of both parts (1 each), and the parts.
abbrev pub XaFields : Type 0
XaFields = (ℕ × (ℕ × ℕ)) × (List ℕ × List ℕ)

-- The format of these fields.
abbrev pub xa_fields : Format anywhere XaFields
xa_fields = then (number 4 ⨾ number 1 ⨾ number 1) (λ h. block h.1.0 ⨾ block h.1.1)

-- The fields of an id, with at most 255 bytes of each part.
abbrev pub fields_of_xa : XaId → XaFields
fields_of_xa id = ((id.format_id, (length (take 255 id.global), length (take 255 id.branch))), (take 255 id.global, take 255 id.branch))

-- The id with these fields.
abbrev pub xa_of : XaFields → XaId
xa_of x = record { format_id = x.0.0; global = x.1.0; branch = x.1.1 }

-- The empty id.
abbrev pub no_xa : XaId
no_xa = record { format_id = 0; global = []; branch = [] }

abbrev xa_with : ℕ → List ℕ → List ℕ → XaFields
xa_with format_id global branch = ((format_id, (length global, length branch)), (global, branch))

pub xa_again : (s : List ℕ) (x : XaFields) (r : List ℕ) → xa_fields.spells s x r → ◌≡◌ {A = XaFields} (fields_of_xa (xa_of x)) x
xa_again s x r h =
    let global : take 255 x.1.0 ≡ x.1.0 = take_all 255 x.1.0 (omega (arith, h.2.1.0, h.1.2.1.0)) in
    let branch : take 255 x.1.1 ≡ x.1.1 = take_all 255 x.1.1 (omega (arith, h.2.2.0, h.1.2.2.0)) in
    rw (global, branch, h.2.1.0, h.2.2.0) refl

pub xa_twice : (id : XaId) → ◌≡◌ {A = XaFields} (fields_of_xa (xa_of (fields_of_xa id))) (fields_of_xa id)
xa_twice id =
    let cut : (s : List ℕ) → take 255 (take 255 s) ≡ take 255 s = λ s. take_all 255 (take 255 s) (omega (arith, length-take 255 s)) in
    ap (λ (g : List ℕ). xa_with id.format_id g (take 255 (take 255 id.branch))) (cut id.global)
    ∙ ap (λ (b : List ℕ). xa_with id.format_id (take 255 id.global) b) (cut id.branch)

-- The format of an id.
abbrev pub xa : Format anywhere XaId
xa = made xa_of fields_of_xa xa_fields xa_again xa_twice

-- ---- the extra flags

-- Whether the extra flags announce the number of engines.
abbrev pub has_engines : ℕ → Bool
has_engines flags = has_bit flags 1

-- Whether the extra flags announce the sequence number of a START ALTER.
abbrev pub has_alter : ℕ → Bool
has_alter flags = has_bit flags 4 || has_bit flags 8

-- Whether the extra flags announce a thread id.
abbrev pub has_thread : ℕ → Bool
has_thread flags = has_bit flags 16

-- The number of bytes of the parts that the extra flags announce.
abbrev pub parts_len : ℕ → ℕ
parts_len flags = cond (has_engines flags) 1 0 + cond (has_alter flags) 8 0 + cond (has_thread flags) 4 0

-- The parts that these extra flags announce, and reserved bytes: together at least m bytes.
abbrev pub extra_parts : ℕ → ℕ → Format last (ℕ × (ℕ × (ℕ × List ℕ)))
extra_parts m flags =
    part (has_engines flags) 0 (number 1)
    ⨾ part (has_alter flags) 0 (number 8)
    ⨾ part (has_thread flags) 0 (number 4)
    ⨾ padding (m - parts_len flags)

-- The extra flags, their parts, and reserved bytes; at least m bytes come after the extra flags.
abbrev pub extra : ℕ → Format last GtidExtra
extra m = seen_as
    (λ x. record { flags = x.0; engines = x.1.0; alter_sequence = x.1.1.0; thread_id = x.1.1.1.0; padding = x.1.1.1.1 })
    (λ e. (e.flags, (e.engines, (e.alter_sequence, (e.thread_id, e.padding))))) (λ _. refl) (λ _. refl)
    (then (number 1) (λ flags. extra_parts m flags))

-- Extra flags take at least one byte.
pub one : 1 ≤ 1
one = omega arith

-- No bits set, and no reserved bytes.
abbrev pub no_extra : GtidExtra
no_extra = record { flags = 0; engines = 0; alter_sequence = 0; thread_id = 0; padding = [] }

-- ---- the body

-- Whether the flags announce a commit id.
abbrev pub has_commit_id : ℕ → Bool
has_commit_id flags = has_bit flags 2

-- Whether the flags announce an XA id.
abbrev pub has_xa : ℕ → Bool
has_xa flags = has_bit flags 64 || has_bit flags 128

-- Neither a commit id nor an XA id follows the flags.
abbrev pub is_short : ℕ → Bool
is_short flags = not (has_commit_id flags || has_xa flags)

-- The sequence number, the domain and the flags.
abbrev pub head : Format anywhere GtidHead
head = seen_as
    (λ x. record { sequence = x.0; domain = x.1.0; flags = x.1.1 })
    (λ h. (h.sequence, (h.domain, h.flags))) (λ _. refl) (λ _. refl)
    (number 8 ⨾ number 4 ⨾ number 1)

-- The extra flags and what follows them. If `short` is true, so that there is neither a commit id nor an XA id, they
-- are at least six bytes; else they may be absent.
abbrev pub tail_by : Bool → Format last (Option GtidExtra)
tail_by short = choose short (supplied no_extra (extra 5)) (optional (extra 0) one)

-- The extra flags after these flags.
abbrev pub tail : ℕ → Format last (Option GtidExtra)
tail flags = tail_by (is_short flags)

-- The parts after the flags.
abbrev pub behind_flags : ℕ → Format last (ℕ × (XaId × Option GtidExtra))
behind_flags flags = part (has_commit_id flags) 0 (number 8) ⨾ part (has_xa flags) no_xa xa ⨾ tail flags

-- The format of the body.
abbrev pub maria_gtid : Format last MariaGtidEvent
maria_gtid = seen_as
    (λ x. record { head = x.0; commit_id = x.1.0; xa_id = x.1.1.0; extra = x.1.1.1 })
    (λ e. (e.head, (e.commit_id, (e.xa_id, e.extra)))) (λ _. refl) (λ _. refl)
    (then head (λ h. behind_flags h.flags))
