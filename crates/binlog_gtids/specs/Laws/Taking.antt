-- Fields that are read one after the other have the values of their last occurrences.
use Rattle.std.proofs.Common.{◌≡◌, List, [], ◌∷◌, ◌++◌, refl, Option, None, Some, Bool, true, false, cond, ℕ, eqb, ap, ◌∙◌, replicate, Ok}
use Rattle.std.specs.Prelude.{unwrap_or}
use Rattle.binlog_gtids.specs.FieldIds.{flags_id, sid_id, gno_id, tag_id, last_committed_id, sequence_number_id, immediate_commit_timestamp_id, original_commit_timestamp_id, transaction_length_id, immediate_server_version_id, original_server_version_id, commit_group_ticket_id}
use Rattle.binlog_gtids.specs.TaggedFields.{Entry}
use Rattle.binlog_gtids.specs.declared.tagged_fields.TaggedFields.{TaggedFields}
use Rattle.binlog_gtids.specs.Taking.{with_entry, taken, newer, no_fields, event_of, event_if, event_known}
use Rattle.binlog_gtids.specs.TaggedValues.{Value, number_in, bytes_in}
use Rattle.binlog_gtids.specs.Tagged.{or_else, last_of, number_or, bytes_or, gtid_with, with_tag, Head, tagged_of}
use Rattle.binlog_gtids.specs.declared.gtid_event.GtidEvent.{GtidEvent}

pub taken_more : (es : List Entry) (e : Entry) (f : TaggedFields) → taken (es ++ e ∷ []) f ≡ with_entry e (taken es f)
taken_more [] e f = refl
taken_more (d ∷ es) e f = taken_more es e (with_entry d f)

-- ---- a field has the value of its last occurrence

abbrev seen_last : {X : Type 0} → (Value → X) → Option Value → Option X → Option X
seen_last seen (Some v) o = Some (seen v)
seen_last seen None o = o

one_more : {X : Type 0} (seen : Value → X) (a : Option Value) (b : Bool) (v : Value) (o : Option X)
    → seen_last seen a (cond b (Some (seen v)) o) ≡ seen_last seen (or_else a (cond b (Some v) None)) o
one_more seen (Some w) b v o = refl
one_more seen None true v o = refl
one_more seen None false v o = refl

known : {X : Type 0} (field : TaggedFields → Option X) (id : ℕ) (seen : Value → X) → ((e : Entry) (f : TaggedFields) → field (with_entry e f) ≡ newer id seen e (field f))
    → (es : List Entry) (f : TaggedFields) → field (taken es f) ≡ seen_last seen (last_of id es) (field f)
known field id seen law [] f = refl
known {X} field id seen law (e ∷ es) f =
    known field id seen law es (with_entry e f)
    ∙ ap (λ (o : Option X). seen_last seen (last_of id es) o) (law e f)
    ∙ one_more seen (last_of id es) (eqb e.0 id) e.1 (field f)

number_same : (o : Option Value) (d : ℕ) → unwrap_or (seen_last number_in o None) d ≡ number_or d o
number_same (Some v) d = refl
number_same None d = refl

bytes_same : (o : Option Value) (d : List ℕ) → unwrap_or (seen_last bytes_in o None) d ≡ bytes_or d o
bytes_same (Some v) d = refl
bytes_same None d = refl

number_known : (field : TaggedFields → Option ℕ) (id : ℕ) → field no_fields ≡ None → ((e : Entry) (f : TaggedFields) → field (with_entry e f) ≡ newer id number_in e (field f))
    → (es : List Entry) (d : ℕ) → unwrap_or (field (taken es no_fields)) d ≡ number_or d (last_of id es)
number_known field id none law es d =
    ap (λ (o : Option ℕ). unwrap_or o d) (known field id number_in law es no_fields ∙ ap (λ (o : Option ℕ). seen_last number_in (last_of id es) o) none)
    ∙ number_same (last_of id es) d

event_same : (es : List Entry) (tag : List ℕ) → event_of (taken es no_fields) tag ≡ gtid_with tag es
event_same es tag =
    let f : TaggedFields = taken es no_fields in
    let sid : unwrap_or f.sid (replicate 16 0) ≡ bytes_or (replicate 16 0) (last_of sid_id es) =
    ap (λ (o : Option (List ℕ)). unwrap_or o (replicate 16 0)) (known (λ f. f.sid) sid_id bytes_in (λ e f. refl) es no_fields) ∙ bytes_same (last_of sid_id es) (replicate 16 0) in
    let flags : unwrap_or f.flags 0 ≡ number_or 0 (last_of flags_id es) = number_known (λ f. f.flags) flags_id refl (λ e f. refl) es 0 in
    let gno : unwrap_or f.gno 0 ≡ number_or 0 (last_of gno_id es) = number_known (λ f. f.gno) gno_id refl (λ e f. refl) es 0 in
    let committed : unwrap_or f.last_committed 0 ≡ number_or 0 (last_of last_committed_id es) = number_known (λ f. f.last_committed) last_committed_id refl (λ e f. refl) es 0 in
    let number : unwrap_or f.sequence_number 0 ≡ number_or 0 (last_of sequence_number_id es) = number_known (λ f. f.sequence_number) sequence_number_id refl (λ e f. refl) es 0 in
    let time : unwrap_or f.immediate_commit_timestamp 0 ≡ number_or 0 (last_of immediate_commit_timestamp_id es) = number_known (λ f. f.immediate_commit_timestamp) immediate_commit_timestamp_id refl (λ e f. refl) es 0 in
    let original : unwrap_or f.original_commit_timestamp (unwrap_or f.immediate_commit_timestamp 0) ≡ number_or (number_or 0 (last_of immediate_commit_timestamp_id es)) (last_of original_commit_timestamp_id es) =
    ap (λ (n : ℕ). unwrap_or f.original_commit_timestamp n) time ∙ number_known (λ f. f.original_commit_timestamp) original_commit_timestamp_id refl (λ e f. refl) es (number_or 0 (last_of immediate_commit_timestamp_id es)) in
    let long : unwrap_or f.tx_length 0 ≡ number_or 0 (last_of transaction_length_id es) = number_known (λ f. f.tx_length) transaction_length_id refl (λ e f. refl) es 0 in
    let version : unwrap_or f.immediate_server_version 999999 ≡ number_or 999999 (last_of immediate_server_version_id es) = number_known (λ f. f.immediate_server_version) immediate_server_version_id refl (λ e f. refl) es 999999 in
    let older : unwrap_or f.original_server_version (unwrap_or f.immediate_server_version 999999) ≡ number_or (number_or 999999 (last_of immediate_server_version_id es)) (last_of original_server_version_id es) =
    ap (λ (n : ℕ). unwrap_or f.original_server_version n) version ∙ number_known (λ f. f.original_server_version) original_server_version_id refl (λ e f. refl) es (number_or 999999 (last_of immediate_server_version_id es)) in
    let ticket : unwrap_or f.commit_group_ticket 0 ≡ number_or 0 (last_of commit_group_ticket_id es) = number_known (λ f. f.commit_group_ticket) commit_group_ticket_id refl (λ e f. refl) es 0 in
    cc

known_by : (es : List Entry) (o : Option Value) → last_of tag_id es ≡ o → event_if (seen_last bytes_in o None) (taken es no_fields) ≡ with_tag o es
known_by es (Some v) e = ap (λ (g : GtidEvent). Ok g) (event_same es (bytes_in v))
known_by es None e = refl

-- The event with the fields that were read is the event of the format.
pub event_taken : (h : Head) (es : List Entry) → event_known (taken es no_fields) ≡ tagged_of (h, es)
event_taken h es =
    ap (λ (o : Option (List ℕ)). event_if o (taken es no_fields)) (known (λ f. f.tag) tag_id bytes_in (λ e f. refl) es no_fields)
    ∙ known_by es (last_of tag_id es) refl
