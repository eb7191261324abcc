-- A GTID with a tag, written part by part: its bytes are those of its fields, and so is their number.
use Rattle.std.proofs.Common.{◌≡◌, ℕ, ◌+◌, List, [], ◌++◌, append_assoc, ◌*◌, Bool, true, false, cond, refl, eqb, Option, Some, ap, ◌∙◌, length, arith, ◌<◌, ◌∷◌, sym}
use Rattle.std.proofs.lemmas.List.{append-nil, length-append}
use Rattle.binlog_variable_fields.specs.Repeated.{each_written}
use Rattle.binlog_variable_fields.specs.Sized.{least_size}
use Rattle.binlog_variable_fields.specs.Laws.Sized.{least_size_solves}
use Rattle.binlog_variable_fields.specs.Varlen.{varlen_written}
use Rattle.binlog_gtids.specs.FieldIds.{flags_id, gno_id, last_committed_id, sequence_number_id, immediate_commit_timestamp_id, original_commit_timestamp_id, transaction_length_id, immediate_server_version_id, original_server_version_id, commit_group_ticket_id}
use Rattle.binlog_gtids.specs.declared.gtid_event.GtidEvent.{GtidEvent}
use Rattle.binlog_gtids.specs.TaggedFields.{entry}
use Rattle.binlog_gtids.specs.Tagged.{tag_in, entries_by, entries_written, head, written_size}
use Rattle.binlog_gtids.specs.TaggedWriting.{number_field, sid_field, tag_field, changed_field, first_fields, last_fields}
use Rattle.binlog_gtids.specs.Formats.{tagged}
use Rattle.binlog_gtids.specs.Laws.Tagged.{whole_size}

-- ---- these are the bytes of the fields

split_twelve : (a b c d e f g h i j k l : List ℕ)
    → a ++ (b ++ (c ++ (d ++ (e ++ (f ++ (g ++ (h ++ (i ++ (j ++ (k ++ (l ++ [])))))))))))
    ≡ (a ++ (b ++ (c ++ (d ++ (e ++ f))))) ++ (g ++ (h ++ (i ++ (j ++ (k ++ l)))))
split_twelve a b c d e f g h i j k l = simp (append_assoc, append-nil)

bytes_by : (g : GtidEvent) (x y z : Bool)
    → each_written entry.written (entries_by x y z g)
    ≡ number_field flags_id g.flags ++ (sid_field g.sid ++ (number_field gno_id (2 * g.gno) ++ (tag_field (tag_in g.tag) ++ (number_field last_committed_id (2 * g.last_committed)
    ++ (number_field sequence_number_id (2 * g.sequence_number) ++ (number_field immediate_commit_timestamp_id g.immediate_commit_timestamp ++ (cond x [] (number_field original_commit_timestamp_id g.original_commit_timestamp)
    ++ (number_field transaction_length_id g.tx_length ++ (number_field immediate_server_version_id g.immediate_server_version ++ (cond y [] (number_field original_server_version_id g.original_server_version)
    ++ (cond z [] (number_field commit_group_ticket_id g.commit_group_ticket) ++ [])))))))))))
bytes_by g true true true = refl
bytes_by g true true false = refl
bytes_by g true false true = refl
bytes_by g true false false = refl
bytes_by g false true true = refl
bytes_by g false true false = refl
bytes_by g false false true = refl
bytes_by g false false false = refl

pub fields_bytes : (g : GtidEvent) (tag : List ℕ) → g.tag ≡ Some tag → entries_written g ≡ first_fields g tag ++ last_fields g
fields_bytes g tag e =
    bytes_by g (eqb g.immediate_commit_timestamp g.original_commit_timestamp) (eqb g.immediate_server_version g.original_server_version) (eqb 0 g.commit_group_ticket)
    ∙ split_twelve (number_field flags_id g.flags) (sid_field g.sid) (number_field gno_id (2 * g.gno)) (tag_field (tag_in g.tag)) (number_field last_committed_id (2 * g.last_committed))
    (number_field sequence_number_id (2 * g.sequence_number)) (number_field immediate_commit_timestamp_id g.immediate_commit_timestamp) (changed_field original_commit_timestamp_id g.immediate_commit_timestamp g.original_commit_timestamp)
    (number_field transaction_length_id g.tx_length) (number_field immediate_server_version_id g.immediate_server_version) (changed_field original_server_version_id g.immediate_server_version g.original_server_version) (changed_field commit_group_ticket_id 0 g.commit_group_ticket)
    ∙ ap (λ (o : Option (List ℕ)). first_fields g (tag_in o) ++ last_fields g) e

-- ---- lengths

pub six_length : (a b c d e f : List ℕ) → length (a ++ (b ++ (c ++ (d ++ (e ++ f))))) ≡ length a + length b + length c + length d + length e + length f
six_length a b c d e f =
    omega (arith, length-append a (b ++ (c ++ (d ++ (e ++ f)))), length-append b (c ++ (d ++ (e ++ f))), length-append c (d ++ (e ++ f)), length-append d (e ++ f), length-append e f)

-- Parts appended one after the other.
pub put_six : (s a b c d e f p q r t u v : List ℕ) → p ≡ s ++ a → q ≡ p ++ b → r ≡ q ++ c → t ≡ r ++ d → u ≡ t ++ e → v ≡ u ++ f
    → v ≡ s ++ (a ++ (b ++ (c ++ (d ++ (e ++ f)))))
put_six s a b c d e f p q r t u v ha hb hc hd he hf = rw (hf, he, hd, hc, hb, ha) (simp append_assoc)

-- The body has the length that its payload size states.
pub tagged_length : (g : GtidEvent) → length (entries_written g) + 4 < 16384 → length (tagged.written g) ≡ written_size g
tagged_length g few =
    let n : ℕ = 2 + length (entries_written g) in
    length-append (head.written (2, (written_size g, 0))) (entries_written g)
    ∙ whole_size n (least_size n) (least_size_solves n (omega arith)) (length (entries_written g)) refl

-- The length of these fields is that of the written ones.
pub fields_length : (g : GtidEvent) (tag : List ℕ) → g.tag ≡ Some tag → length (entries_written g) ≡ length (first_fields g tag) + length (last_fields g)
fields_length g tag e = ap length (fields_bytes g tag e) ∙ length-append (first_fields g tag) (last_fields g)

-- The head, and then the fields.
pub put_whole : (g : GtidEvent) (tag s p q r t u : List ℕ) (size : ℕ) → g.tag ≡ Some tag → size ≡ written_size g
    → p ≡ s ++ 2 ∷ [] → q ≡ p ++ varlen_written size → r ≡ q ++ varlen_written 0 → t ≡ r ++ first_fields g tag → u ≡ t ++ last_fields g → u ≡ s ++ tagged.written g
put_whole g tag s p q r t u size has is hp hq hr ht hu =
    let first : List ℕ = first_fields g tag in
    let rest : List ℕ = last_fields g in
    let chain : u ≡ s ++ ((2 ∷ (varlen_written size ++ varlen_written 0)) ++ (first ++ rest)) = rw (hu, ht, hr, hq, hp) (simp append_assoc) in
    chain
    ∙ ap (λ (n : ℕ). s ++ ((2 ∷ (varlen_written n ++ varlen_written 0)) ++ (first ++ rest))) is
    ∙ ap (λ (b : List ℕ). s ++ ((2 ∷ (varlen_written (written_size g) ++ varlen_written 0)) ++ b)) (sym (fields_bytes g tag has))

pub whole_length : (g : GtidEvent) (tag : List ℕ) (size : ℕ) → g.tag ≡ Some tag → size ≡ written_size g
    → length (tagged.written g) ≡ 1 + length (varlen_written size) + length (varlen_written 0) + length (first_fields g tag) + length (last_fields g)
whole_length g tag size has is =
    let first : List ℕ = first_fields g tag in
    let rest : List ℕ = last_fields g in
    let marks : List ℕ = varlen_written size ++ varlen_written 0 in
    let bytes : tagged.written g ≡ (2 ∷ marks) ++ (first ++ rest) =
    sym (ap (λ (n : ℕ). (2 ∷ (varlen_written n ++ varlen_written 0)) ++ (first ++ rest)) is
    ∙ ap (λ (b : List ℕ). (2 ∷ (varlen_written (written_size g) ++ varlen_written 0)) ++ b) (sym (fields_bytes g tag has))) in
    let long : length (tagged.written g) ≡ length ((2 ∷ marks) ++ (first ++ rest)) = ap length bytes in
    omega (arith, long, length-append (2 ∷ marks) (first ++ rest), length-append (varlen_written size) (varlen_written 0), length-append first rest)
