-- A GTID with a tag whose fields fit is so short that its payload size fits two bytes.
use Rattle.std.proofs.Common.{ℕ, ◌+◌, ◌≤◌, ◌++◌, length, arith, ◌*◌, List, [], ◌∷◌, ◌≡◌, inr, Bool, true, false, cond, inl, ◌<◌, eqb}
use Rattle.std.proofs.lemmas.List.{length-append}
use Rattle.binlog_variable_fields.specs.Varlen.{varlen_written}
use Rattle.binlog_variable_fields.specs.Laws.VarlenWriting.{varlen_most}
use Rattle.binlog_variable_fields.specs.Repeated.{each_written}
use Rattle.binlog_gtids.specs.FieldIds.{flags_id, sid_id, gno_id, tag_id, last_committed_id, sequence_number_id, immediate_commit_timestamp_id, original_commit_timestamp_id, transaction_length_id, immediate_server_version_id, original_server_version_id, commit_group_ticket_id}
use Rattle.binlog_gtids.specs.TaggedFields.{entry, Entry}
use Rattle.binlog_gtids.specs.declared.gtid_event.GtidEvent.{GtidEvent}
use Rattle.binlog_gtids.specs.Tagged.{entries_by, tag_in, entries_written}

pair : (id n : ℕ) → length (varlen_written id ++ varlen_written n) ≤ 18
pair id n = omega (arith, length-append (varlen_written id) (varlen_written n), varlen_most id, varlen_most n)

each_nine : (s : List ℕ) → length (each_written varlen_written s) ≤ 9 * length s
each_nine [] = omega arith
each_nine (b ∷ s) = omega (arith, length-append (varlen_written b) (each_written varlen_written s), varlen_most b, each_nine s)

sid_few : (s : List ℕ) → length s ≡ 16 → length (entry.written (sid_id, inr s)) ≤ 153
sid_few s e = omega (arith, length-append (varlen_written sid_id) (each_written varlen_written s), varlen_most sid_id, each_nine s, e)

tag_few : (t : List ℕ) → length t ≤ 32 → length (entry.written (tag_id, inr t)) ≤ 50
tag_few t e = omega (arith, length-append (varlen_written tag_id) (varlen_written (length t) ++ t), length-append (varlen_written (length t)) t, varlen_most tag_id, varlen_most (length t), e)

-- one more field
more : (e : Entry) (es : List Entry) (k l : ℕ) → length (entry.written e) ≤ k → length (each_written entry.written es) ≤ l → length (each_written entry.written (e ∷ es)) ≤ k + l
more e es k l h i = omega (arith, length-append (entry.written e) (each_written entry.written es), h, i)

maybe : (b : Bool) (e : Entry) (es : List Entry) (k l : ℕ) → length (entry.written e) ≤ k → length (each_written entry.written es) ≤ l → length (each_written entry.written (cond b es (e ∷ es))) ≤ k + l
maybe true e es k l h i = omega (arith, i)
maybe false e es k l h i = more e es k l h i

pub few_by : (g : GtidEvent) (a b c : Bool) → length g.sid ≡ 16 → length (tag_in g.tag) ≤ 32 → length (each_written entry.written (entries_by a b c g)) ≤ 400
few_by g a b c sid tag =
    let ticket : List Entry = cond c [] ((commit_group_ticket_id, inl g.commit_group_ticket) ∷ []) in
    let tickets : length (each_written entry.written ticket) ≤ 18 + 0 = maybe c (commit_group_ticket_id, inl g.commit_group_ticket) [] 18 0 (pair commit_group_ticket_id g.commit_group_ticket) (omega arith) in
    let original : List Entry = cond b ticket ((original_server_version_id, inl g.original_server_version) ∷ ticket) in
    let originals : length (each_written entry.written original) ≤ 18 + 18 = maybe b (original_server_version_id, inl g.original_server_version) ticket 18 18 (pair original_server_version_id g.original_server_version) tickets in
    let versions : List Entry = (immediate_server_version_id, inl g.immediate_server_version) ∷ original in
    let v : length (each_written entry.written versions) ≤ 18 + 36 = more (immediate_server_version_id, inl g.immediate_server_version) original 18 36 (pair immediate_server_version_id g.immediate_server_version) originals in
    let lengths : List Entry = (transaction_length_id, inl g.tx_length) ∷ versions in
    let l : length (each_written entry.written lengths) ≤ 18 + 54 = more (transaction_length_id, inl g.tx_length) versions 18 54 (pair transaction_length_id g.tx_length) v in
    let time : List Entry = cond a lengths ((original_commit_timestamp_id, inl g.original_commit_timestamp) ∷ lengths) in
    let t : length (each_written entry.written time) ≤ 18 + 72 = maybe a (original_commit_timestamp_id, inl g.original_commit_timestamp) lengths 18 72 (pair original_commit_timestamp_id g.original_commit_timestamp) l in
    let e6 : List Entry = (immediate_commit_timestamp_id, inl g.immediate_commit_timestamp) ∷ time in
    let l6 : length (each_written entry.written e6) ≤ 18 + 90 = more (immediate_commit_timestamp_id, inl g.immediate_commit_timestamp) time 18 90 (pair immediate_commit_timestamp_id g.immediate_commit_timestamp) t in
    let e5 : List Entry = (sequence_number_id, inl g.sequence_number) ∷ e6 in
    let l5 : length (each_written entry.written e5) ≤ 18 + 108 = more (sequence_number_id, inl g.sequence_number) e6 18 108 (pair sequence_number_id (2 * g.sequence_number)) l6 in
    let e4 : List Entry = (last_committed_id, inl g.last_committed) ∷ e5 in
    let l4 : length (each_written entry.written e4) ≤ 18 + 126 = more (last_committed_id, inl g.last_committed) e5 18 126 (pair last_committed_id (2 * g.last_committed)) l5 in
    let e3 : List Entry = (tag_id, inr (tag_in g.tag)) ∷ e4 in
    let l3 : length (each_written entry.written e3) ≤ 50 + 144 = more (tag_id, inr (tag_in g.tag)) e4 50 144 (tag_few (tag_in g.tag) tag) l4 in
    let e2 : List Entry = (gno_id, inl g.gno) ∷ e3 in
    let l2 : length (each_written entry.written e2) ≤ 18 + 194 = more (gno_id, inl g.gno) e3 18 194 (pair gno_id (2 * g.gno)) l3 in
    let e1 : List Entry = (sid_id, inr g.sid) ∷ e2 in
    let l1 : length (each_written entry.written e1) ≤ 153 + 212 = more (sid_id, inr g.sid) e2 153 212 (sid_few g.sid sid) l2 in
    let l0 : length (each_written entry.written ((flags_id, inl g.flags) ∷ e1)) ≤ 18 + 365 = more (flags_id, inl g.flags) e1 18 365 (pair flags_id g.flags) l1 in
    omega (arith, l0)

pub few_bytes : (g : GtidEvent) → length g.sid ≡ 16 → length (tag_in g.tag) ≤ 32 → length (entries_written g) + 4 < 16384
few_bytes g sid tag =
    let few : length (entries_written g) ≤ 400 = few_by g (eqb g.immediate_commit_timestamp g.original_commit_timestamp) (eqb g.immediate_server_version g.original_server_version) (eqb 0 g.commit_group_ticket) sid tag in
    omega (arith, few)
