-- A GTID that writing doesn't refuse fits its format.
use Rattle.std.proofs.Common.{◌≡◌, Bool, true, false, None, [], ◌∷◌, refl, ℕ, ◌^◌, ◌<◌, arith, cond, eqb, ltb, List, suc, ◌≤◌, inl, length}
use Rattle.std.proofs.lemmas.Bool.{ltb-true, eqb-true, lt-ltb}
use Rattle.binlog_wire.specs.declared.error.Field.{Field}
use Rattle.binlog_wire.specs.declared.error.Field.TheVariants as which
use Rattle.binlog_variable_fields.specs.Announced.{FitsBehind}
use Rattle.binlog_variable_fields.specs.Repeated.{EachFits}
use Rattle.binlog_variable_fields.specs.Tags.{is_tag}
use Rattle.binlog_variable_fields.specs.Laws.Tags.{tag_short}
use Rattle.binlog_gtids.specs.FieldIds.{original_commit_timestamp_id, transaction_length_id, immediate_server_version_id, original_server_version_id, commit_group_ticket_id}
use Rattle.binlog_gtids.specs.Writable.{first_failing, InRange, unwritable_untagged, unwritable_tagged}
use Rattle.binlog_gtids.specs.declared.gtid_event.GtidEvent.{GtidEvent}
use Rattle.binlog_gtids.specs.Untagged.{clock, clock_if, clock_of, FitsUntagged}
use Rattle.binlog_gtids.specs.TaggedFields.{Entry, entry}
use Rattle.binlog_gtids.specs.Tagged.{tag_in, FitsTagged}
use Rattle.binlog_gtids.specs.Laws.TaggedBounds.{few_bytes}

three_hold : (t u v : Bool) (f g h : Field) → first_failing ((t, f) ∷ (u, g) ∷ (v, h) ∷ []) ≡ None → (t ≡ true) × (u ≡ true) × (v ≡ true)
three_hold true true true f g h e = (refl, refl, refl)
three_hold true true false f g h e = absurd cc
three_hold true false v f g h e = absurd cc
three_hold false u v f g h e = absurd cc

wide : (n : ℕ) → n < 2 ^ 64 → n < 256 ^ 8
wide n h = omega (arith, h)

original_fits : (i o : ℕ) (t : Bool) → eqb i o ≡ t → i < 36028797018963968 → cond t true (ltb o 72057594037927936) ≡ true → o < 256 ^ 7
original_fits i o true e less h = let same : i ≡ o = eqb-true _ _ e in omega arith
original_fits i o false e less h = let l : o < 72057594037927936 = ltb-true _ _ h in omega arith

clock_fits : (g : GtidEvent) → InRange g → (b : Bool)
    → cond b
    (first_failing (
    (ltb g.immediate_commit_timestamp 36028797018963968, which.ImmediateCommitTimestamp)
    ∷ (cond (eqb g.immediate_commit_timestamp g.original_commit_timestamp) true (ltb g.original_commit_timestamp 72057594037927936), which.OriginalCommitTimestamp)
    ∷ (ltb g.immediate_server_version 2147483648, which.ImmediateServerVersion) ∷ []))
    None ≡ None
    → FitsBehind clock.Fits (clock_if b (clock_of g))
clock_fits g range false h = tt
clock_fits g range true h =
    let all = three_hold (ltb g.immediate_commit_timestamp 36028797018963968)
    (cond (eqb g.immediate_commit_timestamp g.original_commit_timestamp) true (ltb g.original_commit_timestamp 72057594037927936))
    (ltb g.immediate_server_version 2147483648) which.ImmediateCommitTimestamp which.OriginalCommitTimestamp which.ImmediateServerVersion h in
    let time : g.immediate_commit_timestamp < 36028797018963968 = ltb-true _ _ all.0 in
    let original : g.original_commit_timestamp < 256 ^ 7 = original_fits g.immediate_commit_timestamp g.original_commit_timestamp _ refl time all.1 in
    let version : g.immediate_server_version < 2147483648 = ltb-true _ _ all.2 in
    let late : g.original_server_version < 256 ^ 4 = omega (arith, range.original_server_version) in (
      (wide g.last_committed range.last_committed, wide g.sequence_number range.sequence_number),
      ((time, original), (wide g.tx_length range.tx_length, (version, late))),
    )

-- A GTID without a tag that writing doesn't refuse fits its format.
pub untagged_fits : (g : GtidEvent) → InRange g → g.tag ≡ None → unwritable_untagged g ≡ None → FitsUntagged g
untagged_fits g range none writable =
    let flags : g.flags < 256 ^ 1 = omega (arith, range.flags) in
    (((flags, (range.sid, wide g.gno range.gno)), clock_fits g range g.has_clock writable), none)

-- ---- with a tag

maybe : (b : Bool) (e : Entry) (es : List Entry) → entry.Fits e → EachFits entry.Fits es → EachFits entry.Fits (cond b es (e ∷ es))
maybe true e es h i = i
maybe false e es h i = (h, i)

limited : (n max : ℕ) → n < suc max → suc max ≤ 2 ^ 32 → (n < 256 ^ 8) × (ltb n (suc max) ≡ true)
limited n max less small = (omega arith, lt-ltb _ _ less)

-- A GTID with a tag that has no failing field fits its format.
pub tagged_fits : (g : GtidEvent) → InRange g → is_tag (tag_in g.tag) ≡ true → unwritable_tagged g ≡ None → FitsTagged g
tagged_fits g range tag writable =
    let all = three_hold (ltb g.gno (9223372036854775808)) (ltb g.last_committed (9223372036854775808)) (ltb g.sequence_number (9223372036854775808)) which.Gno which.LastCommitted which.SequenceNumber writable in
    let gno : g.gno < 9223372036854775808 = ltb-true _ _ all.0 in
    let committed : g.last_committed < 9223372036854775808 = ltb-true _ _ all.1 in
    let number : g.sequence_number < 9223372036854775808 = ltb-true _ _ all.2 in
    let short : length (tag_in g.tag) ≤ 32 = tag_short (tag_in g.tag) tag in
    let ticket : List Entry = cond (eqb 0 g.commit_group_ticket) [] ((commit_group_ticket_id, inl g.commit_group_ticket) ∷ []) in
    let tickets : EachFits entry.Fits ticket = maybe (eqb 0 g.commit_group_ticket) (commit_group_ticket_id, inl g.commit_group_ticket) [] (omega arith, wide g.commit_group_ticket range.commit_group_ticket) tt in
    let version : List Entry = cond (eqb g.immediate_server_version g.original_server_version) ticket ((original_server_version_id, inl g.original_server_version) ∷ ticket) in
    let versions : EachFits entry.Fits version = maybe (eqb g.immediate_server_version g.original_server_version) (original_server_version_id, inl g.original_server_version) ticket (omega arith, limited g.original_server_version 4294967295 range.original_server_version (omega arith)) tickets in
    let long : List Entry = (transaction_length_id, inl g.tx_length) ∷ (immediate_server_version_id, inl g.immediate_server_version) ∷ version in
    let lengths : EachFits entry.Fits long = ((omega arith, wide g.tx_length range.tx_length), ((omega arith, limited g.immediate_server_version 4294967295 range.immediate_server_version (omega arith)), versions)) in
    let times : EachFits entry.Fits (cond (eqb g.immediate_commit_timestamp g.original_commit_timestamp) long ((original_commit_timestamp_id, inl g.original_commit_timestamp) ∷ long)) =
    maybe (eqb g.immediate_commit_timestamp g.original_commit_timestamp) (original_commit_timestamp_id, inl g.original_commit_timestamp) long (omega arith, wide g.original_commit_timestamp range.original_commit_timestamp) lengths in (
      (
        (omega arith, limited g.flags 255 range.flags (omega arith)),
        (
          (omega arith, (range.sid, range.sid_bytes)),
          (
            (omega arith, gno),
            (
              (omega arith, ((omega arith, refl), tag)),
              ((omega arith, committed), ((omega arith, number), ((omega arith, wide g.immediate_commit_timestamp range.immediate_commit_timestamp), times))),
            ),
          ),
        ),
      ),
      few_bytes g range.sid short,
    )
