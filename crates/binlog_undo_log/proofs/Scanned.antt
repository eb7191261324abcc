-- What a pass that refused nothing has scanned.
use Rattle.std.proofs.Common.{◌≡◌, ℕ, ◌+◌, ◌⊎◌, Bool, true, false, List, [], ◌∷◌, ◌++◌, Option, Some, None, Result, Ok, Err, refl, sym, ◌∙◌, ap, subst, inl, inr, eqb-true}
use Rattle.binlog_events.specs.Events.{EventView}
use Rattle.binlog_events.specs.Parts.{is_description}
use Rattle.binlog_consts.specs.declared.version.BinlogVersion.TheVariants.{Version4}
use Rattle.binlog_event_format.specs.declared.format_description.FormatDescriptionEvent.{FormatDescriptionEvent}
use Rattle.binlog_file.specs.State.{StreamState, first_state}
use Rattle.binlog_file.specs.TableMapsInForce.{TableMaps, no_table_maps}
use Rattle.binlog_filters.specs.Taking.{FollowsEvent}
use Rattle.binlog_payloads.specs.Decompressed.{content_behind}
use Rattle.binlog_payloads.specs.InnerEvents.{inner_fde}
use Rattle.binlog_transactions.specs.Pieces.{step}
use Rattle.binlog_transactions.specs.declared.mark.Mark.{Mark}
use Rattle.binlog_transactions.specs.declared.mark.Mark.TheVariants as marks
use Rattle.binlog_transactions.specs.declared.refusal.Refusal.TheVariants as refusals
use Rattle.binlog_transactions.specs.declared.transaction.Transaction.{Transaction}
use Rattle.binlog_undo.specs.declared.inverse_event.ForeignKeyChecks.{ForeignKeyChecks}
use Rattle.binlog_undo_index.proofs.Keeping.{kept_from_first}
use Rattle.binlog_undo_index.specs.Groups.{told_events, open_behind}
use Rattle.binlog_undo_index.specs.Index.{parts_for}
use Rattle.binlog_undo_index.specs.Parts.{Parts, parts_of, no_parts, noted_all}
use Rattle.binlog_undo_index.specs.declared.index.UndoIndex.{UndoIndex}
use Rattle.binlog_undo_index.specs.declared.places.TransactionPlace.{TransactionPlace}
use Rattle.binlog_undo_index.specs.declared.reason.Reason.{Reason}
use Rattle.binlog_undo_index.specs.declared.reason.Reason.TheVariants as reasons
use Rattle.binlog_undo_index.specs.declared.reason.Refused.{Refused as RefusedAt}
use Rattle.binlog_undo_index.specs.declared.rules.Rules.{Rules}
use Rattle.binlog_undo_index.specs.declared.seen.SeenEvent.{SeenEvent}
use Rattle.binlog_undo_index.specs.declared.skips.Skips.{Skips}
use Rattle.binlog_undo_log.specs.Choices.{rules_of}
use Rattle.binlog_undo_log.specs.Files.{IsFresh, scans, refuses, ScansWhole, AreSeen, groups_of, AreSkipped, IsScanned}
use Rattle.binlog_undo_log.specs.Contents.{AreInside, SeesContent, ScansContent, ScansInsideOf, SeesWhole, ScansAny, ScansEvent, SeesEvent, ScansUnless, ScansItem, border_of, in_front, span_of}
use Rattle.binlog_undo_log.specs.Scanning.{refused_at, Stops, DescribesBehind, DescribesIf, NotesIn, Notes, NotesMark, NotesIf, border_at, has_no_tail, is_past_stop, Closes, EndsIfWhole, EndsScan}
use Rattle.binlog_undo_log.specs.declared.scan.content.Span.{Span}
use Rattle.binlog_undo_log.specs.declared.choice.Choice.{Choice}
use Rattle.binlog_undo_log.specs.declared.scan.UndoScan.{UndoScan}
use Rattle.binlog_visits.specs.TableMaps.{maps_behind}
use Rattle.binlog_visits.specs.Places.{first_place}
use Rattle.binlog_visits.specs.Visits.{Visits, VisitsVerifiedLog, HasTailAt}
use Rattle.binlog_wire.specs.declared.error.Error.{Error}
use Rattle.crc32_ieee.specs.Checksums.{IsCrc32}
use Rattle.std.specs.Prelude.{◌||◌}

-- ---- truth values

pub not_both : (b : Bool) → b ≡ true → b ≡ false → ⊥
not_both b is other = cc

one_of : (b : Bool) → (b ≡ true) ⊎ (b ≡ false)
one_of true = inl refl
one_of false = inr refl

no_tail : (tail_len : Option ℕ) → has_no_tail tail_len ≡ true → tail_len ≡ Some 0
no_tail None h = absurd cc
no_tail (Some tail_len) h = ap (λ (n : ℕ). Some n) (eqb-true tail_len 0 h)

-- ---- a pass that ends

pub stopped : (index : ℕ) (reason : Reason) (old new : UndoScan) → Stops index reason old new → new.is_stopped ≡ true
stopped index reason old new h = ap (λ (s : UndoScan). s.is_stopped) h.is

last_skipped : (refusals : List RefusedAt) (last : RefusedAt) → AreSkipped (refusals ++ last ∷ []) → last.is_skipped ≡ true
last_skipped [] last h = h.0
last_skipped (first ∷ refusals) last h = last_skipped refusals last h.1

not_skipped : (index : ℕ) (reason : Reason) (old new : UndoScan) → Stops index reason old new → AreSkipped (parts_of new.index).refusals → ⊥
not_skipped index reason old new h skipped =
    let are : AreSkipped ((parts_of old.index).refusals ++ refused_at index old.place reason ∷ []) =
    subst (λ (r : List RefusedAt). AreSkipped r) (ap (λ (p : Parts). p.refusals) h.parts) skipped in
    let last : false ≡ true = last_skipped (parts_of old.index).refusals (refused_at index old.place reason) are in
    cc

-- An event is noted, or ends the pass.
pub noted_or : (mark : Mark) (index : ℕ) (event : EventView) (seen : SeenEvent) (old new : UndoScan) → NotesMark mark index event seen old new
    → Notes index event seen old new ⊎ Stops index (reasons.Transaction refusals.Encrypted) old new
noted_or marks.Encryption index event seen old new h = inr h
noted_or marks.Nothing index event seen old new h = inl h
noted_or marks.Border index event seen old new h = inl h
noted_or (marks.Gtid gtid) index event seen old new h = inl h
noted_or (marks.Statement kind) index event seen old new h = inl h
noted_or marks.Xid index event seen old new h = inl h
noted_or marks.TableMap index event seen old new h = inl h
noted_or (marks.Rows rows) index event seen old new h = inl h
noted_or (marks.Unsupported event_kind) index event seen old new h = inl h

-- ---- where each refusal is skipped, the pass goes on

abbrev Fine : UndoScan → Type 0
Fine scan = (scan.is_stopped ≡ false) ⊎ (AreSkipped (parts_of scan.index).refusals → ⊥)

described_fine : (transactions : List TransactionPlace) (index : ℕ) (old new : UndoScan) → old.is_stopped ≡ false → DescribesBehind transactions index old new → Fine new
described_fine [] index old new goes h = inl (ap (λ (s : UndoScan). s.is_stopped) h ∙ goes)
described_fine (transaction ∷ transactions) index old new goes h = inr (not_skipped index reasons.Description old new h)

described_if_fine : (is : Bool) (index : ℕ) (old new : UndoScan) → old.is_stopped ≡ false → DescribesIf is index old new → Fine new
described_if_fine true index old new goes h = described_fine (parts_of old.index).transactions index old new goes h
described_if_fine false index old new goes h = inl (ap (λ (s : UndoScan). s.is_stopped) h ∙ goes)

note_fine : (index : ℕ) (event : EventView) (seen : SeenEvent) (old new : UndoScan) → old.is_stopped ≡ false → Notes index event seen old new → Fine new
note_fine index event seen old new goes h =
    let between : Fine h.between = described_if_fine (is_description event.frame) index (record old { index = h.told }) h.between goes h.describes in
    subst (λ (s : UndoScan). Fine s) (sym h.is) between

notes_fine : (seen : Option SeenEvent) (index : ℕ) (event : EventView) (old new : UndoScan) → old.is_stopped ≡ false → NotesIf index event seen old new → Fine new
notes_fine None index event old new goes h = inr (not_skipped index reasons.Damaged old new h)
notes_fine (Some seen) index event old new goes h =
    elim (noted_or seen.mark index event seen old new h)
    [ inl n ↦ note_fine index event seen old new goes n | inr s ↦ inr (not_skipped index (reasons.Transaction refusals.Encrypted) old new s) ]

-- ---- what the index is told of

abbrev pub AreTold : UndoIndex → List SeenEvent → UndoIndex → Type 0
AreTold old [] new = new ≡ old
AreTold old (event ∷ events) new = (mid : UndoIndex) × NotesIn event old mid × AreTold mid events new

pub told_more : (events : List SeenEvent) (last : SeenEvent) (old mid new : UndoIndex) → AreTold old events mid → NotesIn last mid new → AreTold old (events ++ last ∷ []) new
told_more [] last old mid new h k = (new, subst (λ (i : UndoIndex). NotesIn last i new) h k, refl)
told_more (event ∷ events) last old mid new h k = (h.0, h.1, told_more events last h.0 mid new h.2 k)

told_parts : (events : List SeenEvent) (old new : UndoIndex) → AreTold old events new → parts_of new ≡ noted_all old.automaton.current events (parts_of old)
told_parts [] old new h = ap (λ (i : UndoIndex). parts_of i) h
told_parts (event ∷ events) old new h =
    told_parts events h.0 new h.2 ∙ ap (λ (c : Option Transaction). noted_all c events (parts_of h.0)) h.1.automaton
    ∙ ap (λ (p : Parts). noted_all (step old.automaton.current event.mark).1 events p) h.1.parts

described_index : (transactions : List TransactionPlace) (index : ℕ) (old new : UndoScan) → new.is_stopped ≡ false → DescribesBehind transactions index old new → new.index ≡ old.index
described_index [] index old new goes h = ap (λ (s : UndoScan). s.index) h
described_index (transaction ∷ transactions) index old new goes h = absurd (not_both new.is_stopped (stopped index reasons.Description old new h) goes)

described_if_index : (is : Bool) (index : ℕ) (old new : UndoScan) → new.is_stopped ≡ false → DescribesIf is index old new → new.index ≡ old.index
described_if_index true index old new goes h = described_index (parts_of old.index).transactions index old new goes h
described_if_index false index old new goes h = ap (λ (s : UndoScan). s.index) h

note_told : (index : ℕ) (event : EventView) (seen : SeenEvent) (old new : UndoScan) → new.is_stopped ≡ false → Notes index event seen old new → NotesIn seen old.index new.index
note_told index event seen old new goes h =
    let between : h.between.is_stopped ≡ false = sym (ap (λ (s : UndoScan). s.is_stopped) h.is) ∙ goes in
    let same : h.between.index ≡ h.told = described_if_index (is_description event.frame) index (record old { index = h.told }) h.between between h.describes in
    subst (λ (i : UndoIndex). NotesIn seen old.index i) (sym (ap (λ (s : UndoScan). s.index) h.is ∙ same)) h.notes

pub told_over : (events others : List SeenEvent) (old mid new : UndoIndex) → AreTold old events mid → AreTold mid others new → AreTold old (events ++ others) new
told_over [] others old mid new h k = subst (λ (i : UndoIndex). AreTold i others new) h k
told_over (event ∷ events) others old mid new h k = (h.0, h.1, told_over events others h.0 mid new h.2 k)

-- What is inside an event is told, and the pass goes on.
inside_told : (span : Span) (state : StreamState) (index : ℕ) (d : FormatDescriptionEvent) (frames : List (List ℕ)) (seen : List SeenEvent) (old new : UndoScan)
    → AreInside span state index d frames seen old new → AreTold old.index seen new.index × (new.is_stopped ≡ old.is_stopped)
inside_told span state index d [] seen old new h =
    (subst (λ (s : List SeenEvent). AreTold old.index s new.index) (sym h.0) (ap (λ (s : UndoScan). s.index) h.1), ap (λ (s : UndoScan). s.is_stopped) h.1)
inside_told span state index d (frame ∷ frames) seen old new h =
    let first : SeenEvent = h.0 in
    let others : List SeenEvent = h.1 in
    let mid : UndoScan = h.2 in
    let more = inside_told span (content_behind state frame) index d frames others mid new h.5 in (
      subst (λ (s : List SeenEvent). AreTold old.index s new.index) (sym h.3) (mid.index, h.4.notes, more.0),
      more.1 ∙ ap (λ (s : UndoScan). s.is_stopped) h.4.passes,
    )

content_told : (index : ℕ) (event : EventView) (content : List ℕ) (own : List SeenEvent) (old new : UndoScan) → SeesContent index event content own old new
    → AreTold old.index own new.index × (new.is_stopped ≡ old.is_stopped)
content_told index event content own old new h =
    let span : Span = span_of old event in
    let within = inside_told span (first_state Version4) index (inner_fde event.fde) h.all.first.frames h.seen (in_front old) h.behind h.all.first.are in (
      subst (λ (s : List SeenEvent). AreTold old.index s new.index) (sym h.own_are) (told_more h.seen (border_of span index) old.index h.behind.index new.index within.0 h.ends.notes),
      ap (λ (s : UndoScan). s.is_stopped) h.ends.is ∙ within.1,
    )

-- An item of a pass that goes on is an event, which is noted, or the events inside are.
pub record IsOneSeen (maps : TableMaps) (index : ℕ) (item : Result EventView Error) (old new : UndoScan) : Type 0 where
  pub event : EventView
  pub own : List SeenEvent
  pub is : item ≡ Ok event
  pub scanned : SeesEvent maps index event own old new
  pub told : AreTold old.index own new.index

module _ (maps : TableMaps) (index : ℕ) (event : EventView) (old : UndoScan) (wanted : Bool) (follows : FollowsEvent old.choice.transactions old.is_wanted event (Ok wanted)) where
  whole_seen : (seen : Option SeenEvent) (new : UndoScan) → new.is_stopped ≡ false → SeesWhole maps index event seen (record old { is_wanted = wanted }) new
      → IsOneSeen maps index (Ok event) old new
  whole_seen None new goes h = absurd (not_both new.is_stopped (stopped index reasons.Damaged (record old { is_wanted = wanted }) new h.notes) goes)
  whole_seen (Some seen) new goes h =
      let was : UndoScan = record old { is_wanted = wanted } in
      let told : NotesIn seen old.index new.index =
      elim (noted_or seen.mark index event seen was new h.notes) [
        | inl n ↦ note_told index event seen was new goes n
        | inr s ↦ absurd (not_both new.is_stopped (stopped index (reasons.Transaction refusals.Encrypted) was new s) goes)
      ] in
      record { event = event; own = seen ∷ []; is = refl; scanned = record { wanted = wanted; follows = follows; sees = inl (seen, refl, h) }; told = (new.index, told, refl) }

-- What an item makes of a pass that goes on: it is seen, and the pass goes on; or the pass ends in front of it at the stop position; or
-- something is refused that isn't skipped.
abbrev IsAtStop : UndoScan → UndoScan → Type 0
IsAtStop old new = (is_past_stop old ≡ true) × Closes old new

abbrev IsRefused : UndoScan → Type 0
IsRefused scan = (scan.is_stopped ≡ true) × (AreSkipped (parts_of scan.index).refusals → ⊥)

abbrev ItemOutcome : TableMaps → ℕ → Result EventView Error → UndoScan → UndoScan → Type 0
ItemOutcome maps index item old new = (IsOneSeen maps index item old new × (new.is_stopped ≡ false)) ⊎ (IsAtStop old new ⊎ IsRefused new)

refused_of : (index : ℕ) (reason : Reason) (old new : UndoScan) → Stops index reason old new → IsRefused new
refused_of index reason old new h = (stopped index reason old new h, not_skipped index reason old new h)

-- Of an event that is seen as it is.
whole_outcome : (maps : TableMaps) (index : ℕ) (event : EventView) (old new : UndoScan) (wanted : Bool) (seen : Option SeenEvent) → old.is_stopped ≡ false
    → FollowsEvent old.choice.transactions old.is_wanted event (Ok wanted) → SeesWhole maps index event seen (record old { is_wanted = wanted }) new → ItemOutcome maps index (Ok event) old new
whole_outcome maps index event old new wanted seen goes follows h =
    elim (one_of new.is_stopped) [
      | inl stops ↦ elim (notes_fine seen index event (record old { is_wanted = wanted }) new goes h.notes) [
        | inl on ↦ absurd (not_both new.is_stopped stops on)
        | inr none ↦ inr (inr (stops, none))
      ]
      | inr on ↦ inl (whole_seen maps index event old wanted follows seen new on h, on)
    ]

-- Of one with events inside.
inside_outcome : (maps : TableMaps) (index : ℕ) (event : EventView) (old new : UndoScan) (wanted : Bool) → old.is_stopped ≡ false
    → FollowsEvent old.choice.transactions old.is_wanted event (Ok wanted) → (h : ScansInsideOf index event (record old { is_wanted = wanted }) new)
    → ScansContent index event h.content (record old { is_wanted = wanted }) new → ItemOutcome maps index (Ok event) old new
inside_outcome maps index event old new wanted goes follows h (inl all) =
    let was : UndoScan = record old { is_wanted = wanted } in
    let told = content_told index event h.content all.0 was new all.1 in
    inl (
      record {
        event = event;
        own = all.0;
        is = refl;
        scanned = record { wanted = wanted; follows = follows; sees = inr (record { content = h.content; has = h.has; apart = h.apart; sees = all.1 }) };
        told = told.0;
      },
      told.1 ∙ goes,
    )
inside_outcome maps index event old new wanted goes follows h (inr some) = inr (inr (refused_of index reasons.Damaged (record some.behind { place = old.place }) new some.stops))

any_outcome : (maps : TableMaps) (index : ℕ) (event : EventView) (old new : UndoScan) (wanted : Bool) → old.is_stopped ≡ false
    → FollowsEvent old.choice.transactions old.is_wanted event (Ok wanted) → ScansAny maps index event (record old { is_wanted = wanted }) new → ItemOutcome maps index (Ok event) old new
any_outcome maps index event old new wanted goes follows (inl whole) = whole_outcome maps index event old new wanted whole.0 goes follows whole.1
any_outcome maps index event old new wanted goes follows (inr (inl h)) = inside_outcome maps index event old new wanted goes follows h h.scans
any_outcome maps index event old new wanted goes follows (inr (inr none)) = inr (inr (refused_of index reasons.Damaged (record old { is_wanted = wanted }) new none.1))

event_outcome : (maps : TableMaps) (index : ℕ) (event : EventView) (old new : UndoScan) → old.is_stopped ≡ false → ScansEvent maps index event old new
    → ItemOutcome maps index (Ok event) old new
event_outcome maps index event old new goes h = any_outcome maps index event old new h.wanted goes h.follows h.scans

unless_outcome : (past : Bool) (maps : TableMaps) (index : ℕ) (item : Result EventView Error) (old new : UndoScan) → is_past_stop old ≡ past → old.is_stopped ≡ false
    → ScansUnless past maps index item old new → ItemOutcome maps index item old new
unless_outcome true maps index item old new past goes h = inr (inl (past, h))
unless_outcome false maps index (Ok event) old new past goes h = event_outcome maps index event old new goes h
unless_outcome false maps index (Err error) old new past goes h = inr (inr (refused_of index reasons.Damaged old new h))

item_outcome : (is : Bool) (maps : TableMaps) (index : ℕ) (item : Result EventView Error) (old new : UndoScan) → old.is_stopped ≡ is → is ≡ false → ScansItem is maps index item old new
    → ItemOutcome maps index item old new
item_outcome true maps index item old new was goes h = absurd cc
item_outcome false maps index item old new was goes h = unless_outcome (is_past_stop old) maps index item old new refl was h

item_stays : (is : Bool) (maps : TableMaps) (index : ℕ) (item : Result EventView Error) (old new : UndoScan) → is ≡ true → ScansItem is maps index item old new → new ≡ old
item_stays true maps index item old new was h = h
item_stays false maps index item old new was h = absurd cc

visits_stay : (maps : TableMaps) (index : ℕ) (items : List (Result EventView Error)) (old new : UndoScan) → old.is_stopped ≡ true → Visits scans maps index items old new → new ≡ old
visits_stay maps index [] old new was h = h
visits_stay maps index (item ∷ items) old new was h =
    let same : h.0 ≡ old = item_stays old.is_stopped (maps_behind maps item) index item old h.0 was h.1 in
    visits_stay (maps_behind maps item) (index + 1) items h.0 new (ap (λ (s : UndoScan). s.is_stopped) same ∙ was) h.2 ∙ same

-- These first items are seen behind which the pass ended at the stop position, or all.
pub record AreFirstSeen (maps : TableMaps) (index : ℕ) (items : List (Result EventView Error)) (old behind : UndoScan) : Type 0 where
  pub front : List (Result EventView Error)
  pub rest : List (Result EventView Error)
  pub split : items ≡ front ++ rest
  pub seen : List SeenEvent
  pub each : AreSeen maps index front seen old behind
  pub told : AreTold old.index seen behind.index

pub record AreAllSeen (maps : TableMaps) (index : ℕ) (items : List (Result EventView Error)) (old new : UndoScan) : Type 0 where
  pub first : AreFirstSeen maps index items old new
  pub all : first.rest ≡ []
  pub goes : new.is_stopped ≡ false

pub record AreSeenToStop (maps : TableMaps) (index : ℕ) (items : List (Result EventView Error)) (old new : UndoScan) : Type 0 where
  pub behind : UndoScan
  pub first : AreFirstSeen maps index items old behind
  pub at : IsAtStop behind new

abbrev Outcome : TableMaps → ℕ → List (Result EventView Error) → UndoScan → UndoScan → Type 0
Outcome maps index items old new = AreAllSeen maps index items old new ⊎ (AreSeenToStop maps index items old new ⊎ IsRefused new)

abbrev none_seen : (maps : TableMaps) (index : ℕ) (items : List (Result EventView Error)) (scan : UndoScan) → AreFirstSeen maps index items scan scan
none_seen maps index items scan = record { front = []; rest = items; split = refl; seen = []; each = (refl, refl); told = refl }

abbrev seen_before : (maps : TableMaps) (index : ℕ) (item : Result EventView Error) (items : List (Result EventView Error)) (old mid new : UndoScan)
    → IsOneSeen (maps_behind maps item) index item old mid → mid.is_stopped ≡ false → AreFirstSeen (maps_behind maps item) (index + 1) items mid new → AreFirstSeen maps index (item ∷ items) old new
seen_before maps index item items old mid new here goes others = record {
  front = item ∷ others.front;
  rest = others.rest;
  split = ap (λ (all : List (Result EventView Error)). item ∷ all) others.split;
  seen = here.own ++ others.seen;
  each = (here.event, here.own, others.seen, mid, here.is, refl, here.scanned, goes, others.each);
  told = told_over here.own others.seen old.index mid.index new.index here.told others.told;
}

outcome : (maps : TableMaps) (index : ℕ) (items : List (Result EventView Error)) (old new : UndoScan) → old.is_stopped ≡ false → Visits scans maps index items old new
    → Outcome maps index items old new
outcome maps index [] old new goes h = inl (subst (λ (s : UndoScan). AreAllSeen maps index [] old s) (sym h) (record { first = none_seen maps index [] old; all = refl; goes = goes }))
outcome maps index (item ∷ items) old new goes h =
    let behind : TableMaps = maps_behind maps item in
    elim (item_outcome old.is_stopped behind index item old h.0 refl goes h.1) [
      | inl one ↦ elim (outcome behind (index + 1) items h.0 new one.1 h.2) [
        | inl all ↦ inl (record { first = seen_before maps index item items old h.0 new one.0 one.1 all.first; all = all.all; goes = all.goes })
        | inr (inl part) ↦ inr (inl (record { behind = part.behind; first = seen_before maps index item items old h.0 part.behind one.0 one.1 part.first; at = part.at }))
        | inr (inr refused) ↦ inr (inr refused)
      ]
      | inr (inl at) ↦ inr (inl (record {
        behind = old;
        first = none_seen maps index (item ∷ items) old;
        at = (at.0, subst (λ (s : UndoScan). Closes old s) (sym (visits_stay behind (index + 1) items h.0 new (ap (λ (s : UndoScan). s.is_stopped) at.1.is) h.2)) at.1);
      }))
      | inr (inr refused) ↦ inr (inr (subst (λ (s : UndoScan). IsRefused s) (sym (visits_stay behind (index + 1) items h.0 new refused.0 h.2)) refused))
    ]

-- ---- the end

-- The pass ended behind the last item, or at the stop position.
pub record IsEnd (tail_len : Option ℕ) (old new : UndoScan) : Type 0 where
  pub notes : NotesIn (border_at old) old.index new.index
  pub at : (tail_len ≡ Some 0) ⊎ (is_past_stop old ≡ true)

end_at : (whole past : Bool) (tail_len : Option ℕ) (old : UndoScan) → has_no_tail tail_len ≡ whole → is_past_stop old ≡ past → (whole || past) ≡ true
    → (tail_len ≡ Some 0) ⊎ (is_past_stop old ≡ true)
end_at true past tail_len old whole is h = inl (no_tail tail_len whole)
end_at false true tail_len old whole is h = inr is
end_at false false tail_len old whole is h = absurd cc

whole_end : (whole : Bool) (tail_len : Option ℕ) (old new : UndoScan) → (has_no_tail tail_len || is_past_stop old) ≡ whole → AreSkipped (parts_of new.index).refusals
    → EndsIfWhole whole old new → IsEnd tail_len old new
whole_end true tail_len old new is skipped h = record { notes = h.notes; at = end_at (has_no_tail tail_len) (is_past_stop old) tail_len old refl refl is }
whole_end false tail_len old new is skipped h = absurd (not_skipped old.items reasons.Tail old new h skipped)

end_is : (is : Bool) (tail_len : Option ℕ) (old new : UndoScan) → is ≡ false → AreSkipped (parts_of new.index).refusals → EndsScan is tail_len old new → IsEnd tail_len old new
end_is true tail_len old new was skipped h = absurd cc
end_is false tail_len old new was skipped h = whole_end (has_no_tail tail_len || is_past_stop old) tail_len old new refl skipped h

end_stays : (is : Bool) (tail_len : Option ℕ) (old new : UndoScan) → is ≡ true → EndsScan is tail_len old new → new ≡ old
end_stays true tail_len old new was h = h
end_stays false tail_len old new was h = absurd cc

-- ---- the whole file

-- Behind these events the index has what was kept and what was refused of their groups.
pub parts_behind : (rules : Rules) (events : List SeenEvent) (start new : UndoIndex) → start.automaton.current ≡ None → parts_of start ≡ no_parts rules → AreTold start events new
    → parts_of new ≡ parts_for rules (groups_of events) (open_behind [] (told_events None events))
parts_behind rules events start new first parts h =
    told_parts events start new h ∙ ap (λ (c : Option Transaction). noted_all c events (parts_of start)) first
    ∙ ap (λ (p : Parts). noted_all None events p) parts ∙ kept_from_first rules events

-- What the law says of a file, where these first items are seen and the pass ends behind them.
scanned_to : (rules : Rules) (bytes : List ℕ) (start between scan behind : UndoScan) (tail_len : Option ℕ) (h : VisitsVerifiedLog IsCrc32 scans refuses bytes start (Ok tail_len) between)
    → start.index.automaton.current ≡ None → parts_of start.index ≡ no_parts rules
    → (first : AreFirstSeen no_table_maps 0 h.visited.items start behind) → ((first.rest ≡ []) × (tail_len ≡ Some 0)) ⊎ (is_past_stop behind ≡ true)
    → NotesIn (border_at behind) behind.index scan.index → IsScanned rules bytes start scan
scanned_to rules bytes start between scan behind tail_len h automaton fresh first at notes =
    let events : List SeenEvent = first.seen ++ border_at behind ∷ [] in
    let parts = parts_behind rules events start.index scan.index automaton fresh
    (told_more first.seen (border_at behind) start.index behind.index scan.index first.told notes) in
    record {
      stream = h.stream;
      file = h.file;
      items = h.visited.items;
      are = h.visited.are;
      front = first.front;
      rest = first.rest;
      split = first.split;
      seen = first.seen;
      behind = behind;
      each = first.each;
      ends = elim at [
        | inl whole ↦ inl (whole.0, subst (λ (t : Option ℕ). HasTailAt (first_place h.stream) t) whole.1 h.visited.tail)
        | inr past ↦ inr past
      ];
      keeps = record { transactions_are = ap (λ (p : Parts). p.transactions) parts; changes_are = ap (λ (p : Parts). p.changes) parts };
      refused = ap (λ (p : Parts). p.refusals) parts;
    }

pub file_scanned : (choice : Choice) (checks : ForeignKeyChecks) (skips : Skips) (bytes : List ℕ) (start scan : UndoScan) → IsFresh choice checks skips start
    → ScansWhole bytes start scan → AreSkipped (parts_of scan.index).refusals → IsScanned (rules_of choice skips) bytes start scan
file_scanned choice checks skips bytes start scan fresh h skipped =
    let rules : Rules = rules_of choice skips in
    elim (outcome no_table_maps 0 h.visits.visited.items start h.between fresh.goes_on h.visits.visited.visited) [
      | inl all ↦
          let end : IsEnd h.tail_len h.between scan = end_is h.between.is_stopped h.tail_len h.between scan all.goes skipped h.ends in
          scanned_to rules bytes start h.between scan h.between h.tail_len h.visits fresh.automaton fresh.parts all.first
          (elim end.at [ inl whole ↦ inl (all.all, whole) | inr past ↦ inr past ]) end.notes
      | inr (inl part) ↦
          let same : scan ≡ h.between = end_stays h.between.is_stopped h.tail_len h.between scan (ap (λ (s : UndoScan). s.is_stopped) part.at.1.is) h.ends in
          scanned_to rules bytes start h.between scan part.behind h.tail_len h.visits fresh.automaton fresh.parts part.first (inr part.at.0)
          (subst (λ (s : UndoScan). NotesIn (border_at part.behind) part.behind.index s.index) (sym same) part.at.1.notes)
      | inr (inr refused) ↦
          let same : scan ≡ h.between = end_stays h.between.is_stopped h.tail_len h.between scan refused.0 h.ends in
          absurd (refused.1 (subst (λ (s : UndoScan). AreSkipped (parts_of s.index).refusals) same skipped))
    ]
