-- What is written for a file is a log of its description and of the events that undo it.
use Rattle.std.proofs.Common.{◌≡◌, ℕ, ◌+◌, ◌%◌, ◌<◌, Bool, true, false, cond, List, [], ◌∷◌, ◌++◌, map, Option, Some, None, is_some, inl, inr, Result, Ok, Err, refl, sym, ap, subst, ◌∙◌, append_assoc, lit<}
use Rattle.std.specs.Prelude.{◌==◌, ◌||◌, not, bit_and, bit_or, IsSomeAnd, option_map}
use Rattle.std.specs.Global.{Vec}
use Rattle.std.specs.Int.Bits.{and_zero_r}
use Rattle.std.specs.Io.KnownBytes.{Appends}
use Rattle.std.specs.List.{AllByRecursion, flat_map}
use Rattle.std.proofs.lemmas.Nat.{and_mod, or_mod}
use Rattle.binlog_columns.specs.Metadata.{Typed}
use Rattle.binlog_columns.specs.Refusals.{columns_in}
use Rattle.binlog_consts.specs.EventTypes.{event_number}
use Rattle.binlog_consts.specs.declared.event_type.EventType.{EventType}
use Rattle.binlog_consts.specs.declared.event_type.EventType.TheVariants.{FORMAT_DESCRIPTION_EVENT, TABLE_MAP_EVENT}
use Rattle.binlog_consts.specs.declared.version.BinlogVersion.TheVariants.{Version4}
use Rattle.binlog_event_format.specs.FormatDescription.{default_description, IsFormatDescription}
use Rattle.binlog_event_format.specs.Footers.{footer_of}
use Rattle.binlog_event_format.specs.Headers.{header_of}
use Rattle.binlog_event_format.specs.PostHeaders.{post_header}
use Rattle.binlog_event_format.specs.declared.footer.BinlogEventFooter.{BinlogEventFooter}
use Rattle.binlog_event_format.specs.declared.format_description.FormatDescriptionEvent.{FormatDescriptionEvent}
use Rattle.binlog_event_format.specs.declared.header.BinlogEventHeader.{BinlogEventHeader}
use Rattle.binlog_events.specs.Events.{EventView, event_at, event_of}
use Rattle.binlog_events.specs.FileHeader.{file_header}
use Rattle.binlog_events.specs.Parts.{is_description, body, data_of}
use Rattle.binlog_payloads.specs.InnerEvents.{inner_fde}
use Rattle.binlog_rows.specs.TableMaps.{table_map}
use Rattle.binlog_rows.specs.declared.rows_event_data.RowsEventData.{RowsEventData}
use Rattle.binlog_rows.specs.declared.rows_event_data.RowsEventData.TheVariants as types
use Rattle.binlog_undo.specs.InverseEvents.{GivesInverse, type_of}
use Rattle.binlog_undo.specs.declared.inverse_event.ForeignKeyChecks.{ForeignKeyChecks}
use Rattle.binlog_undo_index.specs.Groups.{Kept}
use Rattle.binlog_undo_index.specs.Index.{Keeps, place_of}
use Rattle.binlog_undo_index.specs.declared.places.ChangePlace.{ChangePlace}
use Rattle.binlog_undo_index.specs.declared.places.TransactionPlace.{TransactionPlace}
use Rattle.binlog_undo.specs.Events.{event_size, event_bytes, FitsHeader}
use Rattle.binlog_undo.specs.Headings.{source_heading}
use Rattle.binlog_undo.specs.Transactions.{Event, events_bytes, AllFit}
use Rattle.binlog_undo.specs.declared.heading.Heading.{Heading}
use Rattle.binlog_undo_log.proofs.Keys.{some_key}
use Rattle.binlog_undo_log.proofs.LogChanges.{kept_undone}
use Rattle.binlog_undo_log.proofs.ReadLogs.{read_pieces}
use Rattle.binlog_undo_log.proofs.ReadMaps.{event_is, same_post_header, map_is_read}
use Rattle.binlog_undo_log.proofs.Undone.{kept_are_undone}
use Rattle.binlog_undo_log.proofs.WrittenEvents.{CanFollow}
use Rattle.binlog_undo_log.proofs.WrittenLogs.{log_under, log_of_nothing}
use Rattle.binlog_undo_log.specs.Descriptions.{written_description, description_body, description_heading, has_checksums_under, IsUnder, DescribesOnce, Describes}
use Rattle.binlog_undo_log.specs.Files.{IsDescribed, WritesDescribed, WritesAt, WritesIfAny}
use Rattle.binlog_undo_log.specs.Output.{shown_if, shown, Pushes, Grows}
use Rattle.binlog_undo_log.specs.Places.{FramesOf, IsFrameIn}
use Rattle.binlog_undo_log.specs.Undoing.{IsEventAt, UndoesOwn, begin_event, commit_event, UndoesRows, UndoesChange, UndoesChanges, UndoesTransaction, UndoesAll}
use Rattle.binlog_undo_log.specs.LogChanges.{LogChange, AreKeptChanges, piece_changes, AreReadChanges}
use Rattle.binlog_undo_log.specs.WholeLogs.{AreReadAs, IsLogUnder, IsNewLog, IsUndoLog, HasUndoLog, IsLogOfChanges, IsInverseLog, HasInverseLog}
use Rattle.binlog_undo_log.specs.declared.output.UndoOutput.{UndoOutput}
use Rattle.table_changes.specs.Changes.{inverse}

-- ---- the flag LOG_EVENT_BINLOG_IN_USE_F isn't set

and_even : (flags mask : ℕ) → mask % 2 ≡ 0 → bit_and flags mask % 2 ≡ 0
and_even flags mask even = and_mod flags mask 1 ∙ ap (λ (n : ℕ). bit_and (flags % 2) n) even ∙ and_zero_r (flags % 2)

or_even : (a b : ℕ) → a % 2 ≡ 0 → b % 2 ≡ 0 → bit_or a b % 2 ≡ 0
or_even a b first second = or_mod a b 1 ∙ ap (λ (n : ℕ). bit_or n (b % 2)) first ∙ ap (λ (n : ℕ). bit_or 0 n) second

-- ---- the events that are written can follow a description

all_over : {A : Type 0} (P : A → Type 0) (front others : List A) → AllByRecursion P front → AllByRecursion P others → AllByRecursion P (front ++ others)
all_over P [] others h k = k
all_over P (x ∷ front) others h k = (h.0, all_over P front others h.1 k)

module _ (d : FormatDescriptionEvent) where
  abbrev Follows : Event → Type 0
  Follows event = CanFollow (written_description d) event

  begin_follows : (last : BinlogEventHeader) → Follows (begin_event last)
  begin_follows last = record {
    small = lit< tt;
    no_description = refl;
    no_rotate = refl;
    even = or_even (bit_and last.flags 0x8000) 8 (and_even last.flags 0x8000 refl) refl;
    map = λ h. absurd cc;
  }

  commit_follows : (last : BinlogEventHeader) (xid : ℕ) → Follows (commit_event last xid)
  commit_follows last xid = record { small = lit< tt; no_description = refl; no_rotate = refl; even = and_even last.flags 0x8000 refl; map = λ h. absurd cc }

  rows_follow : (source : BinlogEventHeader) (rows : RowsEventData) (content : List ℕ) → Follows (record { heading = source_heading source; event_type = type_of rows; body = content })
  rows_follow source (types.WriteRowsEventV1 event) content =
      record { small = lit< tt; no_description = refl; no_rotate = refl; even = and_even source.flags 0xff9e refl; map = λ h. absurd cc }
  rows_follow source (types.UpdateRowsEventV1 event) content =
      record { small = lit< tt; no_description = refl; no_rotate = refl; even = and_even source.flags 0xff9e refl; map = λ h. absurd cc }
  rows_follow source (types.DeleteRowsEventV1 event) content =
      record { small = lit< tt; no_description = refl; no_rotate = refl; even = and_even source.flags 0xff9e refl; map = λ h. absurd cc }
  rows_follow source (types.WriteRowsEvent event) content =
      record { small = lit< tt; no_description = refl; no_rotate = refl; even = and_even source.flags 0xff9e refl; map = λ h. absurd cc }
  rows_follow source (types.UpdateRowsEvent event) content =
      record { small = lit< tt; no_description = refl; no_rotate = refl; even = and_even source.flags 0xff9e refl; map = λ h. absurd cc }
  rows_follow source (types.DeleteRowsEvent event) content =
      record { small = lit< tt; no_description = refl; no_rotate = refl; even = and_even source.flags 0xff9e refl; map = λ h. absurd cc }
  rows_follow source (types.PartialUpdateRowsEvent event) content =
      record { small = lit< tt; no_description = refl; no_rotate = refl; even = and_even source.flags 0xff9e refl; map = λ h. absurd cc }

  -- Of row events that are read under a description with the same post-header of table maps.
  module _ (is_at : FramesOf) (e : FormatDescriptionEvent) (same : post_header e TABLE_MAP_EVENT ≡ post_header d TABLE_MAP_EVENT) (checks : ForeignKeyChecks) where
    change_follows : (change : ChangePlace) (events : List Event) → UndoesChange is_at e checks change events → AllByRecursion Follows events
    change_follows change events h =
        let rows : UndoesRows checks h.map_event h.undoes.map h.event h.undoes.undoes.rows events = h.undoes.undoes.undoes in
        let columns : List Typed = columns_in h.undoes.map.columns.types h.undoes.map.columns.metadata in
        let by_key = some_key rows.is_maria_log h.undoes.map columns checks h.undoes.undoes.rows rows.inverse rows.undoes.undoes in
        let key : List ℕ = by_key.0 in
        let gives : GivesInverse key columns checks h.undoes.undoes.rows (Ok rows.inverse) = by_key.1 in
        let map_read = map_is_read e h.map_at.frame h.map_event h.undoes.map h.map_at.is h.undoes.read in
        let map_follows : Follows (record { heading = source_heading (header_of h.map_event.frame); event_type = _; body = data_of h.map_event.fde.footer h.map_event.frame }) = record {
          small = lit< tt;
          no_description = refl;
          no_rotate = refl;
          even = and_even (header_of h.map_event.frame).flags 0xff9e refl;
          map = λ is. (h.undoes.map, sym (ap (λ (n : ℕ). (table_map n).reads (data_of h.map_event.fde.footer h.map_event.frame)) same) ∙ map_read);
        } in
        let inverse_follows : Follows (record { heading = source_heading (header_of h.event.frame); event_type = rows.inverse.event_type; body = rows.inverse.body.items }) =
        subst (λ (t : EventType). Follows (record { heading = source_heading (header_of h.event.frame); event_type = t; body = rows.inverse.body.items })) (sym gives.2.event_type)
        (rows_follow (header_of h.event.frame) gives.0 rows.inverse.body.items) in
        subst (λ (e : List Event). AllByRecursion Follows e) (sym rows.are) (map_follows, (inverse_follows, tt))

    changes_follow : (changes : List ChangePlace) (events : List Event) → UndoesChanges is_at e checks changes events → AllByRecursion Follows events
    changes_follow [] events h = subst (λ (e : List Event). AllByRecursion Follows e) (sym h) tt
    changes_follow (change ∷ changes) events h =
        subst (λ (e : List Event). AllByRecursion Follows e) (sym h.4) (all_over Follows h.0 h.1 (changes_follow changes h.0 h.2) (change_follows change h.1 h.3))

  module _ (is_at : FramesOf) (checks : ForeignKeyChecks) where
    own_follow : (event : EventView) (changes : List ChangePlace) (events : List Event) → post_header event.fde TABLE_MAP_EVENT ≡ post_header d TABLE_MAP_EVENT
        → UndoesOwn is_at d checks event changes events → AllByRecursion Follows events
    own_follow event changes events same (inl h) = changes_follow is_at d refl checks changes events h.1
    own_follow event changes events same (inr h) = changes_follow (IsFrameIn h.content) (inner_fde event.fde) same checks changes events h.in_it

    transaction_follows : (last : ℕ) (changes : List ChangePlace) (events : List Event) → UndoesTransaction is_at d checks last changes events → AllByRecursion Follows events
    transaction_follows last changes events h =
        let header : BinlogEventHeader = header_of h.event.frame in
        subst (λ (e : List Event). AllByRecursion Follows e) (sym h.are) (
          begin_follows header,
          all_over Follows h.undone (commit_event header h.xid ∷ [])
              (own_follow h.event changes h.undone (same_post_header d h.event_at.frame h.event TABLE_MAP_EVENT h.event_at.is) h.undoes) (commit_follows header h.xid, tt),
        )

    pub all_follow : (transactions : List TransactionPlace) (changes : List ChangePlace) (events : List Event) → UndoesAll is_at d checks transactions changes events
        → AllByRecursion Follows events
    all_follow [] changes events h = subst (λ (e : List Event). AllByRecursion Follows e) (sym h.1) tt
    all_follow (transaction ∷ transactions) changes events h =
        subst (λ (e : List Event). AllByRecursion Follows e) (sym h.8)
        (all_over Follows h.2 h.3 (all_follow transactions h.1 h.2 h.6) (transaction_follows transaction.last h.0 h.3 h.7))

-- ---- the bytes

pub all_shown : (events : List Event) → shown true events ≡ events
all_shown [] = refl
all_shown (event ∷ events) = ap (λ (e : List Event). event ∷ e) (all_shown events)

appended : (old mid new : Option (List ℕ)) (front s t : List ℕ) → old ≡ Some front → Appends old mid s → Appends mid new t → IsSomeAnd new (λ bytes. bytes ≡ front ++ (s ++ t))
appended None mid new front s t is h k = absurd cc
appended (Some xs) None new front s t is h k = absurd h
appended (Some xs) (Some ys) None front s t is h k = absurd k
appended (Some xs) (Some ys) (Some zs) front s t is h k =
    let same : xs ≡ front = cc in
    k ∙ ap (λ (l : List ℕ). l ++ t) h ∙ append_assoc xs s t ∙ ap (λ (l : List ℕ). l ++ (s ++ t)) same

pub and_so : (P Q : List ℕ → Type 0) (o : Option (List ℕ)) → ((bytes : List ℕ) → P bytes → Q bytes) → IsSomeAnd o P → IsSomeAnd o Q
and_so P Q (Some bytes) to h = to bytes h
and_so P Q None to h = absurd h

its_footer : (description : Bool) (own : BinlogEventFooter) (start : FormatDescriptionEvent) → description ≡ true → (cond description (record start { footer = own }) start).footer ≡ own
its_footer true own start is = refl
its_footer false own start is = absurd cc

pub source_footer : (event : EventView) (start : FormatDescriptionEvent) (frame : List ℕ) → event_at start frame ≡ Some event → is_description event.frame ≡ true
    → event.fde.footer ≡ footer_of (body event.frame)
source_footer event start frame at is =
    let same : event ≡ event_of start frame = event_is _ (event_of start frame) event at in
    let kind : is_description frame ≡ true = ap (λ (e : EventView). is_description e.frame) (sym same) ∙ is in
    ap (λ (e : EventView). e.fde.footer) same ∙ its_footer (is_description frame) (footer_of (body frame)) start kind ∙ ap (λ (e : EventView). footer_of (body e.frame)) (sym same)

pub no_description_yet : (found : Option (Vec ℕ)) (written : List ℕ) → found ≡ None → option_map (λ bytes. bytes.items) found ≡ Some written → ⊥
no_description_yet None written none is = cc
no_description_yet (Some bytes) written none is = absurd (let e : ◌≡◌ {A = Option (Vec ℕ)} (Some bytes) None = none in cc)

module _ {W : Type 0} (contents : W → Option (List ℕ)) (is_at : FramesOf) (checks : ForeignKeyChecks) where
  new_described : (header : BinlogEventHeader) (d : FormatDescriptionEvent) (old new : UndoOutput W) → old.description ≡ None → DescribesOnce contents header d old new
      → Describes contents header d old new
  new_described header d old new none (inl h) =
      absurd (no_description_yet old.description (description_body d) none h.0.body_is)
  new_described header d old new none (inr h) = h

  pub described_log : (place : ℕ) (transactions : List TransactionPlace) (changes : List ChangePlace) (old new : UndoOutput W) → IsNewLog contents old
      → (h : WritesDescribed contents is_at checks place transactions changes old new)
      → IsSomeAnd (contents new.writer) (IsLogUnder (written_description h.d) h.undoes.0)
  described_log place transactions changes old new fresh h =
      let header : BinlogEventHeader = header_of h.event.frame in
      let source : List ℕ = h.event.frame in
      let d : FormatDescriptionEvent = h.d in
      let found : FormatDescriptionEvent = h.described.body in
      let events : List Event = h.undoes.0 in
      let first_has : Bool = is_some d.footer.checksum_alg in
      let has : Bool = has_checksums_under d.footer.checksum_alg in
      let heading : Heading = description_heading header in
      let written : List ℕ = description_body d in
      let behind : ℕ = 4 + event_size first_has written in
      let describes : Describes contents header d old h.between = new_described header d old h.between fresh.description h.describes in
      let footer : h.event.fde.footer ≡ footer_of (body source) = source_footer h.event (default_description Version4) h.event_at.frame h.event_at.is h.described.is in
      let bounds : h.between.has_bounds ≡ true = describes.bounds ∙ describes.apart in
      let pushes : Pushes contents events h.between new =
      subst (λ (e : List Event). Pushes contents e h.between new) (all_shown events) (subst (λ (b : Bool). Pushes contents (shown b events) h.between new) bounds h.undoes.2) in
      let checksums : h.between.has_checksums ≡ has = describes.is_under.checksums in
      let from : h.between.place ≡ behind = describes.written.place ∙ ap (λ (p : ℕ). p + event_size first_has written) fresh.place in
      let fit : AllFit has behind events = subst (λ (b : Bool). AllFit b behind events) checksums (subst (λ (p : ℕ). AllFit h.between.has_checksums p events) from pushes.fit) in
      let log = log_under d found source (subst (λ (f : BinlogEventFooter). IsFormatDescription (data_of f source) found []) footer h.described.spelled)
      (h.described.footer ∙ ap (λ (f : BinlogEventFooter). let x : FormatDescriptionEvent = record found { footer = f } in x) footer) heading events h.described.writable refl
      (subst (λ (p : ℕ). FitsHeader first_has p heading written) fresh.place describes.written.fits) fit (all_follow d is_at checks transactions changes events h.undoes.1) in
      let first : ℕ → List ℕ = λ p. event_bytes first_has p heading FORMAT_DESCRIPTION_EVENT written in
      let same : file_header ++ (first old.place ++ events_bytes h.between.has_checksums h.between.place events) ≡ file_header ++ (first 4 ++ events_bytes has behind events) =
      ap (λ (p : ℕ). file_header ++ (first p ++ events_bytes h.between.has_checksums h.between.place events)) fresh.place
      ∙ ap (λ (b : Bool). file_header ++ (first 4 ++ events_bytes b h.between.place events)) checksums
      ∙ ap (λ (p : ℕ). file_header ++ (first 4 ++ events_bytes has p events)) from in
      and_so (λ bytes. bytes ≡ file_header ++ (first old.place ++ events_bytes h.between.has_checksums h.between.place events)) (IsLogUnder (written_description d) events)
      (contents new.writer) (λ bytes is. subst (IsLogUnder (written_description d) events) (sym (is ∙ same)) log)
      (appended (contents old.writer) (contents h.between.writer) (contents new.writer) file_header (first old.place) (events_bytes h.between.has_checksums h.between.place events) fresh.bytes
      describes.written.bytes pushes.bytes)

  log_at : (place : Option ℕ) (transaction : TransactionPlace) (transactions : List TransactionPlace) (changes : List ChangePlace) (old new : UndoOutput W) → IsNewLog contents old
      → WritesAt contents is_at checks place (transaction ∷ transactions) changes old new → HasUndoLog contents is_at checks (transaction ∷ transactions) changes new
  log_at None transaction transactions changes old new fresh h = absurd h
  log_at (Some place) transaction transactions changes old new fresh h =
      and_so (IsLogUnder (written_description h.d) h.undoes.0) (IsUndoLog is_at checks (transaction ∷ transactions) changes) (contents new.writer)
      (λ bytes log. (h.d, h.undoes.0, h.undoes.1, log)) (described_log place (transaction ∷ transactions) changes old new fresh h)

  pub file_log : (place : Option ℕ) (transactions : List TransactionPlace) (changes : List ChangePlace) (old new : UndoOutput W) → IsNewLog contents old
      → WritesIfAny contents is_at checks place transactions changes old new → HasUndoLog contents is_at checks transactions changes new
  file_log place [] changes old new fresh h =
      let bytes : contents new.writer ≡ Some file_header = ap (λ (o : UndoOutput W). contents o.writer) h ∙ fresh.bytes in
      subst (λ (o : Option (List ℕ)). IsSomeAnd o (IsUndoLog is_at checks [] changes)) (sym bytes) log_of_nothing
  file_log place (transaction ∷ transactions) changes old new fresh h = log_at place transaction transactions changes old new fresh h

  -- ---- its changes

  pub changes_of_log : (kept : List Kept) (transactions : List TransactionPlace) (changes : List ChangePlace) (d : FormatDescriptionEvent) (events : List Event) (bytes : List ℕ)
      → Keeps kept transactions changes → UndoesAll is_at d checks transactions changes events → IsLogUnder (written_description d) events bytes
      → (found : List LogChange) × AreKeptChanges is_at d kept found × IsLogOfChanges (inverse found) bytes
  changes_of_log kept transactions changes d events bytes keeps undoes log =
      let found = kept_undone is_at d checks kept events (kept_are_undone is_at d checks kept transactions changes events keeps undoes) in
      let are = found.2 in
      let read : AreReadChanges log.events (flat_map piece_changes are.pieces) =
      read_pieces d are.pieces log.events are.each (subst (λ (e : List Event). AreReadAs (written_description d) e log.events) are.events_are log.are) in (
        found.0,
        found.1,
        record {
          description = log.description;
          events = log.events;
          log = log.log;
          are = subst (λ (c : List LogChange). AreReadChanges log.events c) (sym are.changes_are) read;
        },
      )

  inverse_log : (kept : List Kept) (transactions : List TransactionPlace) (changes : List ChangePlace) (output : UndoOutput W) → Keeps kept transactions changes
      → HasUndoLog contents is_at checks transactions changes output → HasInverseLog contents is_at kept output
  inverse_log [] transactions changes output keeps h =
      subst (λ (t : List TransactionPlace). HasUndoLog contents is_at checks t changes output) keeps.transactions_are h
  inverse_log (first ∷ others) transactions changes output keeps h =
      let places : List TransactionPlace = map place_of (first ∷ others) in
      and_so (IsUndoLog is_at checks places changes) (IsInverseLog is_at (first ∷ others)) (contents output.writer)
      (λ bytes u.
      let found = changes_of_log (first ∷ others) places changes u.0 u.1 bytes
      (subst (λ (t : List TransactionPlace). Keeps (first ∷ others) t changes) keeps.transactions_are keeps) u.2 u.3 in
      (u.0, found.0, found.1, found.2))
      (subst (λ (t : List TransactionPlace). HasUndoLog contents is_at checks t changes output) keeps.transactions_are h)

  pub file_inverse : (place : Option ℕ) (kept : List Kept) (transactions : List TransactionPlace) (changes : List ChangePlace) (old new : UndoOutput W) → IsNewLog contents old
      → Keeps kept transactions changes → WritesIfAny contents is_at checks place transactions changes old new → HasInverseLog contents is_at kept new
  file_inverse place kept transactions changes old new fresh keeps h = inverse_log kept transactions changes new keeps (file_log place transactions changes old new fresh h)
