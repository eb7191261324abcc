-- An event that is written behind a description is an item of the stream, and its checksum is right.
use Rattle.std.proofs.Common.{◌≡◌, ℕ, ◌+◌, ◌-◌, ◌%◌, ◌<◌, Bool, true, false, cond, List, [], ◌∷◌, ◌++◌, length, take, drop, Option, Some, None, is_some, Result, Ok, Err, refl, sym, ap, subst, ◌∙◌, append-nil, arith, length-append, take_at, inl}
use Rattle.std.specs.Prelude.{◌==◌, ◌&&◌, nat_lt}
use Rattle.std.proofs.lemmas.Bool.{le-ltb}
use Rattle.binlog_wire.specs.Fields.{little_bytes}
use Rattle.binlog_wire.specs.Reading.{Read}
use Rattle.binlog_wire.specs.declared.error.Error.{Error}
use Rattle.binlog_wire.specs.declared.error.Error.TheVariants.{TooShortForChecksum}
use Rattle.binlog_bodies.specs.declared.events.rotate.RotateEvent.{RotateEvent}
use Rattle.binlog_consts.specs.EventTypes.{event_number}
use Rattle.binlog_consts.specs.declared.event_type.EventType.{EventType}
use Rattle.binlog_consts.specs.declared.event_type.EventType.TheVariants.{TABLE_MAP_EVENT}
use Rattle.binlog_event_format.specs.Footers.{footer_of}
use Rattle.binlog_event_format.specs.Headers.{header, header_of, not_in_use}
use Rattle.binlog_event_format.specs.PostHeaders.{post_header}
use Rattle.binlog_event_format.specs.declared.footer.BinlogEventFooter.{BinlogEventFooter}
use Rattle.binlog_event_format.specs.declared.format_description.FormatDescriptionEvent.{FormatDescriptionEvent}
use Rattle.binlog_event_format.specs.declared.header.BinlogEventHeader.{BinlogEventHeader}
use Rattle.binlog_events.specs.Checksums.{header_not_in_use, checksummed, stated_algorithm, HasGivenChecksum}
use Rattle.binlog_events.specs.Events.{EventView, event_of}
use Rattle.binlog_events.specs.Parts.{is_description, is_rotate, is_table_map, body, is_on, has_checksum, footer_under, is_too_short, data_of, checksum_of}
use Rattle.binlog_file.specs.Descriptions.{read_description}
use Rattle.binlog_file.specs.Items.{unless_refused, item_of}
use Rattle.binlog_file.specs.TableMapsInForce.{read_rotate, read_table_map}
use Rattle.binlog_file.specs.VerifiedFiles.{IsVerifiedItem}
use Rattle.binlog_rows.specs.TableMaps.{table_map}
use Rattle.binlog_rows.specs.declared.table_map_event.TableMapEvent.{TableMapEvent}
use Rattle.crc32_ieee.specs.Checksums.{IsCrc32}
use Rattle.crc32_ieee.specs.Crc32.{crc32}
use Rattle.binlog_undo.specs.Events.{with_checksum, event_bytes}
use Rattle.binlog_undo.specs.Transactions.{Event}
use Rattle.binlog_undo.specs.declared.heading.Heading.{Heading}
use Rattle.binlog_undo_log.proofs.WrittenFrames.{HasHeader, suffix, length-suffix, stored_checksum, header_written, behind_header, length-behind}

-- An event that can follow a description, whatever is between them: no description and no ROTATE; a table map can be read. The flag
-- LOG_EVENT_BINLOG_IN_USE_F isn't set.
pub record CanFollow (d : FormatDescriptionEvent) (event : Event) : Type 0 where
  pub small : event_number event.event_type < 256
  pub no_description : (event_number event.event_type == 15) ≡ false
  pub no_rotate : (event_number event.event_type == 4) ≡ false
  pub even : event.heading.flags % 2 ≡ 0
  pub map : (event_number event.event_type == 19) ≡ true → (map : TableMapEvent) × ((table_map (post_header d TABLE_MAP_EVENT)).reads event.body ≡ Ok (map, []))

-- ---- cases

second : {A : Type 0} (b : Bool) (x y : A) → b ≡ false → cond b x y ≡ y
second true x y is = absurd cc
second false x y is = refl

not_short : (due has : Bool) (s : List ℕ) (n : ℕ) → due ≡ has → length s ≡ n + cond has 4 0 → (due && nat_lt (length s) 4) ≡ false
not_short true true s n same long = le-ltb _ _ (omega (arith, long))
not_short true false s n same long = absurd cc
not_short false has s n same long = refl

suffix_is : (description some due has : Bool) → description ≡ false → due ≡ has → cond (description && some) 1 0 + cond due 4 0 ≡ cond has 4 0
suffix_is true some due has kind same = absurd cc
suffix_is false some due has kind same = let last : cond due 4 0 ≡ cond has 4 0 = ap {B = ℕ} (λ (b : Bool). cond b 4 0) same in omega (arith, last)

pub data_is : (s front last : List ℕ) (n : ℕ) → s ≡ front ++ last → length last ≡ n → take (length s - n) s ≡ front
data_is s front last n is long =
    let count : length front ≡ length s - n = omega (arith, ap length is, length-append front last, long) in
    ap (λ (l : List ℕ). take (length s - n) l) is ∙ take_at front last (length s - n) count

item_is : (short description rotate map : Bool) (event : EventView) (read : Read FormatDescriptionEvent) (rotates : Read RotateEvent) (maps : Read TableMapEvent)
    → short ≡ false → description ≡ false → rotate ≡ false → (map ≡ true → (v : TableMapEvent) × (maps ≡ Ok (v, [])))
    → cond short (Err TooShortForChecksum) (cond description (unless_refused event read) (cond rotate (unless_refused event rotates) (cond map (unless_refused event maps) (Ok event)))) ≡ Ok event
item_is true description rotate map event read rotates maps long plain other mapped = absurd cc
item_is false true rotate map event read rotates maps long plain other mapped = absurd cc
item_is false false true map event read rotates maps long plain other mapped = absurd cc
item_is false false false true event read rotates maps long plain other mapped = ap (unless_refused event) (mapped refl).1
item_is false false false false event read rotates maps long plain other mapped = refl

pub not_in_use_is : (h : BinlogEventHeader) → h.flags % 2 ≡ 0 → not_in_use h ≡ h
not_in_use_is h even =
    let same : h.flags - h.flags % 2 ≡ h.flags = omega (arith, even) in
    ap (λ (n : ℕ). let x : BinlogEventHeader = record h { flags = n } in x) same

-- ---- the event

module _ (d : FormatDescriptionEvent) (has : Bool) (place : ℕ) (heading : Heading) (event_type : EventType) (content : List ℕ)
    (due : (d.footer.checksum_enabled && is_on d.footer.checksum_alg) ≡ has) (plain : (event_number event_type == 15) ≡ false)
    (h : HasHeader (header_written has place heading event_type content) (behind_header has place heading event_type content) (event_bytes has place heading event_type content)) where
  abbrev frame : List ℕ
  frame = event_bytes has place heading event_type content

  abbrev head : BinlogEventHeader
  head = header_written has place heading event_type content

  pub is_plain : is_description frame ≡ false
  is_plain = ap (λ (x : BinlogEventHeader). x.event_type == 15) h.is ∙ plain

  is_due : has_checksum d.footer frame ≡ has
  is_due = second (is_description frame) (is_some d.footer.checksum_alg) (d.footer.checksum_enabled && is_on d.footer.checksum_alg) is_plain ∙ due

  is_under : footer_under d.footer frame ≡ d.footer
  is_under = second (is_description frame) (footer_of (body frame)) d.footer is_plain

  long_enough : is_too_short d.footer frame ≡ false
  long_enough =
      not_short (has_checksum d.footer frame) has (body frame) (length content) is_due
      (ap length h.behind ∙ length-behind has place heading event_type content)

  pub its_data : data_of d.footer frame ≡ content
  its_data =
      data_is (body frame) content (suffix has (header.written head ++ content)) _ h.behind
      (length-suffix has (header.written head ++ content)
      ∙ sym (suffix_is (is_description frame) (is_some d.footer.checksum_alg) (has_checksum d.footer frame) has is_plain is_due))

  its_header : heading.flags % 2 ≡ 0 → header_not_in_use frame ≡ header.written head
  unfolding header_not_in_use
  its_header even = ap (λ (x : BinlogEventHeader). header.written (not_in_use x)) h.is ∙ ap header.written (not_in_use_is head even)

  its_checksummed : heading.flags % 2 ≡ 0 → (algorithm : ℕ) → checksummed algorithm d.footer frame ≡ header.written head ++ content
  its_checksummed even algorithm =
      ap (λ (s : List ℕ). s ++ data_of d.footer frame ++ cond (is_description frame) (algorithm ∷ []) []) (its_header even)
      ∙ ap (λ (s : List ℕ). header.written head ++ s ++ cond (is_description frame) (algorithm ∷ []) []) its_data
      ∙ ap (λ (s : List ℕ). header.written head ++ content ++ s) (second (is_description frame) (algorithm ∷ []) [] is_plain)
      ∙ ap (λ (s : List ℕ). header.written head ++ s) (append-nil content)

  its_checksum : heading.flags % 2 ≡ 0 → HasGivenChecksum IsCrc32 d.footer frame
  its_checksum even is long = (
    crc32 (header.written head ++ content),
    ap crc32 (sym (its_checksummed even (stated_algorithm d.footer))),
    stored_checksum has (has_checksum d.footer frame) (header.written head ++ content) is_due is,
  )

  its_fde : event_of d frame ≡ record { fde = d; frame = frame }
  its_fde =
      ap (λ (x : FormatDescriptionEvent). let e : EventView = record { fde = x; frame = frame } in e)
      (second (is_description frame) (record d { footer = footer_of (body frame) }) d is_plain)

  its_item : (event_number event_type == 4) ≡ false
      → ((event_number event_type == 19) ≡ true → (map : TableMapEvent) × ((table_map (post_header d TABLE_MAP_EVENT)).reads content ≡ Ok (map, [])))
      → item_of d frame ≡ Ok (record { fde = d; frame = frame })
  unfolding read_table_map
  its_item other mapped =
      let read : FormatDescriptionEvent → Read TableMapEvent = λ x. (table_map (post_header x TABLE_MAP_EVENT)).reads (data_of x.footer frame) in
      let same : (event_of d frame).fde ≡ d = ap (λ (e : EventView). e.fde) its_fde in
      item_is (is_too_short (footer_under d.footer frame) frame) (is_description frame) (is_rotate frame) (is_table_map frame) (event_of d frame)
      (read_description (footer_of (body frame)) frame) (read_rotate (event_of d frame).fde.footer frame) (read_table_map (event_of d frame).fde frame)
      (ap (λ (f : BinlogEventFooter). is_too_short f frame) is_under ∙ long_enough) is_plain (ap (λ (x : BinlogEventHeader). x.event_type == 4) h.is ∙ other)
      (λ map.
      let found = mapped (ap (λ (x : BinlogEventHeader). x.event_type == 19) (sym h.is) ∙ map) in
      (found.0, ap read same ∙ ap (table_map (post_header d TABLE_MAP_EVENT)).reads its_data ∙ found.1))
      ∙ ap (λ (e : EventView). Ok e) its_fde

  -- Its item is the event, whose checksum is right.
  pub is_verified : heading.flags % 2 ≡ 0 → (event_number event_type == 4) ≡ false
      → ((event_number event_type == 19) ≡ true → (map : TableMapEvent) × ((table_map (post_header d TABLE_MAP_EVENT)).reads content ≡ Ok (map, [])))
      → IsVerifiedItem IsCrc32 d frame (Ok (record { fde = d; frame = frame }))
  is_verified even other mapped =
      inl (subst (λ (f : BinlogEventFooter). HasGivenChecksum IsCrc32 f frame) (sym is_under) (its_checksum even), sym (its_item other mapped))
