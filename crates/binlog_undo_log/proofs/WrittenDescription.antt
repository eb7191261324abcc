-- A description that is written is read again, created at 0, and nothing else of it has changed.
use Rattle.std.proofs.Common.{◌≡◌, ℕ, ◌+◌, ◌-◌, ◌%◌, ◌<◌, ◌≤◌, Bool, true, false, cond, leb, List, [], ◌∷◌, ◌++◌, length, take, drop, get_or, Option, Some, None, is_some, unwrap_or, Result, Ok, Err, refl, sym, ap, subst, ◌∙◌, append_assoc, append-nil, arith, length-append, drop_at, inl, lit<}
use Rattle.std.specs.Prelude.{◌==◌, ◌&&◌, nat_lt, nat_le}
use Rattle.std.proofs.Math.Seq.{get_or-append_seam}
use Rattle.std.proofs.lemmas.Bool.{le-ltb, le-leb}
use Rattle.std.proofs.lemmas.List.{take-append-le, take-append-drop}
use Rattle.binlog_wire.specs.Fields.{little_bytes, padded}
use Rattle.binlog_wire.specs.Formats.{canonical_in}
use Rattle.binlog_wire.specs.Laws.Numbers.{length-little_bytes}
use Rattle.binlog_wire.specs.Laws.Texts.{length-padded, padded_all}
use Rattle.binlog_wire.specs.Reading.{Read}
use Rattle.binlog_wire.specs.declared.error.Error.{Error}
use Rattle.binlog_wire.specs.declared.error.Error.TheVariants.{TooShortForChecksum}
use Rattle.binlog_consts.specs.Versions.{version_number}
use Rattle.binlog_consts.specs.declared.event_type.EventType.TheVariants.{FORMAT_DESCRIPTION_EVENT}
use Rattle.binlog_event_format.specs.Footers.{footer_of, has_checksums, version_text, default_footer}
use Rattle.binlog_event_format.specs.FormatDescription.{format_description, format_description_at, IsFormatDescription}
use Rattle.binlog_event_format.specs.FormatDescriptionLaws.{length-written}
use Rattle.binlog_event_format.specs.Headers.{header, header_of, not_in_use}
use Rattle.binlog_event_format.specs.VersionSplit.{split_of}
use Rattle.binlog_event_format.specs.declared.footer.BinlogEventFooter.{BinlogEventFooter}
use Rattle.binlog_event_format.specs.declared.format_description.FormatDescriptionEvent.{FormatDescriptionEvent}
use Rattle.binlog_event_format.specs.declared.header.BinlogEventHeader.{BinlogEventHeader}
use Rattle.binlog_events.specs.Checksums.{header_not_in_use, checksummed, stated_algorithm, HasGivenChecksum}
use Rattle.binlog_events.specs.Events.{EventView, event_of}
use Rattle.binlog_events.specs.Parts.{is_description, body, is_on, has_checksum, footer_under, suffix_len, is_too_short, data_of}
use Rattle.binlog_file.specs.Descriptions.{read_description, described, accepted}
use Rattle.binlog_file.specs.Items.{unless_refused, item_of}
use Rattle.binlog_file.specs.VerifiedFiles.{IsVerifiedItem}
use Rattle.crc32_ieee.specs.Checksums.{IsCrc32}
use Rattle.crc32_ieee.specs.Crc32.{crc32}
use Rattle.binlog_undo.specs.Events.{event_bytes}
use Rattle.binlog_undo.specs.declared.heading.Heading.{Heading}
use Rattle.binlog_undo_log.specs.Descriptions.{algorithm_byte, description_body, written_description}
use Rattle.binlog_undo_log.proofs.WrittenEvents.{data_is, not_in_use_is}
use Rattle.binlog_undo_log.proofs.WrittenFrames.{HasHeader, suffix, stored_checksum, header_written, behind_header}

-- ---- the server version

front_version : (code : ℕ) (version more : List ℕ) → length version ≡ 50 → version_text (little_bytes 2 code ++ (version ++ more)) ≡ take 49 version
front_version code version more long =
    ap (take 49) (drop_at (little_bytes 2 code) (version ++ more) 2 (length-little_bytes 2 code)) ∙ take-append-le 49 version more (omega (arith, long))

-- The bytes are a description, and others are behind them.
pub record HasVersion (version bytes : List ℕ) : Type 0 where
  pub text : version_text bytes ≡ take 49 version
  pub long : 52 ≤ length bytes

spelled_version : (found : FormatDescriptionEvent) (s more : List ℕ) → IsFormatDescription s found [] → (length found.server_version ≡ 50) × HasVersion found.server_version (s ++ more)
spelled_version found s more h =
    let version : List ℕ = h.0.0.1.0 in
    let same : found.server_version ≡ version = ap (λ (x : FormatDescriptionEvent). x.server_version) h.1 in
    let code : ℕ = version_number h.0.0.0 in
    let rest : List ℕ = h.2.1.2.0 in
    let long : length version ≡ 50 = h.2.1.2.1.0 in
    let bytes : s ≡ little_bytes 2 code ++ (version ++ rest) = h.2.1.1.1 ∙ ap (λ (l : List ℕ). little_bytes 2 code ++ l) h.2.1.2.1.1 in
    let all : s ++ more ≡ little_bytes 2 code ++ (version ++ (rest ++ more)) =
    ap (λ (l : List ℕ). l ++ more) bytes ∙ append_assoc (little_bytes 2 code) (version ++ rest) more
    ∙ ap (λ (l : List ℕ). little_bytes 2 code ++ l) (append_assoc version rest more) in (
      ap length same ∙ long,
      record {
        text = ap version_text all ∙ front_version code version (rest ++ more) long ∙ ap (take 49) (sym same);
        long = omega (
          arith,
          ap length all,
          length-append (little_bytes 2 code) (version ++ (rest ++ more)),
          length-little_bytes 2 code,
          length-append version (rest ++ more),
          long,
        );
      },
    )

pub written_version : (d : FormatDescriptionEvent) (more : List ℕ) → length d.server_version ≡ 50 → HasVersion d.server_version (format_description.written d ++ more)
written_version d more long =
    let code : ℕ = version_number d.binlog_version in
    let version : List ℕ = padded 50 d.server_version in
    let numbers : List ℕ = little_bytes 4 d.create_timestamp ++ little_bytes 1 19 in
    let lengths : List ℕ = d.event_type_header_lengths in
    let all : format_description.written d ++ more ≡ little_bytes 2 code ++ (version ++ (numbers ++ (lengths ++ more))) =
    append_assoc (little_bytes 2 code ++ (version ++ numbers)) lengths more
    ∙ append_assoc (little_bytes 2 code) (version ++ numbers) (lengths ++ more)
    ∙ ap (λ (l : List ℕ). little_bytes 2 code ++ l) (append_assoc version numbers (lengths ++ more)) in
    record {
      text = ap version_text all ∙ front_version code version (numbers ++ (lengths ++ more)) (length-padded 50 d.server_version) ∙ ap (take 49) (padded_all 50 d.server_version long);
      long = omega (arith, length-append (format_description.written d) more, length-written d);
    }

-- ---- the footer

footer_by : (version s : List ℕ) → HasVersion version s
    → footer_of s ≡ record { checksum_alg = cond (has_checksums (split_of (take 49 version))) (Some (get_or s (length s - 5) 0)) None; checksum_enabled = true }
footer_by version s h =
    let footer : Bool → List ℕ → BinlogEventFooter =
    λ enough text. record { checksum_alg = cond (enough && has_checksums (split_of text)) (Some (get_or s (length s - 5) 0)) None; checksum_enabled = true } in
    ap (λ (b : Bool). footer b (version_text s)) (le-leb 52 (length s) h.long) ∙ ap (footer true) h.text

stated_last : (has : Bool) (number : ℕ) (algorithm : Option ℕ) (written covered : List ℕ) → algorithm ≡ cond has (Some number) None
    → let s : List ℕ = written ++ (algorithm_byte algorithm ++ suffix (is_some algorithm) covered) in cond has (Some (get_or s (length s - 5) 0)) None ≡ algorithm
stated_last false number algorithm written covered is = sym is
stated_last true number algorithm written covered is =
    let last : List ℕ = little_bytes 4 (crc32 covered) in
    let s : List ℕ = written ++ number ∷ last in
    let place : length s - 5 ≡ length written = omega (arith, length-append written (number ∷ last), length-little_bytes 4 (crc32 covered)) in
    let found : get_or s (length s - 5) 0 ≡ number = ap (λ (n : ℕ). get_or s n 0) place ∙ get_or-append_seam written number last 0 in
    subst (λ (a : Option ℕ). let t : List ℕ = written ++ (algorithm_byte a ++ suffix (is_some a) covered) in ◌≡◌ {A = Option ℕ} (Some (get_or t (length t - 5) 0)) a) (sym is)
    (ap (λ (n : ℕ). Some n) found)

-- ---- cases

first_of : {A : Type 0} (b : Bool) (x y : A) → b ≡ true → cond b x y ≡ x
first_of true x y is = refl
first_of false x y is = absurd cc

suffix_of : (description other : Bool) (algorithm : Option ℕ) (covered : List ℕ) → description ≡ true
    → length (algorithm_byte algorithm ++ suffix (is_some algorithm) covered) ≡ cond (description && is_some algorithm) 1 0 + cond (cond description (is_some algorithm) other) 4 0
suffix_of true other None covered is = refl
suffix_of true other (Some number) covered is = omega (arith, length-little_bytes 4 (crc32 covered))
suffix_of false other algorithm covered is = absurd cc

stated_byte : (algorithm : Option ℕ) → is_some algorithm ≡ true → unwrap_or algorithm 0 ∷ [] ≡ algorithm_byte algorithm
stated_byte None is = absurd cc
stated_byte (Some number) is = refl

not_so_short : (due : Bool) (s : List ℕ) → 52 ≤ length s → (due && nat_lt (length s) 4) ≡ false
not_so_short true s long = le-ltb _ _ (omega (arith, long))
not_so_short false s long = refl

item_is : (short description : Bool) (event : EventView) (read : Read FormatDescriptionEvent) (found : FormatDescriptionEvent) (other : Result EventView Error)
    → short ≡ false → description ≡ true → read ≡ Ok (found, []) → cond short (Err TooShortForChecksum) (cond description (unless_refused event read) other) ≡ Ok event
item_is true description event read found other long kind is = absurd cc
item_is false true event read found other long kind is = ap (unless_refused event) is
item_is false false event read found other long kind is = absurd cc

-- ---- the event

-- A description whose data is that of a frame, of which this was read.
module _ (d found : FormatDescriptionEvent) (source : List ℕ) (spelled : IsFormatDescription (data_of (footer_of (body source)) source) found [])
    (is : d ≡ record found { footer = footer_of (body source) }) where
  pub sized : length d.server_version ≡ 50
  sized = ap (λ (x : FormatDescriptionEvent). length x.server_version) is ∙ (spelled_version found (data_of (footer_of (body source)) source) [] spelled).0

  source_version : HasVersion d.server_version (body source)
  source_version =
      let front : List ℕ = data_of (footer_of (body source)) source in
      let count : ℕ = length (body source) - suffix_len (footer_of (body source)) source in
      subst (λ (s : List ℕ). HasVersion d.server_version s) (take-append-drop count (body source))
      (subst (λ (v : List ℕ). HasVersion v (front ++ drop count (body source))) (sym (ap (λ (x : FormatDescriptionEvent). x.server_version) is))
      (spelled_version found front (drop count (body source)) spelled).1)

  pub its_algorithm : d.footer.checksum_alg ≡ cond (has_checksums (split_of (take 49 d.server_version))) (Some (get_or (body source) (length (body source) - 5) 0)) None
  its_algorithm =
      ap (λ (x : FormatDescriptionEvent). x.footer.checksum_alg) is ∙ ap (λ (f : BinlogEventFooter). f.checksum_alg) (footer_by d.server_version (body source) source_version)

  pub is_enabled : d.footer.checksum_enabled ≡ true
  is_enabled = ap (λ (x : FormatDescriptionEvent). x.footer.checksum_enabled) is

  abbrev has : Bool
  has = is_some d.footer.checksum_alg

  abbrev bare : List ℕ
  bare = format_description.written (written_description d)

  -- The footer of the bytes behind a header.
  written_footer : (covered : List ℕ) → footer_of (bare ++ (algorithm_byte d.footer.checksum_alg ++ suffix has covered)) ≡ d.footer
  written_footer covered =
      let more : List ℕ = algorithm_byte d.footer.checksum_alg ++ suffix has covered in
      let footer : Option ℕ → Bool → BinlogEventFooter = λ algorithm enabled. record { checksum_alg = algorithm; checksum_enabled = enabled } in
      footer_by d.server_version (bare ++ more) (written_version (written_description d) more sized)
      ∙ ap (λ (a : Option ℕ). footer a true)
      (stated_last (has_checksums (split_of (take 49 d.server_version))) (get_or (body source) (length (body source) - 5) 0) d.footer.checksum_alg bare covered its_algorithm)
      ∙ ap (footer d.footer.checksum_alg) (sym is_enabled)

  pub read_again : format_description.reads bare ≡ Ok (record (written_description d) { footer = default_footer }, [])
  read_again =
      let fits : format_description.Fits (written_description d) = ((tt, (tt, (lit< tt, (lit< tt, refl)))), tt) in
      format_description.keeps.complete bare (format_description.normal (written_description d)) [] ((canonical_in format_description (written_description d)).reads_back fits)
      ∙ ap (λ (v : List ℕ). let x : FormatDescriptionEvent × List ℕ = (record (written_description d) { server_version = v; footer = default_footer }, []) in Ok x) (padded_all 50 d.server_version sized)

  module _ (place : ℕ) (heading : Heading)
      (h : HasHeader (header_written has place heading FORMAT_DESCRIPTION_EVENT (description_body d)) (behind_header has place heading FORMAT_DESCRIPTION_EVENT (description_body d))
      (event_bytes has place heading FORMAT_DESCRIPTION_EVENT (description_body d))) where
    abbrev frame : List ℕ
    frame = event_bytes has place heading FORMAT_DESCRIPTION_EVENT (description_body d)

    abbrev head : BinlogEventHeader
    head = header_written has place heading FORMAT_DESCRIPTION_EVENT (description_body d)

    abbrev covered : List ℕ
    covered = header.written head ++ description_body d

    its_kind : is_description frame ≡ true
    its_kind = ap (λ (x : BinlogEventHeader). x.event_type == 15) h.is

    its_body : body frame ≡ bare ++ (algorithm_byte d.footer.checksum_alg ++ suffix has covered)
    its_body = h.behind ∙ append_assoc bare (algorithm_byte d.footer.checksum_alg) (suffix has covered)

    its_footer : footer_of (body frame) ≡ d.footer
    its_footer = ap footer_of its_body ∙ written_footer covered

    its_data : data_of d.footer frame ≡ bare
    its_data =
        data_is (body frame) bare (algorithm_byte d.footer.checksum_alg ++ suffix has covered) _ its_body
        (suffix_of (is_description frame) (d.footer.checksum_enabled && is_on d.footer.checksum_alg) d.footer.checksum_alg covered its_kind)

    its_read : read_description (footer_of (body frame)) frame ≡ Ok (record (written_description d) { footer = default_footer }, [])
    unfolding read_description
    its_read = ap (λ (f : BinlogEventFooter). format_description_at (data_of f frame)) its_footer ∙ ap format_description_at its_data ∙ read_again

    -- It is accepted as the description.
    pub is_accepted : accepted frame ≡ Some (written_description d)
    is_accepted =
        first_of (is_description frame) (described (footer_of (body frame)) (read_description (footer_of (body frame)) frame)) None its_kind
        ∙ ap (described (footer_of (body frame))) its_read
        ∙ ap (λ (f : BinlogEventFooter). let x : FormatDescriptionEvent = record (written_description d) { footer = f } in Some x) its_footer

    is_under : (start : FormatDescriptionEvent) → footer_under start.footer frame ≡ d.footer
    is_under start = first_of (is_description frame) (footer_of (body frame)) start.footer its_kind ∙ its_footer

    long_enough : is_too_short d.footer frame ≡ false
    long_enough =
        not_so_short (has_checksum d.footer frame) (body frame)
        (subst (λ (s : List ℕ). 52 ≤ length s) (sym its_body) (written_version (written_description d) (algorithm_byte d.footer.checksum_alg ++ suffix has covered) sized).long)

    its_event : (start : FormatDescriptionEvent) → event_of start frame ≡ record { fde = record start { footer = d.footer }; frame = frame }
    its_event start =
        let event : FormatDescriptionEvent → EventView = λ x. record { fde = x; frame = frame } in
        ap event (first_of (is_description frame) (record start { footer = footer_of (body frame) }) start its_kind)
        ∙ ap (λ (f : BinlogEventFooter). event (record start { footer = f })) its_footer

    its_item : (start : FormatDescriptionEvent) → item_of start frame ≡ Ok (record { fde = record start { footer = d.footer }; frame = frame })
    its_item start =
        item_is (is_too_short (footer_under start.footer frame) frame) (is_description frame) (event_of start frame) (read_description (footer_of (body frame)) frame) _ _
        (ap (λ (f : BinlogEventFooter). is_too_short f frame) (is_under start) ∙ long_enough) its_kind its_read
        ∙ ap (λ (e : EventView). Ok e) (its_event start)

    its_checksummed : heading.flags % 2 ≡ 0 → has ≡ true → checksummed (stated_algorithm d.footer) d.footer frame ≡ covered
    unfolding header_not_in_use
    its_checksummed even due =
        let algorithm : ℕ = stated_algorithm d.footer in
        let stated : List ℕ = cond (is_description frame) (algorithm ∷ []) [] in
        ap (λ (x : BinlogEventHeader). header.written (not_in_use x) ++ data_of d.footer frame ++ stated) h.is
        ∙ ap (λ (x : BinlogEventHeader). header.written x ++ data_of d.footer frame ++ stated) (not_in_use_is head even)
        ∙ ap (λ (s : List ℕ). header.written head ++ s ++ stated) its_data
        ∙ ap (λ (s : List ℕ). header.written head ++ bare ++ s)
        (first_of (is_description frame) (algorithm ∷ []) [] its_kind ∙ stated_byte d.footer.checksum_alg due)

    its_due : has_checksum d.footer frame ≡ has
    its_due = first_of (is_description frame) has (d.footer.checksum_enabled && is_on d.footer.checksum_alg) its_kind

    its_checksum : heading.flags % 2 ≡ 0 → HasGivenChecksum IsCrc32 d.footer frame
    its_checksum even due long =
        (crc32 covered, ap crc32 (sym (its_checksummed even (sym its_due ∙ due))), stored_checksum has (has_checksum d.footer frame) covered its_due due)

    -- Its item is the event, whose checksum is right.
    pub description_verified : (start : FormatDescriptionEvent) → heading.flags % 2 ≡ 0
        → IsVerifiedItem IsCrc32 start frame (Ok (record { fde = record start { footer = d.footer }; frame = frame }))
    description_verified start even =
        inl (subst (λ (f : BinlogEventFooter). HasGivenChecksum IsCrc32 f frame) (sym (is_under start)) (its_checksum even), sym (its_item start))
