-- An event that is written is a frame, with the parts that were written.
use Rattle.std.proofs.Common.{◌≡◌, ℕ, ◌+◌, ◌-◌, ◌%◌, ◌^◌, ◌<◌, ◌≤◌, Bool, true, false, cond, ltb, eqb, List, [], ◌∷◌, ◌++◌, length, take, drop, Option, Some, None, is_some, Result, Ok, Err, refl, sym, ap, subst, ◌∙◌, append_assoc, append-nil, arith, length-append, length-drop, take_at, drop_at}
use Rattle.std.specs.Prelude.{◌==◌, ◌&&◌, nat_lt}
use Rattle.std.proofs.lemmas.Bool.{ltb-false, le-ltb}
use Rattle.std.proofs.lemmas.Bool.Decides.{nat_tests}
use Rattle.binlog_wire.specs.Fields.{little_bytes}
use Rattle.binlog_wire.specs.Laws.Numbers.{length-little_bytes}
use Rattle.binlog_wire.specs.Reading.{ends}
use Rattle.binlog_consts.specs.EventTypes.{event_number}
use Rattle.binlog_consts.specs.declared.event_type.EventType.{EventType}
use Rattle.binlog_event_format.specs.HeaderLaws.{header_at-reads}
use Rattle.binlog_event_format.specs.Headers.{header, header_of, header_at, not_in_use}
use Rattle.binlog_event_format.specs.declared.header.BinlogEventHeader.{BinlogEventHeader}
use Rattle.binlog_events.specs.Frames.{IsFrame, stated_size}
use Rattle.crc32_ieee.specs.Crc32.{crc32}
use Rattle.binlog_undo.specs.Events.{event_size, event_header, with_checksum, event_bytes, fits_at, FitsHeader}
use Rattle.binlog_undo.specs.declared.heading.Heading.{Heading}

-- ---- the header

in_full : (short : Bool) (x y : BinlogEventHeader × List ℕ) → cond short (Err ends) (Ok x) ≡ Ok y → (short ≡ false) × (x ≡ y)
in_full true x y is = absurd cc
in_full false x y is = (refl, cc)

-- A header that is written is the header of the bytes, and these are behind it.
pub record HasHeader (h : BinlogEventHeader) (rest frame : List ℕ) : Type 0 where
  pub is : header_of frame ≡ h
  pub behind : drop 19 frame ≡ rest
  pub long : length frame ≡ 19 + length rest

has_header : (h : BinlogEventHeader) (rest : List ℕ) → header.Fits h → HasHeader h rest (header.written h ++ rest)
has_header h rest fits =
    let frame : List ℕ = header.written h ++ rest in
    let read : header_at frame ≡ Ok (h, rest) = header_at-reads frame ∙ header.keeps.complete frame h rest (header.writes h rest fits tt) in
    let parts = in_full (ltb (length frame) 19) (header_of frame, drop 19 frame) (h, rest) read in
    let behind : drop 19 frame ≡ rest = ap (λ (p : BinlogEventHeader × List ℕ). p.1) parts.1 in
    let enough : 19 ≤ length frame = ltb-false _ _ parts.0 in
    record {
      is = ap (λ (p : BinlogEventHeader × List ℕ). p.0) parts.1;
      behind = behind;
      long = omega (arith, enough, length-drop 19 frame, ap length behind);
    }

-- ---- the checksum behind it

-- The bytes that are behind others: their CRC-32, or none.
abbrev pub suffix : Bool → List ℕ → List ℕ
suffix false s = []
suffix true s = little_bytes 4 (crc32 s)

pub length-suffix : (has : Bool) (s : List ℕ) → length (suffix has s) ≡ cond has 4 0
length-suffix false s = refl
length-suffix true s = length-little_bytes 4 (crc32 s)

with_suffix : (has : Bool) (head body : List ℕ) → with_checksum has (head ++ body) ≡ head ++ (body ++ suffix has (head ++ body))
with_suffix false head body = ap (λ (s : List ℕ). head ++ s) (sym (append-nil body))
with_suffix true head body = append_assoc head body (little_bytes 4 (crc32 (head ++ body)))

-- The last four bytes are the checksum, if there is one.
pub stored_checksum : (has due : Bool) (s : List ℕ) → due ≡ has → due ≡ true
    → cond due (Some (drop (length (with_checksum has s) - 4) (with_checksum has s))) None ≡ Some (little_bytes 4 (crc32 s))
stored_checksum true true s same is =
    let last : List ℕ = little_bytes 4 (crc32 s) in
    let front : length s ≡ length (s ++ last) - 4 = omega (arith, length-append s last, length-little_bytes 4 (crc32 s)) in
    ap (λ (l : List ℕ). Some l) (drop_at s last (length (s ++ last) - 4) front)
stored_checksum true false s same is = absurd cc
stored_checksum false true s same is = absurd cc
stored_checksum false false s same is = absurd cc

-- ---- the frame

both_true : (a b : Bool) → (a && b) ≡ true → (a ≡ true) × (b ≡ true)
both_true true b is = (refl, is)
both_true false b is = absurd cc

below : (n m : ℕ) → nat_lt n m ≡ true → n < m
below n m is = grind (arith, nat_tests)

module _ (has : Bool) (place : ℕ) (heading : Heading) (event_type : EventType) (body : List ℕ) where
  -- The header of the event.
  abbrev pub header_written : BinlogEventHeader
  header_written = event_header (event_size has body) (place + event_size has body) heading event_type

  -- What is behind its header.
  abbrev pub behind_header : List ℕ
  behind_header = body ++ suffix has (header.written header_written ++ body)

  pub length-behind : length behind_header ≡ length body + cond has 4 0
  length-behind =
      length-append body (suffix has (header.written header_written ++ body)) ∙ ap (λ (n : ℕ). length body + n) (length-suffix has (header.written header_written ++ body))

  header_fits : FitsHeader has place heading body → event_number event_type < 256 → header.Fits header_written
  header_fits fits small =
      let end : (place + event_size has body) % 2 ^ 32 < 2 ^ 32 = omega arith in
      (fits.timestamp, (small, (fits.server_id, (below (event_size has body) (2 ^ 32) (both_true _ _ fits.size).0, (end, fits.flags)))))

  pub written_header : FitsHeader has place heading body → event_number event_type < 256
      → HasHeader header_written behind_header (event_bytes has place heading event_type body)
  written_header fits small =
      subst (λ (s : List ℕ). HasHeader header_written behind_header s) (sym (with_suffix has (header.written header_written) body))
      (has_header header_written behind_header (header_fits fits small))

  pub written_frame : HasHeader header_written behind_header (event_bytes has place heading event_type body) → IsFrame (event_bytes has place heading event_type body)
  written_frame h =
      let size : stated_size (event_bytes has place heading event_type body) ≡ event_size has body = ap (λ (x : BinlogEventHeader). x.event_size) h.is in
      record { header = omega (arith, h.long); whole = omega (arith, h.long, length-behind, size) }
