-- The description of the log that is written.
use Rattle.std.specs.Prelude.{◌≡◌, ◌⊎◌, ℕ, ◌+◌, ◌==◌, Bool, true, false, List, [], ◌∷◌, ◌++◌, Option, Some, None, is_some, option_map}
use Rattle.std.specs.Io.KnownBytes.{Appends}
use Rattle.binlog_consts.specs.declared.event_type.EventType.TheVariants.{FORMAT_DESCRIPTION_EVENT}
use Rattle.binlog_event_format.specs.FormatDescription.{format_description}
use Rattle.binlog_event_format.specs.declared.format_description.FormatDescriptionEvent.{FormatDescriptionEvent}
use Rattle.binlog_event_format.specs.declared.header.BinlogEventHeader.{BinlogEventHeader}
use Rattle.binlog_undo_log.specs.declared.output.UndoOutput.{UndoOutput}
use Rattle.binlog_undo.specs.Events.{event_size, event_bytes, FitsHeader}
use Rattle.binlog_undo.specs.declared.heading.Heading.{Heading}

abbrev pub algorithm_byte : Option ℕ → List ℕ
algorithm_byte None = []
algorithm_byte (Some number) = number ∷ []

-- The same description, created at 0.
abbrev pub written_description : FormatDescriptionEvent → FormatDescriptionEvent
written_description d = record d { create_timestamp = 0 }

-- Its body, and the number of its algorithm, if it states one.
abbrev pub description_body : FormatDescriptionEvent → List ℕ
description_body d = format_description.written (written_description d) ++ algorithm_byte d.footer.checksum_alg

-- The time and the server of the description, and no flags.
abbrev pub description_heading : BinlogEventHeader → Heading
description_heading header = record { timestamp = header.timestamp; server_id = header.server_id; flags = 0 }

-- Events have a CRC-32 under the algorithm 1.
abbrev pub has_checksums_under : Option ℕ → Bool
has_checksums_under None = false
has_checksums_under (Some number) = number == 1

-- The events are under a description with this body, with checksums or without.
pub record IsUnder {W : Type 0} (body : List ℕ) (has_checksums : Bool) (output : UndoOutput W) : Type 0 where
  pub body_is : option_map (λ written. written.items) output.description ≡ Some body
  pub checksums : output.has_checksums ≡ has_checksums

-- A description with this body is written. It has a checksum if it states an algorithm.
pub record PushesDescription {W : Type 0} (contents : W → Option (List ℕ)) (header : BinlogEventHeader) (d : FormatDescriptionEvent) (written : List ℕ) (old new : UndoOutput W) : Type 0 where
  pub bytes : Appends (contents old.writer) (contents new.writer)
      (event_bytes (is_some d.footer.checksum_alg) old.place (description_heading header) FORMAT_DESCRIPTION_EVENT written)
  pub fits : FitsHeader (is_some d.footer.checksum_alg) old.place (description_heading header) written
  pub place : new.place ≡ old.place + event_size (is_some d.footer.checksum_alg) written
  pub bounds : new.has_bounds ≡ old.has_bounds

-- The description is written, and the events behind it are under it. None is written within the one transaction for all.
pub record Describes {W : Type 0} (contents : W → Option (List ℕ)) (header : BinlogEventHeader) (d : FormatDescriptionEvent) (old new : UndoOutput W) : Type 0 where
  pub written : PushesDescription contents header d (description_body d) old new
  pub is_under : IsUnder (description_body d) (has_checksums_under d.footer.checksum_alg) new
  pub bounds : new.has_bounds ≡ old.has_bounds
  pub apart : old.has_bounds ≡ true

-- So it is, unless the events are under the same one.
abbrev pub DescribesOnce : {W : Type 0} → (W → Option (List ℕ)) → BinlogEventHeader → FormatDescriptionEvent → UndoOutput W → UndoOutput W → Type 0
DescribesOnce contents header d old new =
    (IsUnder (description_body d) (has_checksums_under d.footer.checksum_alg) old × (new ≡ old)) ⊎ Describes contents header d old new
