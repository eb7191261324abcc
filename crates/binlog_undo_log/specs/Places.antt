-- Where the row events of a transaction are: in its file, or in the content of its last event.
use Rattle.std.specs.Prelude.{◌≡◌, ◌⊎◌, ℕ, List, ◌++◌, drop, Some, None, Ok}
use Rattle.binlog_event_format.specs.declared.format_description.FormatDescriptionEvent.{FormatDescriptionEvent}
use Rattle.binlog_events.specs.Events.{EventView}
use Rattle.binlog_payloads.specs.Contents.{content_of}
use Rattle.binlog_payloads.specs.Events.{payload_in}
use Rattle.binlog_payloads.specs.Fields.{Payload}
use Rattle.binlog_payloads.specs.InnerEvents.{inner_fde}
use Rattle.binlog_undo_log.specs.Compressed.{most_bytes}

-- The frames of a file: the frame with these bytes begins at this place.
abbrev pub FramesOf : Type 1
FramesOf = ℕ → List ℕ → Type 0

-- These bytes are at this place of a file, or of a content.
pub record IsFrameIn (bytes : List ℕ) (place : ℕ) (frame : List ℕ) : Type 0 where
  pub rest : List ℕ
  pub at : drop place bytes ≡ frame ++ rest

-- The event has this content, of at most 1 GiB.
pub record HasContent (event : EventView) (content : List ℕ) : Type 0 where
  pub payload : Payload
  pub payload_is : payload_in event ≡ Ok (Some payload)
  pub content_is : content_of most_bytes payload ≡ Ok content

-- This holds of the frames of the content of an event, under the description of these.
pub record InContent (are : FramesOf → FormatDescriptionEvent → Type 0) (event : EventView) : Type 0 where
  pub content : List ℕ
  pub has : HasContent event content
  pub in_it : are (IsFrameIn content) (inner_fde event.fde)

-- This holds of the frames among which the row events are of a transaction with this last event: those of its file, or those of its content,
-- if it has one.
abbrev pub AtPlaces : (FramesOf → FormatDescriptionEvent → Type 0) → FramesOf → FormatDescriptionEvent → EventView → Type 0
AtPlaces are is_at fde event = ((payload_in event ≡ Ok None) × are is_at fde) ⊎ InContent are event
