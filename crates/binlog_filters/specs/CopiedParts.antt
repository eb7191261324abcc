-- Which events of a log a copy may have, so that it is a log of these events.
use Rattle.std.specs.Prelude.{◌≡◌, ◌⊎◌, ℕ, List, [], ◌∷◌, Result, Ok, Err, flat_map, unwrap_or}
use Rattle.binlog_event_format.specs.declared.format_description.FormatDescriptionEvent.{FormatDescriptionEvent}
use Rattle.binlog_events.specs.Events.{EventView}
use Rattle.binlog_file.specs.Descriptions.{accepted}
use Rattle.binlog_file.specs.Items.{item_of}

-- The events are those of some of the frames, in order, read under this description and those that come into force. A frame
-- is left out only if it brings no other description into force.
abbrev pub ArePart : FormatDescriptionEvent → List (List ℕ) → List EventView → Type 0
ArePart d [] events = events ≡ []
ArePart d (frame ∷ frames) events =
    ((unwrap_or (accepted frame) d ≡ d) × ArePart d frames events)
    ⊎ ((event : EventView) × (others : List EventView) × (events ≡ event ∷ others) × (item_of d frame ≡ Ok event) × ArePart (unwrap_or (accepted frame) d) frames others)

-- All bytes of these events, one after another.
abbrev pub event_bytes : List EventView → List ℕ
event_bytes events = flat_map (λ (event : EventView). event.frame) events
