-- Counting the events of a log by type, and those inside its compressed transactions apart.
use Rattle.std.specs.Prelude.{◌≡◌, ℕ, List, [], ◌∷◌, ◌++◌, map, length, Option, Some, None, Result, Ok, Err}
use Rattle.binlog_wire.specs.declared.error.Error.{Error}
use Rattle.binlog_event_format.specs.Headers.{header_of}
use Rattle.binlog_events.specs.Events.{EventView}
use Rattle.binlog_payload_visits.specs.Parts.{Part, AreParts}
use Rattle.binlog_commands.specs.Statistics.{no_items, CountsItem}
use Rattle.binlog_commands.specs.WholeCounts.{AreCounted}
use Rattle.change_statistics.specs.TypeCounting.{CountsTyped, Typed, no_type_counts}
use Rattle.change_statistics.specs.WholeTypes.{AreTypeCounts}
use Rattle.binlog_commands.specs.declared.spliced_stats.SplicedStats.{SplicedStats}

-- Nothing is counted yet.
abbrev pub nothing_counted : SplicedStats
nothing_counted = record { outside = no_items; inside = no_type_counts }

-- What is counted of a part: its type and its bytes; None of an error.
abbrev pub typed : Part → Option Typed
typed (Ok event) = Some (record { type = (header_of event.frame).event_type; bytes = length event.frame })
typed (Err e) = None

-- An item is counted as that of a log, and a part by its type.
abbrev pub CountsOutside : SplicedStats → ℕ → Result EventView Error → SplicedStats → Type 0
CountsOutside old index item new = CountsItem old.outside index item new.outside × (new.inside ≡ old.inside)

abbrev pub CountsInside : SplicedStats → Part → SplicedStats → Type 0
CountsInside old part new = CountsTyped old.inside (typed part) new.inside × (new.outside ≡ old.outside)

-- These are the parts of all items, in order. Contents of more than `limit` bytes are refused.
abbrev pub AreAllParts : (limit : ℕ) → List (Result EventView Error) → List Part → Type 0
AreAllParts limit [] parts = parts ≡ []
AreAllParts limit (item ∷ items) parts =
    (inside : List Part) × AreParts limit item inside × (others : List Part) × AreAllParts limit items others × (parts ≡ inside ++ others)

-- The counts are those of all items, and apart from them those of all their parts.
pub record AreSplicedCounts (limit : ℕ) (items : List (Result EventView Error)) (stats : SplicedStats) : Type 0 where
  pub outside : AreCounted items stats.outside
  pub parts : List Part
  pub all : AreAllParts limit items parts
  pub inside : AreTypeCounts (map typed parts) stats.inside
