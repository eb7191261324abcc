-- The facts of the items of a log, and of the events inside its compressed transactions.
use Rattle.std.specs.Prelude.{◌≡◌, ℕ, List, [], ◌∷◌, ◌++◌, Result, Ok, Err}
use Rattle.binlog_wire.specs.declared.error.Error.{Error}
use Rattle.binlog_event_format.specs.Headers.{header_of}
use Rattle.binlog_events.specs.Events.{EventView}
use Rattle.binlog_file.specs.TableMapsInForce.{TableMaps, no_table_maps}
use Rattle.binlog_visits.specs.TableMaps.{maps_behind}
use Rattle.binlog_payload_visits.specs.Parts.{Part, AreParts, maps_behind_part}
use Rattle.change_statistics.specs.Facts.{Fact}
use Rattle.binlog_statistics.specs.ItemFacts.{AreItemFacts, IsPartFact}

-- The facts of a part, before those of others: that of an event, and none of an error.
abbrev pub AreOneFacts : (end : ℕ) → TableMaps → Part → (others facts : List Fact) → Type 0
AreOneFacts end maps (Ok event) others facts = (fact : Fact) × IsPartFact end maps event fact × (facts ≡ fact ∷ others)
AreOneFacts end maps (Err e) others facts = facts ≡ others

-- The facts of parts one after another, where these table maps are in force before the first one, and their event ends at `end`.
abbrev pub ArePartFacts : (end : ℕ) → TableMaps → List Part → List Fact → Type 0
ArePartFacts end maps [] facts = facts ≡ []
ArePartFacts end maps (part ∷ parts) facts =
    (others : List Fact) × ArePartFacts end (maps_behind_part maps part) parts others × AreOneFacts end (maps_behind_part maps part) part others facts

-- The position behind an item, as it states.
abbrev pub end_of : Result EventView Error → ℕ
end_of (Ok event) = (header_of event.frame).log_pos
end_of (Err error) = 0

-- The facts of the parts of an item.
pub record AreFactsInside (limit : ℕ) (item : Result EventView Error) (facts : List Fact) : Type 0 where
  pub parts : List Part
  pub are : AreParts limit item parts
  pub seen : ArePartFacts (end_of item) no_table_maps parts facts

-- The facts of items one after another, each with those of its parts behind it.
abbrev pub AreSplicedFacts : (limit : ℕ) → TableMaps → List (Result EventView Error) → List Fact → Type 0
AreSplicedFacts limit maps [] facts = facts ≡ []
AreSplicedFacts limit maps (item ∷ items) facts =
    (others : List Fact) × AreSplicedFacts limit (maps_behind maps item) items others
    × (inside : List Fact) × AreFactsInside limit item inside × AreItemFacts (maps_behind maps item) item (inside ++ others) facts
