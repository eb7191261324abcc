-- The copy of a log that has the events which a filter takes, by what is inside compressed transactions.
use Rattle.std.specs.Prelude.{◌≡◌, ℕ, List, ◌++◌, map, Option, Result, Ok}
use Rattle.std.specs.Io.KnownBytes.{Appends}
use Rattle.binlog_wire.specs.declared.error.Error.{Error}
use Rattle.binlog_consts.specs.declared.version.BinlogVersion.TheVariants.{Version4}
use Rattle.binlog_event_format.specs.FormatDescription.{default_description}
use Rattle.binlog_events.specs.FileHeader.{file_header}
use Rattle.binlog_events.specs.Events.{EventView}
use Rattle.binlog_file.specs.StreamItems.{AreItems}
use Rattle.binlog_file.specs.TableMapsInForce.{no_table_maps}
use Rattle.binlog_filters.specs.declared.filter.Filter.{Filter}
use Rattle.binlog_filters.specs.declared.state.FilterState.{FilterState}
use Rattle.binlog_filters.specs.CopiedParts.{event_bytes}
use Rattle.binlog_payload_filters.specs.Taking.{TakesEvents}

-- The bytes are a log, and the output grew by all bytes of the events that the filter takes of its items. As a stream, they have these
-- events for their items, in order, each under the description under which it was read. The first item is at `position`, and `was` is
-- what is known there.
pub record IsFilteredCopy (filter : Filter) (limit : ℕ) (position : Option ℕ) (was : FilterState) (bytes : List ℕ) (old new : Option (List ℕ)) : Type 0 where
  pub stream : List ℕ
  pub file : bytes ≡ file_header ++ stream
  pub items : List (Result EventView Error)
  pub are : AreItems (default_description Version4) stream items
  pub events : List EventView
  pub taken : TakesEvents filter limit no_table_maps position was items events
  pub written : Appends old new (event_bytes events)
  pub log : AreItems (default_description Version4) (event_bytes events) (map Ok events)
