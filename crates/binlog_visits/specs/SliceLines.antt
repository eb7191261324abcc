-- The listing of the items of a slice.
use Rattle.std.specs.Prelude.{◌≡◌, ◌⊎◌, ℕ, Bool, false, List, Option, Some, Result, Ok, Err}
use Rattle.binlog_wire.specs.declared.error.Error.{Error}
use Rattle.binlog_wire.specs.declared.error.Error.TheVariants.{EndOfInput, InvalidFileHeader, Memory, Writer}
use Rattle.binlog_file.specs.Events.{EventView}
use Rattle.binlog_event_format.specs.declared.format_description.FormatDescriptionEvent.{FormatDescriptionEvent}
use Rattle.binlog_file.specs.declared.slice.BinlogSlice.{BinlogSlice}
use Rattle.binlog_file.specs.Slices.{slice_fde}
use Rattle.binlog_file.specs.State.{StreamState, Handles}
use Rattle.binlog_file.specs.TableMapsInForce.{no_table_maps}
use Rattle.binlog_visits.specs.Places.{Place, LeavesLooked}
use Rattle.binlog_visits.specs.Lines.{ListsItems}

-- The state of an iteration that keeps no table maps.
abbrev pub state_under : FormatDescriptionEvent → StreamState
state_under d = record { fde = d; table_maps = no_table_maps }

-- Where the iteration over a slice stands, if this says whether only None is left.
abbrev pub slice_place : (slice : BinlogSlice) (ended : Bool) → Place
slice_place slice ended = record { state = state_under (slice_fde slice); unread = Some slice.rest.now; ended = ended }

-- The results of listing the items that are left in a slice, and what is written.
pub record ListsSlice (line : ℕ → Result EventView Error → List ℕ) (takes : Result EventView Error → Type 0) (slice : BinlogSlice) (old : Option (List ℕ)) (answer : Result Bool Error) (new : Option (List ℕ)) : Type 0 where
  pub after : Place
  pub lists : ListsItems Handles LeavesLooked line takes (slice_place slice false) old answer after new

-- The errors of listing a file in memory: it has no file header, or an allocation or the writer failed. No reader is there to fail.
abbrev pub IsSliceError : Error → Type 0
IsSliceError error = (error ≡ EndOfInput) ⊎ ((error ≡ InvalidFileHeader) ⊎ ((error ≡ Memory) ⊎ (error ≡ Writer)))

-- The result of listing one item.
abbrev pub answered : Result Bool Error → Result (Option Bool) Error
answered (Ok is_error) = Ok (Some is_error)
answered (Err error) = Err error
