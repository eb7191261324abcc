-- The images of an event have a bit for each column of its table, and the rows of a table map are those of its columns.
use Rattle.std.proofs.Common.{◌≡◌, ℕ, Bool, true, List, length, Option, None, Some, Result, Ok, Err, refl, ap, ◌∙◌, arith}
use Rattle.std.proofs.lemmas.Bool.Decides.{nat_tests}
use Rattle.std.specs.Prelude.{IfSome, nat_eq}
use Rattle.binlog_columns.specs.Metadata.{Typed}
use Rattle.binlog_columns.specs.Refusals.{refusal, columns_in}
use Rattle.binlog_columns.specs.RefusalLaws.{columns_count}
use Rattle.binlog_rows.specs.Columns.{Bitmap}
use Rattle.binlog_rows.specs.Rows.{IsOfForm}
use Rattle.binlog_rows.specs.declared.rows_event.RowsEvent.{RowsEvent}
use Rattle.binlog_rows.specs.declared.rows_form.RowsForm.{RowsForm}
use Rattle.binlog_rows.specs.declared.table_map_event.TableMapEvent.{TableMapEvent}
use Rattle.binlog_images.specs.Events.{HasBitEach, mapped_columns, count_error, event_error}
use Rattle.binlog_images.specs.EventRows.{GivesRows, GivesRowsOf}
use Rattle.binlog_images.specs.declared.rows.Rows.{Rows}
use Rattle.binlog_images.specs.declared.rows_error.RowsEventError.{RowsEventError}

-- As many columns are there as types.
counted : (columns : List Typed) (types m : List ℕ) → refusal 0 types m ≡ None → columns ≡ columns_in types m → length columns ≡ length types
counted columns types m none are = ap length are ∙ columns_count 0 types m none

-- Why the rows can't be read, of an event of the table map whose columns aren't refused.
error_is : (map : TableMapEvent) (event : RowsEvent) → event.head.table_id ≡ map.table.id → refusal 0 map.columns.types map.columns.metadata ≡ None
    → event_error map event ≡ count_error event.columns.count (length (mapped_columns map))
error_is map event same none =
    let table : nat_eq event.head.table_id map.table.id ≡ true = grind (arith, nat_tests) in
    rw (table, none, counted (mapped_columns map) map.columns.types map.columns.metadata none refl) refl

no_error : (map : TableMapEvent) (event : RowsEvent) → event.head.table_id ≡ map.table.id → refusal 0 map.columns.types map.columns.metadata ≡ None
    → count_error event.columns.count (length (mapped_columns map)) ≡ None → event_error map event ≡ None
no_error map event same none counts = error_is map event same none ∙ counts

each : (columns : List Typed) (present : Option Bitmap) (count : ℕ) → IfSome present (λ bits. bits.0 ≡ count) → count ≡ length columns → HasBitEach columns present
each columns None count h same = h
each columns (Some bits) count h same = h ∙ same

pub before_bits : (columns : List Typed) (event : RowsEvent) → (form : RowsForm) × IsOfForm form event → event.columns.count ≡ length columns → HasBitEach columns event.columns.before
before_bits columns event of same = each columns event.columns.before event.columns.count of.1.before.1 same

pub after_bits : (columns : List Typed) (event : RowsEvent) → (form : RowsForm) × IsOfForm form event → event.columns.count ≡ length columns → HasBitEach columns event.columns.after
after_bits columns event of same = each columns event.columns.after event.columns.count of.1.after.1 same

-- The rows for a table with the columns of a table map are those for the table map, and so are refusals.
pub of_map : (is_partial : Bool) (map : TableMapEvent) (event : RowsEvent) (answer : Result Rows RowsEventError) → event.head.table_id ≡ map.table.id
    → refusal 0 map.columns.types map.columns.metadata ≡ None → GivesRowsOf is_partial (mapped_columns map) event answer → GivesRows is_partial map event answer
of_map is_partial map event (Ok rows) same none given = (no_error map event same none given.0, given.1)
of_map is_partial map event (Err error) same none given = error_is map event same none ∙ given
