-- The event that undoes another one is read from the bytes that are written for it.
use Rattle.std.proofs.Common.{◌≡◌, ℕ, ◌<◌, ◌^◌, Bool, true, false, cond, List, [], Option, None, Some, Ok, refl, sym, ◌∙◌, ap, subst, append-nil, arith}
use Rattle.std.specs.Prelude.{option_map, is_some}
use Rattle.std.proofs.lemmas.Nat.{or_of_16}
use Rattle.binlog_columns.specs.Metadata.{Typed}
use Rattle.binlog_rows.specs.Columns.{Bitmap}
use Rattle.binlog_rows.specs.Forms.{default_length}
use Rattle.binlog_rows.specs.Rows.{extra_in, image, columns, rows, IsImage, IsOfForm, rows_written}
use Rattle.binlog_rows.specs.RowsData.{event_in, form_in, data_written}
use Rattle.binlog_rows.specs.Writable.{RowsInRange}
use Rattle.binlog_rows.specs.Laws.RowsWriting.{rows_written_is}
use Rattle.binlog_rows.specs.Laws.Writable.{rows_fit}
use Rattle.binlog_rows.specs.declared.rows_form.RowsForm.{RowsForm}
use Rattle.binlog_rows.specs.declared.rows_event.RowsEvent.{RowsEvent}
use Rattle.binlog_rows.specs.declared.rows_event_data.RowsEventData.{RowsEventData}
use Rattle.binlog_rows.specs.declared.rows_event_data.RowsEventData.TheVariants as types
use Rattle.binlog_consts.specs.declared.event_type.EventType.{EventType}
use Rattle.binlog_undo.specs.Coverage.{completes}
use Rattle.binlog_undo.specs.InverseEvents.{added_flags, inverse_parts, inverse_event, inverse_type, type_of, GivesInverse, ChecksInverse}
use Rattle.binlog_undo.specs.UndoneEvents.{Undone, UndoesRows}
use Rattle.binlog_undo.specs.declared.inverse_event.ForeignKeyChecks.{ForeignKeyChecks}
use Rattle.binlog_undo.specs.declared.inverse_event.ForeignKeyChecks.TheVariants.{AsLogged, Off}
use Rattle.binlog_undo.specs.declared.inverse_event.InverseEvent.{InverseEvent}

-- ---- the type and the parts

-- The images are exchanged.
abbrev exchanged_form : RowsForm → RowsForm
exchanged_form form = record { has_extra = form.has_extra; has_before = form.has_after; has_after = form.has_before }

module _ (completed : Bool) (checks : ForeignKeyChecks) (undone : List ℕ) where
  pub type_is : (event : RowsEventData) → type_of (inverse_event completed checks undone event) ≡ inverse_type event
  type_is (types.WriteRowsEventV1 event) = refl
  type_is (types.UpdateRowsEventV1 event) = refl
  type_is (types.DeleteRowsEventV1 event) = refl
  type_is (types.WriteRowsEvent event) = refl
  type_is (types.UpdateRowsEvent event) = refl
  type_is (types.DeleteRowsEvent event) = refl
  type_is (types.PartialUpdateRowsEvent event) = refl

  pub parts_are : (event : RowsEventData) → event_in (inverse_event completed checks undone event) ≡ inverse_parts completed checks undone (event_in event)
  parts_are (types.WriteRowsEventV1 event) = refl
  parts_are (types.UpdateRowsEventV1 event) = refl
  parts_are (types.DeleteRowsEventV1 event) = refl
  parts_are (types.WriteRowsEvent event) = refl
  parts_are (types.UpdateRowsEvent event) = refl
  parts_are (types.DeleteRowsEvent event) = refl
  parts_are (types.PartialUpdateRowsEvent event) = refl

  form_is : (event : RowsEventData) → form_in (inverse_event completed checks undone event) ≡ exchanged_form (form_in event)
  form_is (types.WriteRowsEventV1 event) = refl
  form_is (types.UpdateRowsEventV1 event) = refl
  form_is (types.DeleteRowsEventV1 event) = refl
  form_is (types.WriteRowsEvent event) = refl
  form_is (types.UpdateRowsEvent event) = refl
  form_is (types.DeleteRowsEvent event) = refl
  form_is (types.PartialUpdateRowsEvent event) = refl

-- ---- the form

extra_kept : (extra : Option (List ℕ)) → is_some (option_map (λ (bytes : List ℕ). let none : List ℕ = [] in none) extra) ≡ is_some extra
extra_kept None = refl
extra_kept (Some bytes) = refl

-- Both images are there if one is completed, and then have the columns of the image before.
both_images : (has_before has_after : Bool) (count : ℕ) (before after : Option Bitmap) → IsImage has_before count before → IsImage has_after count after
    → completes before after ≡ true → IsImage has_after count before
both_images has_before has_after count None after b a h = absurd cc
both_images has_before has_after count (Some before) None b a h = absurd cc
both_images has_before has_after count (Some before) (Some after) b a h = (a.0, b.1)

of_form : (completed : Bool) (checks : ForeignKeyChecks) (undone : List ℕ) (form : RowsForm) (event : RowsEvent) → IsOfForm form event
    → completed ≡ completes event.columns.before event.columns.after → IsOfForm (exchanged_form form) (inverse_parts completed checks undone event)
of_form false checks undone form event is h = record { extra = extra_kept event.head.extra ∙ is.extra; before = is.after; after = is.before }
of_form true checks undone form event is h = record {
  extra = extra_kept event.head.extra ∙ is.extra;
  before = both_images form.has_before form.has_after event.columns.count event.columns.before event.columns.after is.before is.after (sym h);
  after = is.before;
}

-- ---- the normal form

no_extra : (has_extra : Bool) (extra : Option (List ℕ)) → is_some extra ≡ has_extra
    → (extra_in has_extra (cond has_extra 10 8)).normal (option_map (λ (bytes : List ℕ). let none : List ℕ = [] in none) extra) ≡ option_map (λ (bytes : List ℕ). let none : List ℕ = [] in none) extra
no_extra true None h = absurd cc
no_extra true (Some bytes) h = refl
no_extra false None h = refl
no_extra false (Some bytes) h = absurd cc

image_normal : (has_image : Bool) (count : ℕ) (columns : Option Bitmap) → IsImage has_image count columns → (image has_image count).normal columns ≡ columns
image_normal true count (Some columns) is = ap (λ (n : ℕ). let bits : Bitmap = (n, columns.1) in Some bits) (sym is.1)
image_normal true count None is = absurd cc
image_normal false count (Some columns) is = absurd cc
image_normal false count None is = refl

-- An event with these extra bytes and images.
abbrev event_with : RowsEvent → Option (List ℕ) → Option Bitmap → Option Bitmap → RowsEvent
event_with event extra before after = record {
  head = record { table_id = event.head.table_id; flags = event.head.flags; extra = extra };
  columns = record { count = event.columns.count; before = before; after = after };
  rows = event.rows;
}

-- An event without extra bytes is its own normal form.
is_normal : (form : RowsForm) (event : RowsEvent) (extra : Option (List ℕ)) → IsOfForm form event → event.head.extra ≡ option_map (λ (bytes : List ℕ). let none : List ℕ = [] in none) extra
    → is_some extra ≡ form.has_extra → (rows form (default_length form)).normal event ≡ event
unfolding rows
is_normal form event extra is none has =
    let normal_extra : (extra_in form.has_extra (default_length form)).normal event.head.extra ≡ event.head.extra =
    subst (λ (o : Option (List ℕ)). (extra_in form.has_extra (default_length form)).normal o ≡ o) (sym none) (no_extra form.has_extra extra has) in
    let before : Option Bitmap = (image form.has_before event.columns.count).normal event.columns.before in
    let after : Option Bitmap = (image form.has_after event.columns.count).normal event.columns.after in
    ap (λ (o : Option (List ℕ)). event_with event o before after) normal_extra
    ∙ ap (λ (o : Option Bitmap). event_with event event.head.extra o after) (image_normal form.has_before event.columns.count event.columns.before is.before)
    ∙ ap (λ (o : Option Bitmap). event_with event event.head.extra event.columns.before o) (image_normal form.has_after event.columns.count event.columns.after is.after)

-- ---- what is written is read

flags_small : (checks : ForeignKeyChecks) → added_flags checks < 2 ^ 16
flags_small AsLogged = omega arith
flags_small Off = omega arith

in_range : (completed : Bool) (checks : ForeignKeyChecks) (undone : List ℕ) (event : RowsEvent) → RowsInRange event → RowsInRange (inverse_parts completed checks undone event)
in_range false checks undone event range = record {
  table_id = range.table_id;
  flags = or_of_16 event.head.flags (added_flags checks) range.flags (flags_small checks);
  count = range.count;
  before = range.after;
  after = range.before;
}
in_range true checks undone event range = record {
  table_id = range.table_id;
  flags = or_of_16 event.head.flags (added_flags checks) range.flags (flags_small checks);
  count = range.count;
  before = range.before;
  after = range.before;
}

-- The written bytes of an event are read as its normal form.
read_back : (form : RowsForm) (event : RowsEvent) → (rows form (default_length form)).Fits event → (rows form (default_length form)).normal event ≡ event
    → (rows form (default_length form)).spells ((rows form (default_length form)).written event) event []
read_back form event fits normal =
    let of = rows form (default_length form) in
    subst (λ (e : RowsEvent). of.spells (of.written event) e []) normal
    (subst (λ (s : List ℕ). of.spells s (of.normal event) []) (append-nil (of.written event)) (of.writes event [] fits refl))

-- An event is written by these parts, and is read from the bytes.
abbrev IsReadAs : RowsEvent → RowsForm → RowsEvent → Type 0
IsReadAs parts form event =
    (rows_written parts ≡ (rows form (default_length form)).written event) × (rows form (default_length form)).spells ((rows form (default_length form)).written event) event []

-- The parts of the inverse, in the form of its type.
parts_read : (completed : Bool) (checks : ForeignKeyChecks) (undone : List ℕ) (form : RowsForm) (event : RowsEvent) → IsOfForm form event → RowsInRange event
    → completed ≡ completes event.columns.before event.columns.after
    → IsReadAs (inverse_parts completed checks undone event) (exchanged_form form) (inverse_parts completed checks undone event)
parts_read completed checks undone form event is range h =
    let other : RowsForm = exchanged_form form in
    let inverse : RowsEvent = inverse_parts completed checks undone event in
    let has : IsOfForm other inverse = of_form completed checks undone form event is h in (
      rows_written_is other inverse has,
      read_back other inverse (rows_fit other inverse (in_range completed checks undone event range) has) (is_normal other inverse event.head.extra has refl is.extra),
    )

-- The event that undoes this one is written.
pub inverse_written : (key : List ℕ) (columns : List Typed) (checks : ForeignKeyChecks) (event : RowsEventData) (undone : Undone) (written : InverseEvent)
    → UndoesRows key columns event undone → IsOfForm (form_in event) (event_in event) → RowsInRange (event_in event)
    → written.event_type ≡ inverse_type event → written.body.items ≡ rows_written (inverse_parts undone.completes checks undone.bytes (event_in event))
    → GivesInverse key columns checks event (Ok written)
inverse_written key columns checks event undone written undoes form range event_type body =
    let c : Bool = undone.completes in
    let u : List ℕ = undone.bytes in
    let inverse : RowsEventData = inverse_event c checks u event in
    let parts : RowsEvent = inverse_parts c checks u (event_in event) in
    let read = parts_read c checks u (form_in event) (event_in event) form range undoes.completed in
    let held = subst (λ (e : RowsEvent). IsReadAs parts (form_in inverse) e) (sym (parts_are c checks u event))
    (subst (λ (f : RowsForm). IsReadAs parts f parts) (sym (form_is c checks u event)) read) in
    let bytes : written.body.items ≡ data_written inverse = body ∙ held.0 in (
      inverse,
      record { undone = undone; undoes = undoes; is = refl },
      record {
        event_type = event_type ∙ sym (type_is c checks u event);
        body = bytes;
        is_read = subst (λ (s : List ℕ). (rows (form_in inverse) (default_length (form_in inverse))).spells s (event_in inverse) []) (sym bytes) held.1;
      },
    )

-- An event that can be undone has an inverse, of this type.
pub inverse_found : (key : List ℕ) (columns : List Typed) (event : RowsEventData) (event_type : EventType) (undone : Undone) → UndoesRows key columns event undone
    → event_type ≡ inverse_type event → ChecksInverse key columns event (Ok event_type)
inverse_found key columns event event_type undone undoes is checks = (
  inverse_event undone.completes checks undone.bytes event,
  record { undone = undone; undoes = undoes; is = refl },
  is ∙ sym (type_is undone.completes checks undone.bytes event),
)
