-- A table map and a row event that were read are their own normal forms in the format in which they are written.
use Rattle.std.proofs.Common.{◌≡◌, ℕ, List, Bool, true, false, cond, Option, None, [], refl, subst, eqb, sym, ap, ◌∙◌}
use Rattle.binlog_wire.specs.Formats.{anywhere, silent}
use Rattle.binlog_variable_fields.specs.Chosen.{choose}
use Rattle.binlog_rows.specs.TableMaps.{table_map}
use Rattle.binlog_rows.specs.declared.table_map_event.TableMapEvent.{TableMapEvent}
use Rattle.binlog_rows.specs.Rows.{extra, extra_in, present, forgotten, no_extra, columns, rows}
use Rattle.binlog_rows.specs.declared.rows_form.RowsForm.{RowsForm}
use Rattle.binlog_rows.specs.declared.rows_event.RowsEvent.{RowsEvent}
use Rattle.binlog_rows.specs.Forms.{default_length}

-- The post-header's length matters only for the length of the table id.
pub map_normal : (post_header : ℕ) (s : List ℕ) (event : TableMapEvent) (r : List ℕ) → (table_map post_header).spells s event r → (table_map 8).normal event ≡ event
map_normal post_header s event r h = (table_map post_header).settled s event r h

-- The extra bytes, for a post-header length of 10 or another one.
extra_normal : (has_extra is_ten : Bool) (o : Option (List ℕ))
    → (choose {place = anywhere} is_ten (choose has_extra (present [] extra) (forgotten None [] extra)) (silent (no_extra has_extra))).normal o ≡ o
    → (extra_in has_extra (cond has_extra 10 8)).normal o ≡ o
extra_normal true true o h = h
extra_normal true false o h = subst (λ (x : Option (List ℕ)). (extra_in true 10).normal x ≡ x) h refl
extra_normal false true o h = h
extra_normal false false o h = h

-- The normal form of a row event without its extra bytes.
abbrev with_extra : RowsForm → RowsEvent → Option (List ℕ) → RowsEvent
with_extra form e x = record {
  head = record { table_id = e.head.table_id; flags = e.head.flags; extra = x };
  columns = (columns form).normal e.columns;
  rows = e.rows;
}

pub rows_normal : (form : RowsForm) (post_header : ℕ) (s : List ℕ) (e : RowsEvent) (r : List ℕ) → (rows form post_header).spells s e r → (rows form (default_length form)).normal e ≡ e
unfolding rows
rows_normal form post_header s e r h =
    let settled : (rows form post_header).normal e ≡ e = (rows form post_header).settled s e r h in
    let kept : (extra_in form.has_extra post_header).normal e.head.extra ≡ e.head.extra = ap (λ (x : RowsEvent). x.head.extra) settled in
    let written : (extra_in form.has_extra (default_length form)).normal e.head.extra ≡ e.head.extra = extra_normal form.has_extra (eqb post_header 10) e.head.extra kept in
    ap (with_extra form e) (written ∙ sym kept) ∙ settled
