-- A table map that was read can be written.
use Rattle.std.proofs.Common.{ℕ, ◌^◌, ◌<◌, inl, inr, List, arith, Bool, true, false, cond, ◌≡◌, length, refl, sym, ap, ◌∙◌, eqb, subst}
use Rattle.binlog_wire.specs.Bits.{bytes_of_bits}
use Rattle.binlog_variable_fields.specs.LenEnc.{IsLenEnc}
use Rattle.binlog_rows.specs.Columns.{Bitmap}
use Rattle.binlog_rows.specs.TableMaps.{Fields, fields, columns_of, columns, table_map}
use Rattle.binlog_rows.specs.TableColumns.{TableColumns}
use Rattle.binlog_rows.specs.declared.table_map_event.TableMapEvent.{TableMapEvent}

pub lenenc_small : (s : List ℕ) (n : ℕ) (r : List ℕ) → IsLenEnc s n r → n < 256 ^ 8
lenenc_small s n r (inl h) = omega (arith, h.1)
lenenc_small s n r (inr (inl h)) = omega (arith, h.2.0)
lenenc_small s n r (inr (inr (inl h))) = omega (arith, h.2.0)
lenenc_small s n r (inr (inr (inr h))) = h.2.0

pub id_small_by : (t : Bool) (n : ℕ) → n < 256 ^ cond t 4 6 → n < 256 ^ 6
id_small_by true n h = omega (arith, h)
id_small_by false n h = h

fields_fit : (s : List ℕ) (x : Fields) (r : List ℕ) → fields.spells s x r → columns.Fits (columns_of x)
fields_fit s x r h =
    let types : length x.1.0 ≡ x.0 = h.2.1.0 in
    let text = h.2.2.1 in
    let bits = h.2.2.2.1 in
    let count : x.0 < 256 ^ 8 = lenenc_small s x.0 h.0 h.1 in
    let len : text.0.0 < 256 ^ 8 = lenenc_small h.2.0 text.0.0 text.2.0 text.2.1 in
    let metadata : length x.1.1.0 ≡ text.0.0 = ap length text.1 ∙ text.2.2.0 in
    let bitmap : length x.1.1.1.0.1 ≡ bytes_of_bits x.0 = ap (λ (b : Bitmap). length b.1) bits.1 ∙ bits.2.0 in
    (omega (arith, types, count), (refl, ((omega (arith, metadata, len), refl), (bitmap ∙ ap bytes_of_bits (sym types), tt))))

-- A table map that was read under any description fits the format in which it is written.
pub read_map_fits : (post_header : ℕ) (s : List ℕ) (event : TableMapEvent) (r : List ℕ) → (table_map post_header).spells s event r → (table_map 8).Fits event
read_map_fits post_header s event r h =
    let made = h.2.3 in (
      (id_small_by (eqb post_header 6) event.table.id h.1.1.0, (h.1.2.1.0, (tt, tt))),
      subst (λ (c : TableColumns). columns.Fits c) (sym made.1) (fields_fit h.2.1 made.0 r made.2),
    )
