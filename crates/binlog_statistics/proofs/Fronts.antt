-- The bytes in front of a row event's rows, and the same event with other rows behind them.
use Rattle.std.proofs.Common.{◌≡◌, ℕ, ◌+◌, ◌-◌, ◌≤◌, ◌==◌, inl, inr, Bool, true, false, List, [], ◌∷◌, ◌++◌, length, take, Result, Ok, Option, Some, None, refl, sym, ap, subst, ◌∙◌, append_assoc, arith}
use Rattle.std.proofs.lemmas.List.{take_at, length-append}
use Rattle.binlog_wire.specs.declared.error.Invalid.{Invalid}
use Rattle.binlog_wire.specs.Bits.{bytes_of_bits}
use Rattle.binlog_wire.specs.Fields.{little_bytes, IsNumber, IsBlock, Then, IsMade, IsSilent}
use Rattle.binlog_wire.specs.Formats.{Format, anywhere, silent}
use Rattle.binlog_variable_fields.specs.Chosen.{IsChosen, choose}
use Rattle.binlog_variable_fields.specs.LenEnc.{IsMarked, IsLenEnc}
use Rattle.binlog_rows.specs.Columns.{id_width, Bitmap, bitmap}
use Rattle.binlog_rows.specs.Rows.{extra, forgotten, present, no_extra, extra_in, head, image, columns, rows}
use Rattle.binlog_rows.specs.declared.rows_form.RowsForm.{RowsForm}
use Rattle.binlog_rows.specs.declared.rows_event.RowsEvent.{RowsEvent}
use Rattle.binlog_statistics.specs.CompressedRows.{with_rows}

-- A value is encoded by the bytes in front of the rest, whatever the rest is.
record Front {V : Type 0} (F : List ℕ → V → List ℕ → Type 0) (s : List ℕ) (v : V) (r : List ℕ) : Type 0 where
  front : List ℕ
  is : s ≡ front ++ r
  any : (t : List ℕ) → F (front ++ t) v t

abbrev HasFront : {V : Type 0} → (List ℕ → V → List ℕ → Type 0) → Type 0
HasFront {V} F = (s : List ℕ) (v : V) (r : List ℕ) → F s v r → Front F s v r

-- ---- fields

number_front : (k : ℕ) → HasFront (IsNumber k)
number_front k s n r h = record { front = little_bytes k n; is = h.1; any = λ t. (h.0, refl) }

block_front : (k : ℕ) → HasFront (IsBlock k)
block_front k s b r h = record { front = b; is = h.1; any = λ t. (h.0, refl) }

marked_front : (mark k : ℕ) → HasFront (IsMarked mark k)
marked_front mark k s n r h = record {
  front = mark ∷ little_bytes k n;
  is = h.1 ∙ ap (λ (l : List ℕ). mark ∷ l) h.2.1;
  any = λ t. (little_bytes k n ++ t, refl, (h.2.0, refl));
}

lenenc_front : HasFront IsLenEnc
lenenc_front s n r (inl h) = record { front = n ∷ []; is = h.0; any = λ t. inl (refl, h.1) }
lenenc_front s n r (inr (inl h)) = let f = marked_front 252 2 s n r h in record { front = f.front; is = f.is; any = λ t. inr (inl (f.any t)) }
lenenc_front s n r (inr (inr (inl h))) = let f = marked_front 253 3 s n r h in record { front = f.front; is = f.is; any = λ t. inr (inr (inl (f.any t))) }
lenenc_front s n r (inr (inr (inr h))) = let f = marked_front 254 8 s n r h in record { front = f.front; is = f.is; any = λ t. inr (inr (inr (f.any t))) }

silent_front : {V : Type 0} (x : V) → HasFront (IsSilent x)
silent_front x s v r h = record { front = []; is = sym h.1; any = λ t. (h.0, refl) }

-- ---- fields of others

then_front : {A B : Type 0} (F : List ℕ → A → List ℕ → Type 0) (G : A → List ℕ → B → List ℕ → Type 0) → HasFront F → ((a : A) → HasFront (G a)) → HasFront (Then F G)
then_front F G f g s x r h =
    let first = f s x.0 h.0 h.1 in
    let second = g x.0 h.0 x.1 r h.2 in
    record {
      front = first.front ++ second.front;
      is = first.is ∙ ap (λ (l : List ℕ). first.front ++ l) second.is ∙ sym (append_assoc first.front second.front r);
      any = λ t. (
        second.front ++ t,
        subst (λ (l : List ℕ). F l x.0 (second.front ++ t)) (sym (append_assoc first.front second.front t)) (first.any (second.front ++ t)),
        second.any t,
      );
    }

chosen_front : {A B : Type 0} (decode : A → Result B Invalid) (F : List ℕ → A → List ℕ → Type 0) → HasFront F → HasFront (IsChosen decode F)
chosen_front decode F f s b r h = let x = f s h.0 r h.2 in record { front = x.front; is = x.is; any = λ t. (h.0, h.1, x.any t) }

made_front : {A B : Type 0} (to : A → B) (F : List ℕ → A → List ℕ → Type 0) → HasFront F → HasFront (IsMade to F)
made_front to F f s b r h = let x = f s h.0 r h.2 in record { front = x.front; is = x.is; any = λ t. (h.0, h.1, x.any t) }

choose_front : {V : Type 0} (b : Bool) (f g : Format anywhere V) → HasFront f.spells → HasFront g.spells → HasFront (choose b f g).spells
choose_front true f g first second = first
choose_front false f g first second = second

-- ---- the parts of a row event

extra_front : HasFront (extra {place = anywhere}).spells
extra_front = chosen_front (λ (x : ℕ × List ℕ). Ok x.1) _ (then_front (IsNumber 2) (λ (count : ℕ). IsBlock (count - 2)) (number_front 2) (λ (count : ℕ). block_front (count - 2)))

extra_in_front : (has_extra : Bool) (post_header : ℕ) → HasFront (extra_in has_extra post_header).spells
extra_in_front has_extra post_header =
    choose_front (post_header == 10) (choose has_extra (present [] extra) (forgotten None [] extra)) (silent (no_extra has_extra))
    (choose_front has_extra (present [] extra) (forgotten None [] extra)
    (made_front (λ (x : List ℕ). Some x) (extra {place = anywhere}).spells extra_front)
    (chosen_front (λ (x : List ℕ). Ok None) (extra {place = anywhere}).spells extra_front))
    (silent_front (no_extra has_extra))

bitmap_front : (len : ℕ) → HasFront (bitmap len).spells
bitmap_front len = made_front (λ (bits : List ℕ). (len, bits)) (IsBlock (bytes_of_bits len)) (block_front (bytes_of_bits len))

image_front : (has_image : Bool) (count : ℕ) → HasFront (image has_image count).spells
image_front has_image count =
    choose_front has_image (present (count, []) (bitmap count)) (silent None)
    (made_front (λ (x : Bitmap). Some x) (bitmap count).spells (bitmap_front count))
    (silent_front None)

-- The table id, the flags and the extra bytes.
head_front : (form : RowsForm) (post_header : ℕ) → HasFront (head form post_header).spells
head_front form post_header s h r spelled =
    let x = then_front (IsNumber (id_width post_header)) (λ (id : ℕ). Then (IsNumber 2) (λ (flags : ℕ). (extra_in form.has_extra post_header).spells)) (number_front (id_width post_header))
    (λ (id : ℕ). then_front (IsNumber 2) (λ (flags : ℕ). (extra_in form.has_extra post_header).spells) (number_front 2) (λ (flags : ℕ). extra_in_front form.has_extra post_header))
    s (h.table_id, (h.flags, h.extra)) r spelled in
    record { front = x.front; is = x.is; any = x.any }

-- The number of columns, and the bitmaps.
columns_front : (form : RowsForm) → HasFront (columns form).spells
columns_front form s c r spelled =
    let x = then_front IsLenEnc (λ (count : ℕ). Then (image form.has_before count).spells (λ (before : Option Bitmap). (image form.has_after count).spells)) lenenc_front
    (λ (count : ℕ). then_front (image form.has_before count).spells (λ (before : Option Bitmap). (image form.has_after count).spells) (image_front form.has_before count) (λ (before : Option Bitmap). image_front form.has_after count))
    s (c.count, (c.before, c.after)) r spelled in
    record { front = x.front; is = x.is; any = x.any }

-- ---- the rows

-- The event's rows are its last bytes, and with others in their place it is the event with these.
pub record Replaces (form : RowsForm) (post_header : ℕ) (s : List ℕ) (event : RowsEvent) : Type 0 where
  pub fits : length event.rows ≤ length s
  pub any : (t : List ℕ) → (rows form post_header).spells (take (length s - length event.rows) s ++ t) (with_rows event t) []

replaced : (front s stored : List ℕ) → s ≡ front ++ stored → take (length s - length stored) s ≡ front
replaced front s stored is =
    let long : length s ≡ length front + length stored = ap length is ∙ length-append front stored in
    let count : length front ≡ length s - length stored = omega arith in
    ap (take (length s - length stored)) is ∙ take_at front stored (length s - length stored) count

pub rows_replaced : (form : RowsForm) (post_header : ℕ) (s : List ℕ) (event : RowsEvent) → (rows form post_header).spells s event [] → Replaces form post_header s event
unfolding rows
rows_replaced form post_header s event h =
    let first = head_front form post_header s event.head h.0 h.1 in
    let second = columns_front form h.0 event.columns h.2.0 h.2.1 in
    let front : List ℕ = first.front ++ second.front in
    let last : h.2.0 ≡ event.rows = sym h.2.2.0 in
    let is : s ≡ front ++ event.rows =
    first.is ∙ ap (λ (l : List ℕ). first.front ++ l) second.is ∙ sym (append_assoc first.front second.front h.2.0) ∙ ap (λ (l : List ℕ). front ++ l) last in
    let spelled : (t : List ℕ) → (rows form post_header).spells (front ++ t) (with_rows event t) [] = λ t. (
      second.front ++ t,
      subst (λ (l : List ℕ). (head form post_header).spells l event.head (second.front ++ t)) (sym (append_assoc first.front second.front t)) (first.any (second.front ++ t)),
      (t, second.any t, (refl, refl)),
    ) in
    record {
      fits = omega (arith, ap length is, length-append front event.rows);
      any = λ t. subst (λ (l : List ℕ). (rows form post_header).spells (l ++ t) (with_rows event t) []) (sym (replaced front s event.rows is)) (spelled t);
    }
