-- Rows that are written as their columns are visited.
use Rattle.std.proofs.Common.{◌≡◌, ℕ, zero, suc, ◌+◌, ◌≤◌, Bool, true, false, ◌||◌, List, [], ◌∷◌, ◌++◌, drop, Option, None, Some, is_some, refl, sym, ap, subst, ◌∙◌, arith, append_assoc, append-nil, add-one, codes}
use Rattle.std.proofs.lemmas.Bool.{ne_eqb}
use Rattle.json.specs.Token.{Token, begin_object, end_object, key}
use Rattle.binlog_images.specs.Cells.{Cell, RowCells}
use Rattle.binlog_images.specs.Visits.{VisitsColumns, VisitsImage, VisitsImages}
use Rattle.binlog_images.specs.declared.rows_error.ImageKind.{ImageKind}
use Rattle.binlog_images.specs.declared.rows_error.ImageKind.TheVariants.{Before, After}
use Rattle.binlog_optional_metadata.specs.declared.column_facts.ColumnFacts.{ColumnFacts}
use Rattle.binlog_json_values.specs.Brackets.{row_begins, after_begins, after_if, row_ends, begins_after}
use Rattle.binlog_json_values.specs.Parts.{Part, exactly, exact, Shows}
use Rattle.binlog_json_values.specs.Rows.{first_document, members_from, image_parts, before_or_none, row_parts}
use Rattle.binlog_json_values.specs.Before.{cells_before}
use Rattle.binlog_json_values.specs.RowWriting.{Keeps, first_member, row_before, document_at, Wrote, WroteColumn, ShowsColumn}
use Rattle.binlog_json_values.specs.declared.row_writer.RowWriter.{RowWriter}
use Rattle.binlog_json_values.proofs.Parts.{shows_exact, shows_both}

-- ---- members

no_members : (index : ℕ) (columns : List ColumnFacts) (before : List Cell) → members_from index columns before [] ≡ []
no_members index [] before = refl
no_members index (facts ∷ others) before = no_members (index + 1) others (drop 1 before)

members_split : (index : ℕ) (columns : List ColumnFacts) (before : List Cell) (cell : Cell) (cells : List Cell)
    → members_from index columns before (cell ∷ cells) ≡ first_member index columns (first_document before) cell ++ members_from (index + 1) (drop 1 columns) (drop 1 before) cells
members_split index [] before cell cells = refl
members_split index (facts ∷ others) before cell cells = refl

drop_next : {A : Type 0} (index : ℕ) (items : List A) → drop 1 (drop index items) ≡ drop (suc index) items
drop_next zero items = refl
drop_next (suc index) [] = refl
drop_next (suc index) (item ∷ others) = drop_next index others

drop_more : {A : Type 0} (index : ℕ) (items : List A) → drop 1 (drop index items) ≡ drop (index + 1) items
drop_more index items = drop_next index items ∙ ap (λ (n : ℕ). drop n items) (sym (add-one index))

-- The members of these columns are that of the first, and the others.
members_first : (index : ℕ) (columns : List ColumnFacts) (before : List Cell) (cell : Cell) (cells : List Cell)
    → members_from index (drop index columns) (drop index before) (cell ∷ cells)
    ≡ first_member index (drop index columns) (document_at index before) cell ++ members_from (index + 1) (drop (index + 1) columns) (drop (index + 1) before) cells
members_first index columns before cell cells =
    members_split index (drop index columns) (drop index before) cell cells
    ∙ ap (λ (l : List ColumnFacts). first_member index (drop index columns) (document_at index before) cell ++ members_from (index + 1) l (drop 1 (drop index before)) cells) (drop_more index columns)
    ∙ ap (λ (l : List Cell). first_member index (drop index columns) (document_at index before) cell ++ members_from (index + 1) (drop (index + 1) columns) l cells) (drop_more index before)

-- ---- writers

pub keeps_same : (writer : RowWriter) → Keeps writer writer
keeps_same writer = record { columns = refl; has_before = refl; has_after = refl }

pub keeps_both : {old mid new : RowWriter} → Keeps old mid → Keeps mid new → Keeps old new
keeps_both x y = record { columns = y.columns ∙ x.columns; has_before = y.has_before ∙ x.has_before; has_after = y.has_after ∙ x.has_after }

-- Nothing is written.
wrote_none : (old new : RowWriter) → new ≡ old → Wrote old new false []
wrote_none old new same = record {
  kept = subst (Keeps old) (sym same) (keeps_same old);
  row = ap (λ (w : RowWriter). w.before.rows) same;
  begun = ap (λ (w : RowWriter). w.after_begun) same;
  shown = shows_exact old.line new.line [] (ap (λ (w : RowWriter). w.line) same ∙ sym (append-nil old.line));
}

begun_either : (a b c d : Bool) → b ≡ a || c → d ≡ b → d ≡ a || c
begun_either a b c d first second = second ∙ first

-- Members behind what was written.
wrote_then : {old mid new : RowWriter} {begins : Bool} {a b : List Part} → Wrote old mid begins a → Wrote mid new false b → Wrote old new begins (a ++ b)
wrote_then {old} {mid} {new} {begins} x y = record {
  kept = keeps_both x.kept y.kept;
  row = y.row ∙ x.row;
  begun = begun_either begins mid.after_begun old.after_begun new.after_begun x.begun y.begun;
  shown = shows_both x.shown y.shown;
}

-- The member of a column, behind the beginning of an image.
pub column_wrote : (old mid new : RowWriter) (begins : Bool) (tokens : List Token) (parts : List ColumnFacts → List Cell → List Part) → Keeps old mid → Keeps mid new
    → mid.before.rows ≡ old.before.rows → new.before.rows ≡ mid.before.rows
    → mid.after_begun ≡ begins || old.after_begun → new.after_begun ≡ mid.after_begun → mid.line ≡ old.line ++ tokens → Shows mid.line new.line (parts mid.columns.now (row_before mid))
    → Wrote old new begins (exact tokens ++ parts old.columns.now (row_before old))
column_wrote old mid new begins tokens parts first second row_first row_second begun same added shown =
    let columns : mid.columns.now ≡ old.columns.now = ap (λ b. b.now) first.columns in
    let before : row_before mid ≡ row_before old = ap cells_before row_first in
    let here : Shows mid.line new.line (parts old.columns.now (row_before old)) =
    subst (λ (c : List Cell). Shows mid.line new.line (parts old.columns.now c)) before (subst (λ (l : List ColumnFacts). Shows mid.line new.line (parts l (row_before mid))) columns shown) in
    record {
      kept = keeps_both first second;
      row = row_second ∙ row_first;
      begun = same ∙ begun;
      shown = shows_both {a = exact tokens} (shows_exact old.line mid.line tokens added) here;
    }

-- ---- the columns of an image

-- The columns of an image, of which none begins the image after, are written one after another.
members_wrote : (image : ImageKind) (index : ℕ) (cells : List Cell) (old new : RowWriter) → ((k : ℕ) → index ≤ k → begins_after image k ≡ false)
    → VisitsColumns ShowsColumn image index cells old new → new.failed ≡ false
    → (old.failed ≡ false) × Wrote old new false (members_from index (drop index old.columns.now) (drop index (row_before old)) cells)
members_wrote image index [] old new none same works = (
  sym (ap (λ (w : RowWriter). w.failed) same) ∙ works,
  subst (Wrote old new false) (sym (no_members index (drop index old.columns.now) (drop index (row_before old)))) (wrote_none old new same),
)
members_wrote image index (cell ∷ cells) old new none (mid, first, others) works =
    let rest = members_wrote image (index + 1) cells mid new (λ k more. none k (omega (arith, more))) others works in
    let one = first.wrote rest.0 in
    let columns : List ColumnFacts = old.columns.now in
    let before : List Cell = row_before old in
    let plain : WroteColumn old image index cell mid ≡ Wrote old mid false (first_member index (drop index columns) (document_at index before) cell) =
    ap (λ (b : Bool). Wrote old mid b (exact (after_if b old.has_before) ++ first_member index (drop index columns) (document_at index before) cell)) (none index (omega arith)) in
    let here : Wrote old mid false (first_member index (drop index columns) (document_at index before) cell) = subst (λ (T : Type 0). T) plain one.1 in
    let same : row_before mid ≡ before = ap cells_before one.1.row in
    let behind : Wrote mid new false (members_from (index + 1) (drop (index + 1) columns) (drop (index + 1) before) cells) =
    subst (λ (c : List Cell). Wrote mid new false (members_from (index + 1) (drop (index + 1) columns) (drop (index + 1) c) cells)) same
    (subst (λ (l : List ColumnFacts). Wrote mid new false (members_from (index + 1) (drop (index + 1) l) (drop (index + 1) (row_before mid)) cells)) (ap (λ b. b.now) first.kept.columns) rest.1) in
    (one.0, subst (Wrote old new false) (sym (members_first index columns before cell cells)) (wrote_then here behind))

none_before : (index k : ℕ) → index ≤ k → begins_after Before k ≡ false
none_before index k more = refl

none_after : (k : ℕ) → 1 ≤ k → begins_after After k ≡ false
none_after zero more = absurd (omega (arith, more))
none_after (suc k) more = ne_eqb (suc k) 0 (λ is. omega (arith, is))

-- Whether an image after with these columns is begun, and its parts.
abbrev pub is_begun : Option (List Cell) → Bool
is_begun None = false
is_begun (Some []) = false
is_begun (Some (cell ∷ cells)) = true

abbrev pub before_members : List ColumnFacts → List Cell → Option (List Cell) → List Part
before_members columns before None = []
before_members columns before (Some cells) = members_from 0 columns before cells

abbrev pub after_members : Bool → List ColumnFacts → List Cell → Option (List Cell) → List Part
after_members has_before columns before None = []
after_members has_before columns before (Some []) = []
after_members has_before columns before (Some (cell ∷ cells)) = exact (after_begins has_before) ++ members_from 0 columns before (cell ∷ cells)

before_wrote : (image : Option (List Cell)) (old new : RowWriter) → VisitsImage ShowsColumn Before image old new → new.failed ≡ false
    → (old.failed ≡ false) × Wrote old new false (before_members old.columns.now (row_before old) image)
before_wrote None old new same works = (sym (ap (λ (w : RowWriter). w.failed) same) ∙ works, wrote_none old new same)
before_wrote (Some cells) old new visits works = members_wrote Before 0 cells old new (none_before 0) visits works

after_wrote : (image : Option (List Cell)) (old new : RowWriter) → VisitsImage ShowsColumn After image old new → new.failed ≡ false
    → (old.failed ≡ false) × Wrote old new (is_begun image) (after_members old.has_before old.columns.now (row_before old) image)
after_wrote None old new same works = (sym (ap (λ (w : RowWriter). w.failed) same) ∙ works, wrote_none old new same)
after_wrote (Some []) old new same works = (sym (ap (λ (w : RowWriter). w.failed) same) ∙ works, wrote_none old new same)
after_wrote (Some (cell ∷ cells)) old new (mid, first, others) works =
    let rest = members_wrote After 1 cells mid new none_after others works in
    let one = first.wrote rest.0 in
    let columns : List ColumnFacts = old.columns.now in
    let before : List Cell = row_before old in
    let same : row_before mid ≡ before = ap cells_before one.1.row in
    let member : List Part = first_member 0 columns (first_document before) cell in
    let others : List Part = members_from 1 (drop 1 columns) (drop 1 before) cells in
    let behind : Wrote mid new false others =
    subst (λ (c : List Cell). Wrote mid new false (members_from 1 (drop 1 columns) (drop 1 c) cells)) same
    (subst (λ (l : List ColumnFacts). Wrote mid new false (members_from 1 (drop 1 l) (drop 1 (row_before mid)) cells)) (ap (λ b. b.now) first.kept.columns) rest.1) in
    let both : Wrote old new true ((exact (after_begins old.has_before) ++ member) ++ others) = wrote_then one.1 behind in
    let joined : (exact (after_begins old.has_before) ++ member) ++ others ≡ exact (after_begins old.has_before) ++ members_from 0 columns before (cell ∷ cells) =
    append_assoc (exact (after_begins old.has_before)) member others
    ∙ ap (λ (l : List Part). exact (after_begins old.has_before) ++ l) (sym (members_split 0 columns before cell cells)) in
    (one.0, subst (Wrote old new true) joined both)

-- ---- the columns of a row

-- What the columns of a row's images make of a writer.
pub record RowWrote (row : RowCells) (old new : RowWriter) : Type 0 where
  pub kept : Keeps old new
  pub begun : new.after_begun ≡ is_begun row.1 || old.after_begun
  pub shown : Shows old.line new.line (before_members old.columns.now (row_before old) row.0 ++ after_members old.has_before old.columns.now (row_before old) row.1)

pub row_wrote : (row : RowCells) (old new : RowWriter) → VisitsImages ShowsColumn row old new → new.failed ≡ false → RowWrote row old new
row_wrote row old new visits works =
    let second = after_wrote row.1 visits.mid new visits.after works in
    let first = before_wrote row.0 old visits.mid visits.before second.0 in
    let columns = ap (λ b. b.now) first.1.kept.columns in
    let same : row_before visits.mid ≡ row_before old = ap cells_before first.1.row in
    let behind : Wrote visits.mid new (is_begun row.1) (after_members old.has_before old.columns.now (row_before old) row.1) =
    subst (λ (c : List Cell). Wrote visits.mid new (is_begun row.1) (after_members old.has_before old.columns.now c row.1)) same
    (subst (λ (b : Bool). Wrote visits.mid new (is_begun row.1) (after_members b old.columns.now (row_before visits.mid) row.1)) first.1.kept.has_before
    (subst (λ (l : List ColumnFacts). Wrote visits.mid new (is_begun row.1) (after_members visits.mid.has_before l (row_before visits.mid) row.1)) columns second.1)) in
    record {
      kept = keeps_both first.1.kept behind.kept;
      begun = behind.begun ∙ ap (λ (b : Bool). is_begun row.1 || b) first.1.begun;
      shown = shows_both first.1.shown behind.shown;
    }

-- The table and its images stay the same, however far the columns of a row are written.
columns_keep : (image : ImageKind) (index : ℕ) (cells : List Cell) (old new : RowWriter) → VisitsColumns ShowsColumn image index cells old new → Keeps old new
columns_keep image index [] old new same = subst (Keeps old) (sym same) (keeps_same old)
columns_keep image index (cell ∷ cells) old new (mid, first, others) = keeps_both first.kept (columns_keep image (index + 1) cells mid new others)

image_keeps : (kind : ImageKind) (image : Option (List Cell)) (old new : RowWriter) → VisitsImage ShowsColumn kind image old new → Keeps old new
image_keeps kind None old new same = subst (Keeps old) (sym same) (keeps_same old)
image_keeps kind (Some cells) old new visits = columns_keep kind 0 cells old new visits

pub row_keeps : (row : RowCells) (old new : RowWriter) → VisitsImages ShowsColumn row old new → Keeps old new
row_keeps row old new visits = keeps_both (image_keeps Before row.0 old visits.mid visits.before) (image_keeps After row.1 visits.mid new visits.after)

-- ---- whole rows

both_joined : (columns : List ColumnFacts) (before after : List Cell)
    → exact (row_begins true) ++ ((members_from 0 columns before before ++ (exact (after_begins true) ++ members_from 0 columns before after)) ++ exact (row_ends true true true)) ≡ row_parts columns (Some before, Some after)
unfolding row_parts image_parts
both_joined columns before after =
    let a : List Part = members_from 0 columns before before in
    let b : List Part = members_from 0 columns before after in
    let end : List Part = exactly end_object ∷ [] in
    let opening : List Part = exact (after_begins true) in
    let behind : List Part = exactly (key (codes "after")) ∷ exactly begin_object ∷ ((b ++ end) ++ end) in
    ap (λ (l : List Part). exact (row_begins true) ++ l)
    (append_assoc a (opening ++ b) (exact (row_ends true true true))
    ∙ ap (λ (l : List Part). a ++ (exactly end_object ∷ exactly (key (codes "after")) ∷ exactly begin_object ∷ l)) (sym (append_assoc b end end))
    ∙ sym (append_assoc a end behind)
    ∙ sym (append_assoc (a ++ end) (exactly (key (codes "after")) ∷ exactly begin_object ∷ (b ++ end)) end))

joined : (columns : List ColumnFacts) (before after : Option (List Cell))
    → exact (row_begins (is_some before)) ++ ((before_members columns (before_or_none before) before ++ after_members (is_some before) columns (before_or_none before) after) ++ exact (row_ends (is_some before) (is_some after) (is_begun after)))
    ≡ row_parts columns (before, after)
unfolding row_parts image_parts
joined columns None None = refl
joined columns None (Some []) = rw (no_members 0 columns []) refl
joined columns None (Some (cell ∷ cells)) = simp append_assoc
joined columns (Some bs) None = simp (append_assoc, append-nil)
joined columns (Some bs) (Some []) =
    let members : List Part = members_from 0 columns bs bs in
    let opening : List Part = exact (after_begins true) in
    let ends : List Part = exact (row_ends true true true) in
    ap (λ (l : List Part). exact (row_begins true) ++ l) (ap (λ (l : List Part). l ++ (opening ++ ends)) (append-nil members) ∙ sym (append_assoc members opening ends))
    ∙ ap (λ (l : List Part). exact (row_begins true) ++ ((members ++ (opening ++ l)) ++ ends)) (sym (no_members 0 columns bs))
    ∙ both_joined columns bs []
joined columns (Some bs) (Some (cell ∷ cells)) = both_joined columns bs (cell ∷ cells)

row_joined : (columns : List ColumnFacts) (cells : List Cell) (before after : Option (List Cell)) (has_before has_after begun : Bool)
    → cells ≡ before_or_none before → has_before ≡ is_some before → has_after ≡ is_some after → begun ≡ is_begun after
    → exact (row_begins has_before) ++ ((before_members columns cells before ++ after_members has_before columns cells after) ++ exact (row_ends has_before has_after begun)) ≡ row_parts columns (before, after)
row_joined columns cells before after has_before has_after begun o p q r =
    (λ i. exact (row_begins (p i)) ++ ((before_members columns (o i) before ++ after_members (p i) columns (o i) after) ++ exact (row_ends (p i) (q i) (r i))))
    ∙ joined columns before after

-- A row is written: its beginning, its columns, and its end.
pub row_shown : (columns : List ColumnFacts) (cells : List Cell) (row : RowCells) (has_before has_after begun : Bool) (old mid next new : List Token)
    → cells ≡ before_or_none row.0 → has_before ≡ is_some row.0 → has_after ≡ is_some row.1 → begun ≡ is_begun row.1
    → mid ≡ old ++ row_begins has_before
    → Shows mid next (before_members columns cells row.0 ++ after_members has_before columns cells row.1)
    → new ≡ next ++ row_ends has_before has_after begun
    → Shows old new (row_parts columns row)
row_shown columns cells row has_before has_after begun old mid next new o p q r begins shown ends =
    let members : List Part = before_members columns cells row.0 ++ after_members has_before columns cells row.1 in
    let behind : Shows mid new (members ++ exact (row_ends has_before has_after begun)) = shows_both {a = members} shown (shows_exact next new (row_ends has_before has_after begun) ends) in
    let whole : Shows old new (exact (row_begins has_before) ++ (members ++ exact (row_ends has_before has_after begun))) =
    shows_both {a = exact (row_begins has_before)} (shows_exact old mid (row_begins has_before) begins) behind in
    subst (Shows old new) (row_joined columns cells row.0 row.1 has_before has_after begun o p q r) whole
