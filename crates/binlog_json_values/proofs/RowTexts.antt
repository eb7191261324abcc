-- The columns of an image.
use Rattle.std.proofs.Common.{◌≡◌, ℕ, ◌+◌, ◌<◌, ◌≤◌, List, [], ◌∷◌, ◌++◌, length, get_or, drop, refl, sym, ap, ◌∙◌, append_assoc, append-nil, add-one, drop-cons}
use Rattle.std.proofs.lemmas.List.{drop_all}
use Rattle.json.specs.Token.{Token, begin_object}
use Rattle.std.specs.Prelude.{Option, option_map}
use Rattle.binlog_images.specs.Cells.{Cell}
use Rattle.binlog_images.specs.ImageCells.{cells_of}
use Rattle.binlog_images.specs.declared.image.Image.{Image}
use Rattle.binlog_optional_metadata.specs.declared.column_facts.ColumnFacts.{ColumnFacts}
use Rattle.binlog_optional_metadata.specs.Facts.{facts_of}
use Rattle.binlog_json_values.specs.Parts.{Part, exactly, Shows}
use Rattle.binlog_json_values.specs.Rows.{before_or_none, first_document, first_parts, members_from}
use Rattle.binlog_json_values.proofs.Parts.{shows_exact, shows_both}

-- ---- the columns of an image

-- The columns that an image has left, if there is one.
abbrev pub columns_left : Option Image → List Cell
columns_left image = before_or_none (option_map cells_of image)

-- What is written of an image: members that, with those that are left, are all of them.
pub record ShowsMembers (columns : List ColumnFacts) (before cells : List Cell) (index : ℕ) (before_left left : List Cell) (old new : List Token) : Type 0 where
  pub written : List Part
  pub shown : Shows old new (exactly begin_object ∷ [] ++ written)
  pub whole : written ++ members_from index (drop index columns) before_left left ≡ members_from 0 columns before cells

-- No column yet.
pub members_begun : (columns : List ColumnFacts) (before cells : List Cell) (old new : List Token) → new ≡ old ++ begin_object ∷ [] → ShowsMembers columns before cells 0 before cells old new
members_begun columns before cells old new begun = record {
  written = [];
  shown = shows_exact old new (begin_object ∷ []) begun;
  whole = refl;
}

-- One more column.
pub member_shown : (columns : List ColumnFacts) (before cells before_left left : List Cell) (index : ℕ) (none : ColumnFacts) (old mid new : List Token)
    → index < length columns → ShowsMembers columns before cells index before_left left old mid
    → Shows mid new (first_parts (facts_of (get_or columns index none)) index (first_document before_left) left)
    → ShowsMembers columns before cells (index + 1) (drop 1 before_left) (drop 1 left) old new
member_shown columns before cells before_left left index none old mid new below so_far more =
    let first : List Part = first_parts (facts_of (get_or columns index none)) index (first_document before_left) left in
    let rest : List Part = members_from (index + 1) (drop (index + 1) columns) (drop 1 before_left) (drop 1 left) in
    let split : drop index columns ≡ get_or columns index none ∷ drop (index + 1) columns =
    drop-cons columns index none below ∙ ap (λ (n : ℕ). get_or columns index none ∷ drop n columns) (sym (add-one index)) in
    let step : members_from index (drop index columns) before_left left ≡ first ++ rest = ap (λ (l : List ColumnFacts). members_from index l before_left left) split in
    record {
      written = so_far.written ++ first;
      shown = shows_both so_far.shown more;
      whole = append_assoc so_far.written first rest ∙ ap (λ (l : List Part). so_far.written ++ l) (sym step) ∙ so_far.whole;
    }

-- All columns.
pub members_shown : (columns : List ColumnFacts) (before cells before_left left : List Cell) (index : ℕ) (old new : List Token) → length columns ≤ index
    → ShowsMembers columns before cells index before_left left old new → Shows old new (exactly begin_object ∷ [] ++ members_from 0 columns before cells)
members_shown columns before cells before_left left index old new over so_far =
    let none : drop index columns ≡ [] = drop_all index columns over in
    let all : so_far.written ≡ members_from 0 columns before cells =
    sym (append-nil so_far.written) ∙ ap (λ (l : List ColumnFacts). so_far.written ++ members_from index l before_left left) (sym none) ∙ so_far.whole in
    rw all at so_far.shown
