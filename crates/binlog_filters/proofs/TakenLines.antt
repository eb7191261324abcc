-- What a filter shows to a visitor that writes a line for each item.
use Rattle.std.proofs.Common.{ℕ, ◌+◌, Bool, true, false, List, [], ◌∷◌, ◌++◌, Option, Result, refl, sym, subst}
use Rattle.std.specs.Io.KnownBytes.{Appends}
use Rattle.std.proofs.KnownBytes.{Appends-nil, Appends-trans}
use Rattle.binlog_wire.specs.declared.error.Error.{Error}
use Rattle.binlog_file.specs.Events.{EventView}
use Rattle.binlog_file.specs.TableMapsInForce.{TableMaps}
use Rattle.binlog_visits.specs.TableMaps.{maps_behind}
use Rattle.binlog_visits.specs.Visits.{VisitRelation, Visits}
use Rattle.binlog_filters.specs.Places.{behind}
use Rattle.binlog_filters.specs.Filtering.{Filters, VisitsIf}
use Rattle.binlog_filters.specs.TakenLines.{AddsLine, TakesLines, WritesTaken}
use Rattle.binlog_filters.specs.declared.filter.Filter.{Filter}
use Rattle.binlog_filters.specs.declared.filtered.Filtered.{Filtered}

-- A line of the item is written.
pub record Writes (is_line : TableMaps → ℕ → Result EventView Error → List ℕ → Type 0) (maps : TableMaps) (index : ℕ) (item : Result EventView Error) (old new : Option (List ℕ)) : Type 0 where
  pub line : List ℕ
  pub is : is_line maps index item line
  pub written : Appends old new line

-- Each visit writes a line of the item.
abbrev pub WritesEach : {T : Type 0} (contents : T → Option (List ℕ)) (is_line : TableMaps → ℕ → Result EventView Error → List ℕ → Type 0)
    (visits : VisitRelation T) → Type 0
WritesEach {T} contents is_line visits =
    (old : T) (maps : TableMaps) (index : ℕ) (item : Result EventView Error) (new : T) → visits old maps index item new → Writes is_line maps index item (contents old) (contents new)

module _ {T : Type 0} (contents : T → Option (List ℕ)) (is_line : TableMaps → ℕ → Result EventView Error → List ℕ → Type 0)
    (visits : VisitRelation T) (writes : WritesEach contents is_line visits) where
  -- The text of an item and of those behind it.
  record Adds (taken : Bool) (maps : TableMaps) (index : ℕ) (item : Result EventView Error) (others : List ℕ) (old new : Option (List ℕ)) : Type 0 where
    text : List ℕ
    adds : AddsLine is_line taken maps index item others text
    written : Appends old new text

  -- The line of the item if it is taken, and then the text behind it.
  adds_item : (taken : Bool) (maps : TableMaps) (index : ℕ) (item : Result EventView Error) (old mid new : T) (others : List ℕ) → VisitsIf visits taken old maps index item mid
      → Appends (contents mid) (contents new) others → Adds taken maps index item others (contents old) (contents new)
  adds_item true maps index item old mid new others one rest =
      let wrote = writes old maps index item mid one in
      record {
        text = wrote.line ++ others;
        adds = (wrote.line, wrote.is, refl);
        written = Appends-trans (contents old) (contents mid) (contents new) wrote.line others wrote.written rest;
      }
  adds_item false maps index item old mid new others one rest =
      record { text = others; adds = refl; written = subst (λ (t : T). Appends (contents t) (contents new) others) one rest }

  -- The same filter goes on behind an item.
  goes_on : (maps : TableMaps) (index : ℕ) (item : Result EventView Error) (items : List (Result EventView Error)) (old mid : Filtered T) (text : List ℕ) → Filters visits old (maps_behind maps item) index item mid
      → TakesLines is_line mid.filter mid.place.position mid.state (maps_behind maps item) (index + 1) items text
      → TakesLines is_line old.filter (behind old.place.position item) mid.state (maps_behind maps item) (index + 1) items text
  goes_on maps index item items old mid text one rest =
      subst (λ (f : Filter). TakesLines is_line f (behind old.place.position item) mid.state (maps_behind maps item) (index + 1) items text) one.same
      (subst (λ (p : Option ℕ). TakesLines is_line mid.filter p mid.state (maps_behind maps item) (index + 1) items text) one.place rest)

  pub taken_lines : (maps : TableMaps) (index : ℕ) (items : List (Result EventView Error)) (old new : Filtered T) → Visits (Filters visits) maps index items old new
      → WritesTaken is_line old.filter old.place.position old.state maps index items (contents old.visitor) (contents new.visitor)
  taken_lines maps index [] old new visited = record {
    text = [];
    taken = refl;
    written = subst (λ (t : Filtered T). Appends (contents old.visitor) (contents t.visitor) []) (sym visited) (Appends-nil (contents old.visitor));
  }
  taken_lines maps index (item ∷ items) old new visited =
      let mid = visited.0 in
      let one = visited.1 in
      let rest = taken_lines (maps_behind maps item) (index + 1) items mid new visited.2 in
      let both = adds_item one.taken (maps_behind maps item) index item old.visitor mid.visitor new.visitor rest.text one.does rest.written in
      record {
        text = both.text;
        taken = (mid.state, one.taken, one.takes, rest.text, goes_on maps index item items old mid rest.text one rest.taken, both.adds);
        written = both.written;
      }
