-- What is noted of an item and its parts.
use Rattle.std.specs.Prelude.{is_some}
use Rattle.std.proofs.Common.{◌≡◌, inl, inr, ℕ, ◌+◌, true, false, List, [], ◌∷◌, Option, Some, None, Result, Ok, Err, OnOk, IfErr, refl, sym, ap, ◌∙◌}
use Rattle.std.specs.Option.{option_or}
use Rattle.binlog_wire.specs.declared.error.Error.{Error}
use Rattle.binlog_wire.specs.declared.error.Error.TheVariants.{Memory}
use Rattle.binlog_events.specs.Events.{EventView}
use Rattle.binlog_file.specs.TableMapsInForce.{TableMaps, no_table_maps}
use Rattle.binlog_visits.specs.Visits.{VisitRelation, RefusalRelation}
use Rattle.binlog_payload_visits.specs.Parts.{Part, AreParts, IsCompressed, maps_behind_part}
use Rattle.binlog_payloads.specs.declared.error.PayloadError.{PayloadError}
use Rattle.binlog_payload_visits.specs.PartVisits.{PartVisitRelation, VisitsParts, VisitsSpliced, StopsInside, RefusesSpliced}
use Rattle.binlog_payload_visits.specs.Damaged.{damaged_behind, saturated}
use Rattle.binlog_payload_visits.specs.Finding.{first_error, IsFirstError}
use Rattle.binlog_payload_visits.specs.Noting.{IsNever, error_behind, count_behind, NotesItem, RefusesNoted, NotesPart, RefusesNotedPart}
use Rattle.binlog_payload_visits.specs.declared.noted.Noted.{Noted}
use Rattle.binlog_payload_visits.specs.declared.part_error.PartError.{PartError}

-- ---- the first error of parts

or_none : (found : Option PartError) → found ≡ option_or found None
or_none None = refl
or_none (Some x) = refl

errors_more : (number : ℕ) (part : Part) (parts : List Part) (found : Option PartError)
    → option_or (error_behind number part found) (first_error (number + 1) parts) ≡ option_or found (first_error number (part ∷ parts))
errors_more number (Ok event) parts found = refl
errors_more number (Err e) parts None = refl
errors_more number (Err e) parts (Some x) = refl

-- The number of damaged events behind parts, where `found` is the error before them, and `later` the first of theirs.
abbrev count_all : (found later : Option PartError) → ℕ → ℕ
count_all None later n = damaged_behind later n
count_all (Some x) later n = n

count_none : (found : Option PartError) (n : ℕ) → n ≡ count_all found None n
count_none None n = refl
count_none (Some x) n = refl

count_more : (number : ℕ) (part : Part) (parts : List Part) (found : Option PartError) (n : ℕ)
    → count_all (error_behind number part found) (first_error (number + 1) parts) (count_behind part found n) ≡ count_all found (first_error number (part ∷ parts)) n
count_more number (Ok event) parts found n = refl
count_more number (Err e) parts None n = refl
count_more number (Err e) parts (Some x) n = refl

module _ {T : Type 0} (visits_part : PartVisitRelation T) where
  -- What is noted of parts one after another.
  pub record AreNoted (maps : TableMaps) (index number : ℕ) (parts : List Part) (old new : Noted T) : Type 0 where
    pub shown : VisitsParts visits_part maps index number parts old.visitor new.visitor
    pub found : new.first_error ≡ option_or old.first_error (first_error number parts)
    pub damaged : new.damaged ≡ count_all old.first_error (first_error number parts) old.damaged

  parts_noted : (maps : TableMaps) (index number : ℕ) (parts : List Part) (old new : Noted T) → VisitsParts (NotesPart visits_part) maps index number parts old new
      → AreNoted maps index number parts old new
  parts_noted maps index number [] old new is = record {
    shown = ap (λ (n : Noted T). n.visitor) is;
    found = ap (λ (n : Noted T). n.first_error) is ∙ or_none old.first_error;
    damaged = ap (λ (n : Noted T). n.damaged) is ∙ count_none old.first_error old.damaged;
  }
  parts_noted maps index number (part ∷ parts) old new visited =
      let mid : Noted T = visited.0 in
      let one = visited.1 in
      let rest = parts_noted (maps_behind_part maps part) index (number + 1) parts mid new visited.2 in
      let later = first_error (number + 1) parts in
      record {
        shown = (mid.visitor, one.does, rest.shown);
        found = rest.found ∙ ap (λ (f : Option PartError). option_or f later) one.found ∙ errors_more number part parts old.first_error;
        damaged = rest.damaged ∙ ap (λ (f : Option PartError). count_all f later mid.damaged) one.found
            ∙ ap (λ (n : ℕ). count_all (error_behind number part old.first_error) later n) one.damaged ∙ count_more number part parts old.first_error old.damaged;
      }

-- ---- an item with its parts

module _ {T : Type 0} (visits : VisitRelation T) (visits_part : PartVisitRelation T) where
  -- What is noted of an item.
  pub record IsNoted (limit : ℕ) (old : Noted T) (maps : TableMaps) (index : ℕ) (item : Result EventView Error) (new : Noted T) : Type 0 where
    pub shown : VisitsSpliced visits visits_part limit old.visitor maps index item new.visitor
    pub found : IsFirstError limit item new.first_error
    pub damaged : new.damaged ≡ damaged_behind new.first_error old.damaged

  pub item_noted : (limit : ℕ) (old : Noted T) (maps : TableMaps) (index : ℕ) (item : Result EventView Error) (new : Noted T)
      → VisitsSpliced (NotesItem visits) (NotesPart visits_part) limit old maps index item new → IsNoted limit old maps index item new
  item_noted limit old maps index item new spliced =
      let own = spliced.own in
      let parts = spliced.inside.parts in
      let noted = parts_noted visits_part no_table_maps index 0 parts spliced.mid new spliced.inside.visited in
      let found : new.first_error ≡ first_error 0 parts = noted.found ∙ ap (λ (f : Option PartError). option_or f (first_error 0 parts)) own.none in
      record {
        shown = record { mid = spliced.mid.visitor; own = own.does; inside = record { parts = parts; all = spliced.inside.all; visited = noted.shown } };
        found = (parts, spliced.inside.all, found);
        damaged = noted.damaged ∙ ap (λ (f : Option PartError). count_all f (first_error 0 parts) spliced.mid.damaged) own.none
            ∙ ap (λ (n : ℕ). damaged_behind (first_error 0 parts) n) own.same ∙ ap (λ (f : Option PartError). damaged_behind f old.damaged) (sym found);
      }

  -- A visitor that refuses nothing stops at want of memory alone.
  abbrev pub NeverOwn : T → TableMaps → ℕ → Result EventView Error → Error → T → Type 0
  NeverOwn old maps index item error new = IsNever

  abbrev pub NeverPart : T → TableMaps → ℕ → ℕ → Part → Error → T → Type 0
  NeverPart old maps index number part error new = IsNever

  stopped : (limit : ℕ) (item : Result EventView Error) (index : ℕ) (old : Noted T) (error : Error) (new : Noted T)
      → StopsInside (NotesPart visits_part) (RefusesNotedPart NeverPart) (AreParts limit item) (IsCompressed item) index old error new → error ≡ Memory
  stopped limit item index old error new (inl part) = absurd part.refused.refused
  stopped limit item index old error new (inr lacks) = lacks.memory

  pub memory_alone : (limit : ℕ) (old : Noted T) (maps : TableMaps) (index : ℕ) (item : Result EventView Error) (error : Error) (new : Noted T)
      → RefusesSpliced (NotesItem visits) (NotesPart visits_part) (RefusesNoted NeverOwn) (RefusesNotedPart NeverPart) limit old maps index item error new → error ≡ Memory
  memory_alone limit old maps index item error new (inl own) = absurd own.refused
  memory_alone limit old maps index item error new (inr inside) = stopped limit item index inside.mid error new inside.inside

-- ---- one visit

none_of : (found : Option PartError) → is_some found ≡ false → found ≡ None
none_of None is = refl
none_of (Some x) is = absurd cc

kept_error : (number : ℕ) (e : PayloadError) (found : Option PartError) → is_some found ≡ true → found ≡ error_behind number (Err e) found
kept_error number e None is = absurd cc
kept_error number e (Some x) is = refl

kept_count : (e : PayloadError) (found : Option PartError) (n : ℕ) → is_some found ≡ true → n ≡ count_behind (Err e) found n
kept_count e None n is = absurd cc
kept_count e (Some x) n is = refl

module _ {T : Type 0} where
  pub noted_on : {A E : Type 0} (result : Result A E) (visits : VisitRelation T) (old : Noted T) (maps : TableMaps) (index : ℕ) (item : Result EventView Error) (new : T)
      → OnOk result (visits old.visitor maps index item new) → OnOk result (NotesItem visits old maps index item (record { visitor = new; first_error = None; damaged = old.damaged }))
  noted_on (Ok x) visits old maps index item new does = record { does = does; none = refl; same = refl }
  noted_on (Err e) visits old maps index item new does = does

  pub noted_refused : {A : Type 0} (result : Result A Error) (refuses : RefusalRelation T) (old : Noted T) (maps : TableMaps) (index : ℕ) (item : Result EventView Error) (new : T)
      → IfErr result (λ e. refuses old.visitor maps index item e new) → IfErr result (λ e. RefusesNoted refuses old maps index item e (record { visitor = new; first_error = None; damaged = old.damaged }))
  noted_refused (Ok x) refuses old maps index item new does = does
  noted_refused (Err e) refuses old maps index item new does = record { refused = does; same = refl }

  pub part_on : {A E : Type 0} (result : Result A E) (visits_part : PartVisitRelation T) (old : Noted T) (maps : TableMaps) (index number : ℕ) (event : EventView) (new : T)
      → OnOk result (visits_part old.visitor maps index number (Ok event) new)
      → OnOk result (NotesPart visits_part old maps index number (Ok event) (record { visitor = new; first_error = old.first_error; damaged = old.damaged }))
  part_on (Ok x) visits_part old maps index number event new does = record { does = does; found = refl; damaged = refl }
  part_on (Err e) visits_part old maps index number event new does = does

  -- The first error of an item.
  pub error_noted : (visits_part : PartVisitRelation T) (old : Noted T) (maps : TableMaps) (index number : ℕ) (e : PayloadError) (new : T) (damaged : ℕ) → visits_part old.visitor maps index number (Err e) new
      → is_some old.first_error ≡ false → damaged ≡ saturated (old.damaged + 1)
      → NotesPart visits_part old maps index number (Err e) (record { visitor = new; first_error = Some (record { part = number; error = e }); damaged = damaged })
  error_noted visits_part old maps index number e new damaged does is sum =
      let none = none_of old.first_error is in
      record {
        does = does;
        found = ap (λ (f : Option PartError). error_behind number (Err e) f) (sym none);
        damaged = sum ∙ ap (λ (f : Option PartError). count_behind (Err e) f old.damaged) (sym none);
      }

  -- Another one.
  pub error_kept : (visits_part : PartVisitRelation T) (old : Noted T) (maps : TableMaps) (index number : ℕ) (e : PayloadError) (new : T) → visits_part old.visitor maps index number (Err e) new
      → is_some old.first_error ≡ true → NotesPart visits_part old maps index number (Err e) (record { visitor = new; first_error = old.first_error; damaged = old.damaged })
  error_kept visits_part old maps index number e new does is =
      record { does = does; found = kept_error number e old.first_error is; damaged = kept_count e old.first_error old.damaged is }
