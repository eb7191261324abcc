-- What changes lead to.
use Rattle.std.proofs.Common.{◌≡◌, List, [], ◌∷◌, ◌++◌, Option, None, Some, refl, sym, ◌∙◌, ap, subst, arith}
use Rattle.table_changes.specs.Changes.{State, Change, table_of, removed, added, IsWith, IsThere, Applies, AppliesAll}
use Rattle.table_changes.specs.Parts.{EqualOrNot}
use Rattle.table_changes.proofs.Counts.{plus, with_more, one_with, one_without, single_if, with_single, without, with_again}

module _ {Table Row : Type 0} where
  -- Changes one after another lead through a state between them.
  pub applied_parts : (before after : List (Change Table Row)) (old new : State Table Row) → AppliesAll (before ++ after) old new
      → (between : State Table Row) × AppliesAll before old between × AppliesAll after between new
  applied_parts [] after old new a = (old, refl, a)
  applied_parts (change ∷ changes) after old new a = let h = applied_parts changes after a.0 new a.2 in (h.0, (a.0, a.1, h.1), h.2)

  pub applied_joined : (before after : List (Change Table Row)) (old between new : State Table Row) → AppliesAll before old between → AppliesAll after between new
      → AppliesAll (before ++ after) old new
  applied_joined [] after old between new e a = subst (λ s. AppliesAll after s new) e a
  applied_joined (change ∷ changes) after old between new b a = (b.0, b.1, applied_joined changes after b.0 between new b.2 a)

  -- Rows that no change removes stay.
  pub applied_beside : (change : Change Table Row) (old new others : State Table Row) → Applies change old new → Applies change (plus others old) (plus others new)
  applied_beside change old new others a = record {
    others = plus others a.others;
    was = with_more (table_of change) (removed change) a.others old others a.was;
    is = with_more (table_of change) (added change) a.others new others a.is;
  }

  pub all_applied_beside : (changes : List (Change Table Row)) (old new others : State Table Row) → AppliesAll changes old new
      → AppliesAll changes (plus others old) (plus others new)
  all_applied_beside [] old new others e = ap (plus others) e
  all_applied_beside (change ∷ changes) old new others a =
      (plus others a.0, applied_beside change old a.0 others a.1, all_applied_beside changes a.0 new others a.2)

  -- A row that is one of others and one more is there.
  pub is_there : (table : Table) (row : Option Row) (others state : State Table Row) → IsWith table row others state → IsThere state table row
  is_there table None others state h = tt
  is_there table (Some row) others state h = let e = h.here in omega arith

module _ {Table Row : Type 0} (tables : EqualOrNot Table) (rows : EqualOrNot Row) where
  -- Each change leads to one state at most.
  pub one_state : (change : Change Table Row) (old new other : State Table Row) → Applies change old new → Applies change old other → new ≡ other
  one_state change old new other a b =
      let e = one_without tables rows (table_of change) (removed change) a.others b.others old a.was b.was in
      one_with tables rows (table_of change) (added change) a.others new other a.is (subst (λ s. IsWith (table_of change) (added change) s other) (sym e) b.is)

  pub one_last_state : (changes : List (Change Table Row)) (old new other : State Table Row) → AppliesAll changes old new → AppliesAll changes old other → new ≡ other
  one_last_state [] old new other e f = e ∙ sym f
  one_last_state (change ∷ changes) old new other a b =
      one_last_state changes a.0 new other a.2 (subst (λ s. AppliesAll changes s other) (sym (one_state change old a.0 b.0 a.1 b.1)) b.2)

  -- A state without this row, if there is a row, that is there.
  pub others_of : (table : Table) (row : Option Row) (old : State Table Row) → IsThere old table row → (others : State Table Row) × IsWith table row others old
  others_of table None old there = (old, refl)
  others_of table (Some row) old there = (without tables rows table row old, with_again tables rows table row old there)

  -- A change leads to a state if the row that it removes is there.
  pub some_state : (change : Change Table Row) (old : State Table Row) → IsThere old (table_of change) (removed change)
      → (new : State Table Row) × Applies change old new
  some_state change old there =
      let o = others_of (table_of change) (removed change) old there in
      let new : State Table Row = plus o.0 (single_if tables rows (table_of change) (added change)) in
      (new, record { others = o.0; was = o.1; is = with_single tables rows (table_of change) (added change) o.0 })
