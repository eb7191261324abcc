-- Changes of some tables.
use Rattle.std.proofs.Common.{◌≡◌, ◌+◌, Bool, true, false, cond, if◌then◌else◌, List, [], ◌∷◌, Option, None, Some, refl, sym, ◌∙◌, ap, subst, true≢false}
use Rattle.table_changes.specs.Changes.{State, Change, table_of, removed, added, IsOneMore, IsWith, Applies, AppliesAll, inverse}
use Rattle.table_changes.specs.Parts.{changes_of, taken_from}
use Rattle.table_changes.proofs.Counts.{same}
use Rattle.table_changes.proofs.Inverses.{all_applied_back}

module _ {Table Row : Type 0} (takes : Table → Bool) (table : Table) (s t v : State Table Row) where
  -- One row more of a table that is taken.
  pub with_taken : (row : Option Row) → takes table ≡ true → IsWith table row s t → IsWith table row (taken_from takes s v) (taken_from takes t v)
  with_taken None e h = ap (λ x. taken_from takes x v) h
  with_taken (Some row) e h = record {
    here = subst (λ b. (if b then t table else v table) row ≡ (if b then s table else v table) row + 1) (sym e) h.here;
    elsewhere = λ other another differs. elim (takes other) as (λ b. (if b then t other else v other) another ≡ (if b then s other else v other) another)
        [ true ↦ h.elsewhere other another differs | false ↦ refl ];
  }

  same_beside : (row : Row) (other : Table) (another : Row) (b : Bool) → takes table ≡ false → IsOneMore table row s t → takes other ≡ b
      → (if b then t other else v other) another ≡ (if b then s other else v other) another
  same_beside row other another true e h f = h.elsewhere other another (λ place. true≢false (sym f ∙ (ap takes place.0 ∙ e)))
  same_beside row other another false e h f = refl

  -- One row more of another table.
  pub with_passed : (row : Option Row) → takes table ≡ false → IsWith table row s t → taken_from takes t v ≡ taken_from takes s v
  with_passed None e h = ap (λ x. taken_from takes x v) h
  with_passed (Some row) e h = same (λ other another. same_beside row other another (takes other) e h refl)

module _ {Table Row : Type 0} (takes : Table → Bool) where
  taken_of_one : (s : State Table Row) → taken_from takes s s ≡ s
  taken_of_one s = same (λ table row. elim (takes table) as (λ b. (if b then s table else s table) row ≡ s table row) [ true ↦ refl | false ↦ refl ])

  applied_if : (b : Bool) (change : Change Table Row) (changes : List (Change Table Row)) (old between new others : State Table Row)
      → takes (table_of change) ≡ b → Applies change old between
      → AppliesAll changes (taken_from takes between others) new
      → AppliesAll (cond b (change ∷ changes) changes) (taken_from takes old others) new
  applied_if true change changes old between new others e a h = (
    taken_from takes between others,
    record {
      others = taken_from takes a.others others;
      was = with_taken takes (table_of change) a.others old others (removed change) e a.was;
      is = with_taken takes (table_of change) a.others between others (added change) e a.is;
    },
    h,
  )
  applied_if false change changes old between new others e a h =
      subst (λ s. AppliesAll changes s new)
      (with_passed takes (table_of change) a.others between others (added change) e a.is
      ∙ sym (with_passed takes (table_of change) a.others old others (removed change) e a.was)) h

  -- The changes of the tables that are taken lead on from where these tables are, whatever the other tables are.
  applied_taken : (changes : List (Change Table Row)) (old new others : State Table Row) → AppliesAll changes old new
      → AppliesAll (changes_of takes changes) (taken_from takes old others) (taken_from takes new others)
  applied_taken [] old new others e = ap (λ s. taken_from takes s others) e
  applied_taken (change ∷ changes) old new others a =
      applied_if (takes (table_of change)) change (changes_of takes changes) old a.0 (taken_from takes new others) others refl a.1
      (applied_taken changes a.0 new others a.2)

  pub some_tables_back : (changes : List (Change Table Row)) (old new : State Table Row) → AppliesAll changes old new
      → AppliesAll (inverse (changes_of takes changes)) new (taken_from takes old new)
  some_tables_back changes old new a =
      subst (λ s. AppliesAll (inverse (changes_of takes changes)) s (taken_from takes old new)) (taken_of_one new)
      (all_applied_back (changes_of takes changes) (taken_from takes old new) (taken_from takes new new) (applied_taken changes old new new a))
