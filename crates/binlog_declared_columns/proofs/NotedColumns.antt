-- What a table that contradicts its file adds to the others.
use Rattle.std.proofs.Common.{◌≡◌, ℕ, ◌&&◌, Bool, true, false, cond, List, Option, None, Some, refl, sym, ap, ◌∙◌, ⊎_elim}
use Rattle.std.proofs.lemmas.Bool.{cases_Bool, cond-true, cond-false}
use Rattle.std.proofs.lemmas.Slice.Eq.{bytes_eq-Decides}
use Rattle.std.specs.BTreeMap.{BTreeMap, get_by}
use Rattle.std.specs.Prelude.{is_some, unwrap_or}
use Rattle.std.specs.Str.{bytes_eq}
use Rattle.column_files.specs.Tables.{TableName, compare_names}

both_true : (a b : Bool) → a && b ≡ true → (a ≡ true) × (b ≡ true)
both_true true b is = (refl, is)
both_true false b is = absurd cc

is_none : {X : Type 0} (found : Option X) → is_some found ≡ false → found ≡ None
is_none None absent = refl
is_none (Some x) absent = absurd cc

-- A column is noted of a table that isn't there.
pub noted : (old new : BTreeMap TableName ℕ) (schema table : List ℕ) (column : ℕ) → is_some (get_by (compare_names schema table) old) ≡ false
    → ((s t : List ℕ) → get_by (compare_names s t) new ≡ cond (bytes_eq schema s && bytes_eq table t) (Some column) (get_by (compare_names s t) old)) → (s t : List ℕ)
    → get_by (compare_names s t) new ≡ cond (bytes_eq schema s && bytes_eq table t) (Some (unwrap_or (get_by (compare_names s t) old) column)) (get_by (compare_names s t) old)
noted old new schema table column absent put s t =
    let is_same = bytes_eq schema s && bytes_eq table t in
    ⊎_elim
    (λ same. let parts = both_true (bytes_eq schema s) (bytes_eq table t) same in
    let none : get_by (compare_names s t) old ≡ None =
    ap (λ (x : List ℕ). get_by (compare_names x t) old) (sym ((bytes_eq-Decides schema s).0 parts.0)) ∙ ap (λ (x : List ℕ). get_by (compare_names schema x) old) (sym ((bytes_eq-Decides table t).0 parts.1))
    ∙ is_none (get_by (compare_names schema table) old) absent in
    put s t ∙ cond-true is_same (Some column) (get_by (compare_names s t) old) same
    ∙ ap (λ (found : Option ℕ). Some (unwrap_or found column)) (sym none)
    ∙ sym (cond-true is_same (Some (unwrap_or (get_by (compare_names s t) old) column)) (get_by (compare_names s t) old) same))
    (λ differ. put s t ∙ cond-false is_same (Some column) (get_by (compare_names s t) old) differ
    ∙ sym (cond-false is_same (Some (unwrap_or (get_by (compare_names s t) old) column)) (get_by (compare_names s t) old) differ))
    (cases_Bool is_same)
