-- Counts of rows: sums of two states, and a state with one row more.
use Rattle.std.proofs.Common.{◌≡◌, ◌⊎◌, inl, inr, ℕ, ◌+◌, ◌-◌, ◌<◌, Option, None, Some, refl, sym, ◌∙◌, ap, subst, arith, add_comm, add_assoc, add-zero}
use Rattle.std.proofs.Math.Path.{fun_ext}
use Rattle.table_changes.specs.Changes.{State, IsWith}
use Rattle.table_changes.specs.Parts.{EqualOrNot, nothing}

module _ {Table Row : Type 0} where
  -- States that have each row as often are the same.
  pub same : {s t : State Table Row} → ((table : Table) (row : Row) → s table row ≡ t table row) → s ≡ t
  same h = fun_ext (λ table. fun_ext (h table))

  -- The rows of both.
  abbrev pub plus : State Table Row → State Table Row → State Table Row
  plus s t = λ table row. s table row + t table row

  pub plus-comm : (s t : State Table Row) → plus s t ≡ plus t s
  plus-comm s t = same (λ table row. add_comm (s table row) (t table row))

  pub plus-assoc : (s t u : State Table Row) → plus (plus s t) u ≡ plus s (plus t u)
  plus-assoc s t u = same (λ table row. add_assoc (s table row) (t table row) (u table row))

  pub plus-nothing : (s : State Table Row) → plus s nothing ≡ s
  plus-nothing s = same (λ table row. omega arith)

  -- More rows on both sides.
  pub with_more : (table : Table) (row : Option Row) (s t u : State Table Row) → IsWith table row s t → IsWith table row (plus u s) (plus u t)
  with_more table None s t u h = ap (plus u) h
  with_more table (Some row) s t u h = record {
    here = let e = h.here in omega arith;
    elsewhere = λ other another not_so. ap (λ n. u other another + n) (h.elsewhere other another not_so);
  }

  pub with_more_behind : (table : Table) (row : Option Row) (s t u : State Table Row) → IsWith table row s t → IsWith table row (plus s u) (plus t u)
  with_more_behind table row s t u h =
      subst (λ x. IsWith table row x (plus t u)) (plus-comm u s) (subst (λ x. IsWith table row (plus u s) x) (plus-comm u t) (with_more table row s t u h))

-- 1 if it holds, else 0.
abbrev pub one_if : {A : Type 0} → A ⊎ (¬ A) → ℕ
one_if (inl _) = 1
one_if (inr _) = 0

pub one-if-yes : {A : Type 0} (d : A ⊎ (¬ A)) → A → one_if d ≡ 1
one-if-yes (inl _) a = refl
one-if-yes (inr not_so) a = absurd (not_so a)

pub one-if-not_so : {A : Type 0} (d : A ⊎ (¬ A)) → (¬ A) → one_if d ≡ 0
one-if-not_so (inl a) not_so = absurd (not_so a)
one-if-not_so (inr _) not_so = refl

module _ {Table Row : Type 0} (tables : EqualOrNot Table) (rows : EqualOrNot Row) where
  -- Whether this is the row of this table.
  abbrev pub IsPlace : (table other : Table) (row another : Row) → Type 0
  IsPlace table other row another = (other ≡ table) × (another ≡ row)

  pub place_or_not : (table other : Table) (row another : Row) → IsPlace table other row another ⊎ (¬ IsPlace table other row another)
  place_or_not table other row another =
      elim (tables other table) [
        | inl e ↦ elim (rows another row) [ inl f ↦ inl (e, f) | inr not_so ↦ inr (λ h. not_so h.1) ]
        | inr not_so ↦ inr (λ h. not_so h.0)
      ]

  -- Two states that are a third one with the same row more are the same.
  pub one_with : (table : Table) (row : Option Row) (s t u : State Table Row) → IsWith table row s t → IsWith table row s u → t ≡ u
  one_with table None s t u h k = h ∙ sym k
  one_with table (Some row) s t u h k = same (λ other another. elim (place_or_not table other row another) [
    | inl e ↦ subst (λ x. t x another ≡ u x another) (sym e.0) (subst (λ y. t table y ≡ u table y) (sym e.1) (h.here ∙ sym k.here))
    | inr not_so ↦ h.elsewhere other another not_so ∙ sym (k.elsewhere other another not_so)
  ])

  -- And so are two states to which the row has to be added for a third one.
  pub one_without : (table : Table) (row : Option Row) (s t u : State Table Row) → IsWith table row s u → IsWith table row t u → s ≡ t
  one_without table None s t u h k = sym h ∙ k
  one_without table (Some row) s t u h k = same (λ other another. elim (place_or_not table other row another) [
    | inl e ↦ subst (λ x. s x another ≡ t x another) (sym e.0) (subst (λ y. s table y ≡ t table y) (sym e.1)
        (let a = h.here in let b = k.here in omega arith))
    | inr not_so ↦ sym (h.elsewhere other another not_so) ∙ k.elsewhere other another not_so
  ])

  -- This row of this table alone, once.
  abbrev pub single : Table → Row → State Table Row
  single table row = λ other another. one_if (place_or_not table other row another)

  abbrev pub single_if : Table → Option Row → State Table Row
  single_if table None = nothing
  single_if table (Some row) = single table row

  -- A state with one row more.
  pub with_single : (table : Table) (row : Option Row) (s : State Table Row) → IsWith table row s (plus s (single_if table row))
  with_single table None s = plus-nothing s
  with_single table (Some row) s = record {
    here = ap (λ n. s table row + n) (one-if-yes (place_or_not table table row row) (refl, refl));
    elsewhere = λ other another not_so. ap (λ n. s other another + n) (one-if-not_so (place_or_not table other row another) not_so) ∙ add-zero (s other another);
  }

  -- A state without a row that is there.
  abbrev pub without : Table → Row → State Table Row → State Table Row
  without table row s = λ other another. s other another - single table row other another

  pub with_again : (table : Table) (row : Row) (s : State Table Row) → 0 < s table row → IsWith table (Some row) (without table row s) s
  with_again table row s there = record {
    here = let e = one-if-yes (place_or_not table table row row) (refl, refl) in omega (arith, e);
    elsewhere = λ other another not_so. let e = one-if-not_so (place_or_not table other row another) not_so in omega (arith, e);
  }
