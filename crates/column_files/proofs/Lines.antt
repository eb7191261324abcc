-- Lines, one after the other.
use Rattle.std.proofs.Common.{◌≡◌, ◌⊎◌, inl, inr, ℕ, ◌<◌, Bool, true, false, eqb, List, [], ◌∷◌, ◌++◌, length, Result, Ok, Err, refl, ap, ◌∙◌, arith}
use Rattle.std.specs.Prelude.{IfOk, IfErr}
use Rattle.std.proofs.lemmas.Bool.Decides.{nat_tests}
use Rattle.std.proofs.lemmas.List.{nil_from_length}
use Rattle.column_files.specs.declared.files.ColumnLine.{ColumnLine}
use Rattle.column_files.specs.declared.error.ColumnFileError.{ColumnFileError}
use Rattle.column_files.specs.declared.error.ColumnFileError.TheVariants.{Memory}
use Rattle.column_files.specs.Files.{IsBody, line_at, AreLines, IsFile, IsInvalidAfter, IsInvalid}

-- One line more.
pub one_more : (ls : List ColumnLine) (l : ColumnLine) (text mid rest : List ℕ) → AreLines text ls mid → line_at mid ≡ Ok (l, rest) → AreLines text (ls ++ l ∷ []) rest
one_more [] l text mid rest are next = (rest, ap line_at are ∙ next, refl)
one_more (x ∷ ls) l text mid rest are next = (are.0, are.1, one_more ls l are.0 mid rest are.2 next)

pub goes_on : (s : List ℕ) (b : Bool) → b ≡ eqb (length s) 0 → b ≡ false → 0 < length s
goes_on s b h more = grind (arith, nat_tests)

pub is_over : (s : List ℕ) (b : Bool) → b ≡ eqb (length s) 0 → b ≡ true → s ≡ []
is_over s b h over = nil_from_length s (grind (arith, nat_tests))

-- The lines behind the first one are those of the file.
pub file_read : {V E : Type 0} (items : V → List ColumnLine) (text body : List ℕ) (r : Result V E) → IsBody text body → IfOk r (λ (x : V). AreLines body (items x) []) → IfOk r (λ (x : V). IsFile text (items x))
file_read items text body (Ok x) is are = (body, is, are)
file_read items text body (Err e) is are = are

pub file_refused : {V : Type 0} (text body : List ℕ) (r : Result V ColumnFileError) → IsBody text body → IfErr r (λ (e : ColumnFileError). (e ≡ Memory) ⊎ IsInvalidAfter (length text) body e)
    → IfErr r (λ (e : ColumnFileError). (e ≡ Memory) ⊎ IsInvalid text e)
file_refused text body (Ok x) is bad = bad
file_refused text body (Err e) is bad = elim bad [ inl memory ↦ inl memory | inr after ↦ inr (inr (body, is, after)) ]
