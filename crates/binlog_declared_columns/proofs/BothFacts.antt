-- The facts of both sources, column by column.
use Rattle.std.proofs.Common.{◌≡◌, List, [], ◌∷◌, ◌++◌, length, map, refl, sym, ap, ◌∙◌, append_assoc, append-nil}
use Rattle.std.proofs.lemmas.List.{map-append}
use Rattle.binlog_optional_metadata.specs.Facts.{Facts, facts_of}
use Rattle.binlog_optional_metadata.specs.declared.column_facts.ColumnFacts.{ColumnFacts}
use Rattle.column_files.specs.Tables.{described}
use Rattle.column_files.specs.declared.tables.DeclaredColumn.{DeclaredColumn}
use Rattle.binlog_declared_columns.specs.Facts.{facts_of_both, all_facts, all_with}

-- The facts so far, with those of whatever is left, are those of all.
abbrev pub AreSoFar : (declared : List DeclaredColumn) (stated both : List ColumnFacts) (rest : List DeclaredColumn) → Type 0
AreSoFar declared stated both rest = (more : List Facts) → all_facts both ++ all_with more (map described rest) ≡ all_with (all_facts stated ++ more) (map described declared)

none_declared : (facts : List Facts) → all_with facts [] ≡ facts
none_declared [] = refl
none_declared (x ∷ facts) = refl

grown : (both new : List ColumnFacts) (fact : ColumnFacts) (after : Facts) (left : List Facts) → new ≡ both ++ fact ∷ [] → facts_of fact ≡ after → all_facts new ++ left ≡ all_facts both ++ after ∷ left
grown both new fact after left is of_fact =
    ap (λ (fs : List ColumnFacts). all_facts fs ++ left) is ∙ ap (λ (fs : List Facts). fs ++ left) (map-append facts_of both (fact ∷ []))
    ∙ append_assoc (all_facts both) (facts_of fact ∷ []) left ∙ ap (λ (f : Facts). all_facts both ++ f ∷ left) of_fact

joined : (stated : List ColumnFacts) (one : ColumnFacts) (more : List Facts) → all_facts stated ++ facts_of one ∷ more ≡ all_facts (stated ++ one ∷ []) ++ more
joined stated one more = sym (ap (λ (fs : List Facts). fs ++ more) (map-append facts_of stated (one ∷ [])) ∙ append_assoc (all_facts stated) (facts_of one ∷ []) more)

-- A column that the file has.
pub one_declared : (declared : List DeclaredColumn) (stated both new : List ColumnFacts) (rest behind : List DeclaredColumn) (column : DeclaredColumn) (one fact : ColumnFacts) → AreSoFar declared stated both rest
    → rest ≡ column ∷ behind → new ≡ both ++ fact ∷ [] → facts_of fact ≡ facts_of_both (facts_of one) (described column) (described column).type → AreSoFar declared (stated ++ one ∷ []) new behind
one_declared declared stated both new rest behind column one fact so_far first is of_fact = λ more.
    grown both new fact (facts_of_both (facts_of one) (described column) (described column).type) (all_with more (map described behind)) is of_fact
    ∙ ap (λ (ds : List DeclaredColumn). all_facts both ++ all_with (facts_of one ∷ more) (map described ds)) (sym first) ∙ so_far (facts_of one ∷ more)
    ∙ ap (λ (fs : List Facts). all_with fs (map described declared)) (joined stated one more)

-- A column that the file doesn't have.
pub one_alone : (declared : List DeclaredColumn) (stated both new : List ColumnFacts) (rest : List DeclaredColumn) (one : ColumnFacts) → AreSoFar declared stated both rest → rest ≡ [] → new ≡ both ++ one ∷ []
    → AreSoFar declared (stated ++ one ∷ []) new rest
one_alone declared stated both new rest one so_far none is = λ more.
    ap (λ (ds : List DeclaredColumn). all_facts new ++ all_with more (map described ds)) none ∙ ap (λ (fs : List Facts). all_facts new ++ fs) (none_declared more)
    ∙ grown both new one (facts_of one) more is refl
    ∙ ap (λ (ds : List DeclaredColumn). all_facts both ++ all_with (facts_of one ∷ more) (map described ds)) (sym none) ∙ so_far (facts_of one ∷ more)
    ∙ ap (λ (fs : List Facts). all_with fs (map described declared)) (joined stated one more)

-- No column is left.
pub none_left : (declared : List DeclaredColumn) (stated both : List ColumnFacts) (rest : List DeclaredColumn) → AreSoFar declared stated both rest → all_facts both ≡ all_with (all_facts stated) (map described declared)
none_left declared stated both rest so_far =
    sym (append-nil (all_facts both)) ∙ so_far [] ∙ ap (λ (fs : List Facts). all_with fs (map described declared)) (append-nil (all_facts stated))

-- None before the first.
pub none_before : (declared : List DeclaredColumn) → AreSoFar declared [] [] declared
none_before declared = λ more. refl

-- No columns.
pub no_columns : (columns : List DeclaredColumn) → length columns ≡ 0 → columns ≡ []
no_columns [] none = refl
no_columns (column ∷ columns) none = absurd cc
