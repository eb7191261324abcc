-- The patterns of tables, one after another.
use Rattle.std.proofs.Common.{◌≡◌, ◌⊎◌, inl, inr, ℕ, ◌+◌, ◌<◌, List, [], ◌∷◌, ◌++◌, length, take, map, get_or, Bor, sym, ap, ◌∙◌, subst}
use Rattle.std.proofs.lemmas.List.{get_or-map, length-map, map-append, take_more}
use Rattle.binlog_cli.specs.TableWords.{AreTables, HasNoTable, IsNoTable, IsTable}
use Rattle.binlog_cli.specs.declared.exit_status.Status.{Status}
use Rattle.binlog_cli.specs.declared.exit_status.Status.TheVariants.{Failed, Usage}
use Rattle.binlog_filters.specs.declared.tables.TablePattern.{TablePattern}

abbrev Text : Type 0
Text = List ℕ

abbrev texts_of : List (Bor Text) → List Text
texts_of names = map (λ (name : Bor Text). name.now) names

tables_more : (texts : List Text) (patterns : List TablePattern) (text : Text) (pattern : TablePattern) → AreTables texts patterns
    → IsTable text pattern.database.bytes.items pattern.table.bytes.items → AreTables (texts ++ text ∷ []) (patterns ++ pattern ∷ [])
tables_more [] [] text pattern are is = (is, tt)
tables_more [] (other ∷ patterns) text pattern are is = absurd are
tables_more (other ∷ texts) [] text pattern are is = absurd are
tables_more (other ∷ texts) (first ∷ patterns) text pattern are is = (are.0, tables_more texts patterns text pattern are.1 is)

-- One more name is that of a table.
pub tables_next : (names : List (Bor Text)) (i : ℕ) (none : Bor Text) (patterns : List TablePattern) (pattern : TablePattern) → i < length names → AreTables (texts_of (take i names)) patterns
    → IsTable (get_or names i none).now pattern.database.bytes.items pattern.table.bytes.items → AreTables (texts_of (take (i + 1) names)) (patterns ++ pattern ∷ [])
tables_next names i none patterns pattern within are is =
    let more : texts_of (take (i + 1) names) ≡ texts_of (take i names) ++ (get_or names i none).now ∷ [] =
    ap texts_of (take_more names i none within) ∙ map-append (λ (name : Bor Text). name.now) (take i names) (get_or names i none ∷ []) in
    subst (λ (texts : List Text). AreTables texts (patterns ++ pattern ∷ [])) (sym more)
    (tables_more (texts_of (take i names)) patterns (get_or names i none).now pattern are is)

-- A name isn't that of a table, or memory ran out.
pub refused_at : (names : List (Bor Text)) (i : ℕ) (none : Bor Text) (status : Status) → i < length names → ((status ≡ Usage) × IsNoTable (get_or names i none).now) ⊎ (status ≡ Failed)
    → ((status ≡ Usage) × HasNoTable (texts_of names)) ⊎ (status ≡ Failed)
refused_at names i none status within (inl none_is) =
    inl (
      none_is.0,
      (
        i,
        subst (λ (n : ℕ). i < n) (sym (length-map names (λ (name : Bor Text). name.now))) within,
        subst IsNoTable (sym (get_or-map (λ (name : Bor Text). name.now) names i none [] within)) none_is.1,
      ),
    )
refused_at names i none status within (inr failed) = inr failed
