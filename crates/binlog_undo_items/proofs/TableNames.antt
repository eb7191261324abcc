-- Texts that name tables.
use Rattle.std.proofs.Common.{◌≡◌, ◌≢◌, ℕ, ◌+◌, ◌<◌, ◌≤◌, arith, List, [], ◌∷◌, ◌++◌, length, map, take, drop, get_or, refl, sym, ◌∙◌, ap, subst}
use Rattle.std.proofs.lemmas.List.{length-append, map-append, take_all, take_more}
use Rattle.std.specs.List.{AllByRecursion}
use Rattle.binlog_filters.specs.declared.tables.TablePattern.{TablePattern}
use Rattle.binlog_undo_items.specs.Tables.{AreTablesAt, HasNoZero, IsNameAt, IsNoTable, IsTableAt, names_in}

names_more : (text : List ℕ) (tables : List (List ℕ × List ℕ)) (mid database table rest : List ℕ) → AreTablesAt text tables mid → IsTableAt mid database table rest
    → AreTablesAt text (tables ++ (database, table) ∷ []) rest
names_more text [] mid database table rest is one = (rest, subst (λ (s : List ℕ). IsTableAt s database table rest) (sym is) one, refl)
names_more text (first ∷ tables) mid database table rest are one = (are.0, are.1, names_more are.0 tables mid database table rest are.2 one)

-- One more pattern.
pub pattern_more : (text mid rest : List ℕ) (patterns : List TablePattern) (pattern : TablePattern) → AreTablesAt text (map names_in patterns) mid
    → IsTableAt mid pattern.database.bytes.items pattern.table.bytes.items rest → AreTablesAt text (map names_in (patterns ++ pattern ∷ [])) rest
pattern_more text mid rest patterns pattern are one =
    subst (λ (names : List (List ℕ × List ℕ)). AreTablesAt text names rest) (sym (map-append names_in patterns (pattern ∷ [])))
    (names_more text (map names_in patterns) mid pattern.database.bytes.items pattern.table.bytes.items rest are one)

-- ---- names

none_more : (xs : List ℕ) (x : ℕ) → HasNoZero xs → x ≢ 0 → HasNoZero (xs ++ x ∷ [])
none_more [] x h k = (k, tt)
none_more (first ∷ xs) x h k = (h.0, none_more xs x h.1 k)

-- One more byte that isn't zero.
pub none_next : (text : List ℕ) (len none : ℕ) → len < length text → HasNoZero (take len text) → get_or text len none ≢ 0 → HasNoZero (take (len + 1) text)
none_next text len none within h k = subst HasNoZero (sym (take_more text len none within)) (none_more (take len text) (get_or text len none) h k)

pub none_in : (text : List ℕ) (len : ℕ) → length text ≤ len → HasNoZero (take len text) → HasNoZero text
none_in text len behind h = subst HasNoZero (take_all len text behind) h

zero_within : (name rest : List ℕ) → HasNoZero (name ++ 0 ∷ rest) → ⊥
zero_within [] rest h = h.0 refl
zero_within (byte ∷ name) rest h = zero_within name rest h.1

-- A name and its zero aren't at the front of a text without a zero.
no_name : (text name rest : List ℕ) → HasNoZero text → IsNameAt text name rest → ⊥
no_name text name rest none at = zero_within name rest (subst HasNoZero at.is none)

pub no_first : (text : List ℕ) → HasNoZero text → IsNoTable text
no_first text none = λ database table rest is. no_name text database is.behind none is.first

same_behind : (name other rest behind : List ℕ) → HasNoZero name → HasNoZero other → name ++ 0 ∷ rest ≡ other ++ 0 ∷ behind → rest ≡ behind
same_behind [] [] rest behind h k e = cc
same_behind [] (byte ∷ other) rest behind h k e =
    let first : 0 ≡ byte = cc in
    absurd (k.0 (sym first))
same_behind (byte ∷ name) [] rest behind h k e =
    let first : byte ≡ 0 = cc in
    absurd (h.0 first)
same_behind (byte ∷ name) (another ∷ other) rest behind h k e =
    let others : name ++ 0 ∷ rest ≡ other ++ 0 ∷ behind = cc in
    same_behind name other rest behind h.1 k.1 others

pub no_second : (text name behind : List ℕ) → IsNameAt text name behind → HasNoZero behind → IsNoTable text
no_second text name behind at none =
    λ database table rest is.
    let same : behind ≡ is.behind = same_behind name database behind is.behind at.named is.first.named (sym at.is ∙ is.first.is) in
    no_name is.behind table rest (subst HasNoZero same none) is.second

-- A table takes bytes.
pub shorter : (text database table rest : List ℕ) → IsTableAt text database table rest → length rest < length text
shorter text database table rest is =
    let first : length text ≡ length database + length (0 ∷ is.behind) = ap length is.first.is ∙ length-append database (0 ∷ is.behind) in
    let second : length is.behind ≡ length table + length (0 ∷ rest) = ap length is.second.is ∙ length-append table (0 ∷ rest) in
    omega (arith, first, second)

-- One more pattern, with these names.
pub pattern_next : (text mid rest database table : List ℕ) (patterns new : List TablePattern) (pattern : TablePattern) → AreTablesAt text (map names_in patterns) mid
    → IsTableAt mid database table rest → pattern.database.bytes.items ≡ database → pattern.table.bytes.items ≡ table → new ≡ patterns ++ pattern ∷ [] → AreTablesAt text (map names_in new) rest
pattern_next text mid rest database table patterns new pattern are one named called more =
    rw more (pattern_more text mid rest patterns pattern are (rw (named, called) one))
