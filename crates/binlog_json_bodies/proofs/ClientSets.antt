-- The client's collation, by the values of status variables, and its character set.
use Rattle.std.proofs.Common.{◌≡◌, ℕ, Bool, true, false, List, [], ◌∷◌, Option, None, Some, refl, sym, ap, ◌∙◌}
use Rattle.std.specs.Option.{option_or}
use Rattle.character_sets.specs.Collations.{set_of_collation, set_of_mariadb_collation, set_of_collation_in, mariadb_collations, set_in, or_else}
use Rattle.character_sets.specs.declared.character_set.CharacterSet.{CharacterSet}
use Rattle.binlog_file.specs.declared.StatusVarKey.{StatusVarKey}
use Rattle.binlog_file.specs.declared.StatusVarKey.TheVariants.{Flags2, SqlMode, Catalog, AutoIncrement, Charset, TimeZone, CatalogNz, LcTimeNames, CharsetDatabase, TableMapForUpdate, MasterDataWritten, Invoker, UpdatedDbNames, Microseconds, CommitTs, CommitTs2, ExplicitDefaultsForTimestamp, DdlLoggedWithXid, DefaultCollationForUtf8mb4, SqlRequirePrimaryKey, DefaultTableEncryption}
use Rattle.binlog_file.specs.StatusVariables.{Variable}
use Rattle.binlog_json_bodies.specs.ClientSets.{collation_under, collation_in, last_collation}

-- A collation that MySQL has, or MariaDB with such a number, has the same set in either server's log.
pub same_in_both : (is_maria : Bool) (number : ℕ) (set : CharacterSet) → set_of_collation number ≡ Some set → set_of_collation_in is_maria number ≡ Some set
same_in_both true number set is = ap (λ (o : Option CharacterSet). or_else o (set_in mariadb_collations number)) is
same_in_both false number set is = is

pub option_or_again : (a b c : Option ℕ) → option_or (option_or a b) c ≡ option_or a (option_or b c)
option_or_again None b c = refl
option_or_again (Some x) b c = refl

pub option_or_none : (a : Option ℕ) → option_or a None ≡ a
option_or_none None = refl
option_or_none (Some x) = refl

-- The next variable states a collation, or the one so far stays.
pub one_more : (so_far whole : Option ℕ) (left after : List Variable) (v : Variable) → option_or (last_collation left) so_far ≡ whole → left ≡ v ∷ after
    → option_or (last_collation after) (option_or (collation_in v) so_far) ≡ whole
one_more so_far whole left after v found is =
    sym (option_or_again (last_collation after) (collation_in v) so_far) ∙ sym (ap (λ (l : List Variable). option_or (last_collation l) so_far) is) ∙ found

-- No variable is left.
pub all_found : (so_far whole : Option ℕ) (left : List Variable) → option_or (last_collation left) so_far ≡ whole → left ≡ [] → so_far ≡ whole
all_found so_far whole left found none = sym (ap (λ (l : List Variable). option_or (last_collation l) so_far) none) ∙ found

-- A variable with another key than `Charset` states none.
pub other_key : (key : StatusVarKey) (value : List ℕ) → (key ≡ Charset → ⊥) → collation_under key value ≡ None
other_key Flags2 value other = refl
other_key SqlMode value other = refl
other_key Catalog value other = refl
other_key AutoIncrement value other = refl
other_key Charset value other = absurd (other refl)
other_key TimeZone value other = refl
other_key CatalogNz value other = refl
other_key LcTimeNames value other = refl
other_key CharsetDatabase value other = refl
other_key TableMapForUpdate value other = refl
other_key MasterDataWritten value other = refl
other_key Invoker value other = refl
other_key UpdatedDbNames value other = refl
other_key Microseconds value other = refl
other_key CommitTs value other = refl
other_key CommitTs2 value other = refl
other_key ExplicitDefaultsForTimestamp value other = refl
other_key DdlLoggedWithXid value other = refl
other_key DefaultCollationForUtf8mb4 value other = refl
other_key SqlRequirePrimaryKey value other = refl
other_key DefaultTableEncryption value other = refl
