-- Character sets of columns, one pair at a time, and by either kind of field.
use Rattle.std.proofs.Common.{◌≡◌, ℕ, zero, suc, ◌<◌, Bool, true, false, Option, None, Some, List, [], ◌∷◌, length, get_or, map, refl, sym}
use Rattle.std.specs.Prelude.{option_map}
use Rattle.character_sets.specs.declared.character_set.CharacterSet.{CharacterSet}
use Rattle.character_sets.specs.Collations.{collations, mariadb_collations}
use Rattle.binlog_optional_metadata.specs.declared.collations.Collations.{Collations}
use Rattle.binlog_optional_metadata.specs.declared.collations.Collations.TheVariants as sets
use Rattle.binlog_optional_metadata.specs.Stated.{collation_or_default, set_numbered, set_stated}
use Rattle.binlog_optional_metadata.specs.StatedFields.{collations_content, members_content}

-- The sets of these columns behind these pairs.
pub record AreSets (is_maria_log : Bool) (columns default : ℕ) (pairs : List (ℕ × ℕ)) (sets : List (Option CharacterSet)) : Type 0 where
  pub count : length sets ≡ columns
  pub each : (index : ℕ) → index < columns → get_or sets index None ≡ set_numbered is_maria_log (collation_or_default (default, pairs) index)

-- No collation has the number 0, by which a column without a collation is read.
no_collation : (is_maria_log : Bool) → set_numbered is_maria_log 0 ≡ None
unfolding set_numbered collations mariadb_collations
no_collation true = refl
no_collation false = refl

-- The set of each column's own collation.
pub own_set : (is_maria_log : Bool) (numbers : List ℕ) (index : ℕ) → get_or (map (set_numbered is_maria_log) numbers) index None ≡ set_numbered is_maria_log (get_or numbers index 0)
own_set is_maria_log [] index = sym (no_collation is_maria_log)
own_set is_maria_log (n ∷ ns) zero = refl
own_set is_maria_log (n ∷ ns) (suc index) = own_set is_maria_log ns index

-- Both kinds of fields state sets in the same way.
pub by_members : (is_maria_log : Bool) (stated : Option Collations) (index : ℕ)
    → set_stated is_maria_log (option_map collations_content stated) index ≡ set_stated is_maria_log (option_map members_content stated) index
by_members is_maria_log None index = refl
by_members is_maria_log (Some (sets.Default view)) index = refl
by_members is_maria_log (Some (sets.Each numbers)) index = refl
