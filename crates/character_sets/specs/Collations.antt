-- The character sets of collations, by their numbers.
use Rattle.std.specs.Prelude.{◌&&◌, ℕ, Bool, List, Option, Some, None, nat_le, find, if◌then◌else◌}
use Rattle.std.specs.Option.{option_map}
use Rattle.character_sets.specs.declared.character_set.CharacterSet.{CharacterSet}
use Rattle.character_sets.specs.declared.collations.TheConstants.{COLLATIONS, MARIADB_COLLATIONS}

-- The first and the last number of collations of one set.
abbrev pub Numbers : Type 0
Numbers = ℕ × ℕ × CharacterSet

-- The number is among those.
abbrev pub are_with : ℕ → Numbers → Bool
are_with number numbers = nat_le numbers.0 number && nat_le number numbers.1

-- The set of a number: that of the first of such numbers that it is among.
abbrev pub set_in : List Numbers → ℕ → Option CharacterSet
set_in table number = option_map (λ numbers. numbers.2) (find (are_with number) table)

unfoldable pub collations : List Numbers
collations = COLLATIONS

unfoldable pub mariadb_collations : List Numbers
mariadb_collations = MARIADB_COLLATIONS

abbrev pub set_of_collation : ℕ → Option CharacterSet
set_of_collation number = set_in collations number

abbrev pub or_else : Option CharacterSet → Option CharacterSet → Option CharacterSet
or_else None other = other
or_else (Some set) other = Some set

abbrev pub set_of_mariadb_collation : ℕ → Option CharacterSet
set_of_mariadb_collation number = or_else (set_of_collation number) (set_in mariadb_collations number)

-- The set of a number by the server that numbers collations.
abbrev pub set_of_collation_in : (is_mariadb : Bool) → ℕ → Option CharacterSet
set_of_collation_in is_mariadb number = if is_mariadb then set_of_mariadb_collation number else set_of_collation number
