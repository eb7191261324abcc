-- The flags of a GTID.
-- Source: MySQL's source documentation, `Gtid_event`.
use Rattle.std.specs.Prelude.{ℕ, List, [], ◌∷◌, codes}

-- The known flags, by name and number.
abbrev pub gtid_flags : List (List ℕ × ℕ)
gtid_flags = (codes "MAY_HAVE_SBR", 0x1) ∷ []
