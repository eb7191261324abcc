-- The flags of a GTID.
-- Source: MariaDB's documentation, "GTID_EVENT".
use Rattle.std.specs.Prelude.{ℕ, List, [], ◌∷◌, codes}

-- The flags of a GTID, by name and number.
abbrev pub maria_gtid_flags : List (List ℕ × ℕ)
maria_gtid_flags =
    (codes "FL_STANDALONE", 0x1) ∷
    (codes "FL_GROUP_COMMIT_ID", 0x2) ∷
    (codes "FL_TRANSACTIONAL", 0x4) ∷
    (codes "FL_ALLOW_PARALLEL", 0x8) ∷
    (codes "FL_WAITED", 0x10) ∷
    (codes "FL_DDL", 0x20) ∷
    (codes "FL_PREPARED_XA", 0x40) ∷
    (codes "FL_COMPLETED_XA", 0x80) ∷
    []
