-- The lines of MariaDB's GTIDs.
use Rattle.std.specs.Prelude.{ℕ, nat_lt, Bool, true, List, [], ◌∷◌, ◌++◌, Option, None, Some, decimal, codes, if◌then◌else◌}
use Rattle.binlog_mariadb.specs.declared.maria_gtid.MariaGtid.{MariaGtid}
use Rattle.binlog_maria_gtids.specs.LastGtids.{origin_of, last_of}

-- `domain-server_id-sequence`, as MariaDB writes a GTID
abbrev pub maria_line : MariaGtid → List ℕ
maria_line gtid = decimal gtid.domain ++ (codes "-" ++ (decimal gtid.server_id ++ (codes "-" ++ (decimal gtid.sequence ++ codes "\n"))))

-- The last sequence number is less than this one, or there is none.
abbrev pub is_before : Option ℕ → ℕ → Bool
is_before None sequence = true
is_before (Some last) sequence = nat_lt last sequence

-- Others lack the GTID: they have none of its domain and server, or their last one has a lesser sequence number.
abbrev pub is_missing_in : List MariaGtid → MariaGtid → Bool
is_missing_in others gtid = is_before (last_of others (origin_of gtid)) gtid.sequence

-- The line of a GTID that others lack; nothing of one that they have.
abbrev pub missing_line : List MariaGtid → MariaGtid → List ℕ
missing_line others gtid = if is_missing_in others gtid then maria_line gtid else []

-- The lines of the GTIDs that others lack, in order. An empty list lacks all.
abbrev pub maria_lines : List MariaGtid → List MariaGtid → List ℕ
maria_lines others [] = []
maria_lines others (gtid ∷ gtids) = missing_line others gtid ++ maria_lines others gtids
