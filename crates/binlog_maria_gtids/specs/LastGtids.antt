-- The last GTID of each replication domain and server in a list, and entries that keep these.
use Rattle.std.specs.Prelude.{◌≡◌, ℕ, ◌<◌, ◌≤◌, ◌==◌, Bool, ◌&&◌, List, [], ◌∷◌, length, slice_index_or, Option, Some, None, if◌then◌else◌}
use Rattle.std.specs.declared.cmp.Ordering.{Ordering}
use Rattle.std.specs.declared.cmp.Ordering.TheVariants.{Less, Equal, Greater}
use Rattle.std.specs.Ordering.{nat_cmp, then_cmp, on}
use Rattle.std.specs.Option.{option_or}
use Rattle.binlog_mariadb.specs.declared.maria_gtid.MariaGtid.{MariaGtid}

-- Where an event group comes from: a replication domain and the id of a server.
pub record Origin : Type 0 where
  pub domain : ℕ
  pub server_id : ℕ

-- The origin with these numbers.
abbrev pub origin : ℕ → ℕ → Origin
origin domain server_id = record { domain = domain; server_id = server_id }

-- The origin of a GTID.
abbrev pub origin_of : MariaGtid → Origin
origin_of gtid = origin gtid.domain gtid.server_id

-- The GTID has this origin.
abbrev pub is_of : Origin → MariaGtid → Bool
is_of o gtid = (gtid.domain == o.domain) && (gtid.server_id == o.server_id)

-- The sequence number of a GTID, if it has this origin.
abbrev pub sequence_for : Origin → MariaGtid → Option ℕ
sequence_for o gtid = if is_of o gtid then Some gtid.sequence else None

-- The sequence number of the last GTID in a list that has this origin; None if none has it.
abbrev pub last_of : List MariaGtid → Origin → Option ℕ
last_of [] o = None
last_of (gtid ∷ gtids) o = option_or (last_of gtids o) (sequence_for o gtid)

-- For each origin the entries have the same last sequence number as these GTIDs.
abbrev pub KeepLast : (gtids entries : List MariaGtid) → Type 0
KeepLast gtids entries = (o : Origin) → last_of entries o ≡ last_of gtids o

-- The order of origins: by domain, then by server id.
unfoldable pub compare_origins : Origin → Origin → Ordering
compare_origins = then_cmp (on (λ o. o.domain) nat_cmp) (on (λ o. o.server_id) nat_cmp)

-- The origins of the entries ascend, so each origin has at most one entry.
pub record AreAscending (entries : List MariaGtid) : Type 0 where
  pub ascending : (i j : ℕ) (d : MariaGtid) → i < j → j < length entries → compare_origins (origin_of (slice_index_or entries i d)) (origin_of (slice_index_or entries j d)) ≡ Less

-- The entry at this index has the origin.
pub record IsAt (entries : List MariaGtid) (o : Origin) (at : ℕ) : Type 0 where
  pub within : at < length entries
  pub same : (d : MariaGtid) → compare_origins (origin_of (slice_index_or entries at d)) o ≡ Equal

-- No entry has the origin; its entry would be inserted at this index.
pub record IsGapFor (entries : List MariaGtid) (o : Origin) (at : ℕ) : Type 0 where
  pub within : at ≤ length entries
  pub smaller : (j : ℕ) (d : MariaGtid) → j < at → compare_origins (origin_of (slice_index_or entries j d)) o ≡ Less
  pub greater : (j : ℕ) (d : MariaGtid) → at ≤ j → j < length entries → compare_origins (origin_of (slice_index_or entries j d)) o ≡ Greater
